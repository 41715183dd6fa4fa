-- One text put after another: both were appended, or a prefix of both was.
use Rattle.std.proofs.Common.{◌≡◌, ℕ, zero, suc, ◌+◌, ◌≤◌, List, [], ◌∷◌, ◌++◌, Bool, true, false, Option, length, take}
use Rattle.std.proofs.Common.{refl, sym, ap, ◌∙◌, subst, arith}
use Rattle.std.specs.Bool.{OnFalse, OnTrue}
use Rattle.std.proofs.lemmas.List.{length-append, take_all}
use Rattle.span_io.specs.Faults.{Rose}
use Rattle.span_io.specs.Puts.{Appended, Appends}
use Rattle.span_io.proofs.Streams.{appended_nothing, appended-append}
use Rattle.page_file.specs.WrittenFiles.{AppendsPrefix}
use Rattle.page_file.specs.Internal.Puts.{PutsText, StopsPutting}

pub puts-nothing : (written : Option (List ℕ)) (faults : ℕ) → PutsText written written faults faults []
puts-nothing written faults = record { appended = appended_nothing written; no_fault = refl }

pub puts-more : (w v u : Option (List ℕ)) (f g h : ℕ) (text more : List ℕ) → PutsText w v f g text →
    PutsText v u g h more → PutsText w u f h (text ++ more)
puts-more w v u f g h text more one two = record {
  appended = appended-append w v u text more one.appended two.appended;
  no_fault = two.no_fault ∙ one.no_fault;
}

-- the first bytes of two texts
take-first : (n : ℕ) (text more : List ℕ) → n ≤ length text → take n (text ++ more) ≡ take n text
take-first zero text more within = refl
take-first (suc n) [] more within = absurd (omega (arith, within))
take-first (suc n) (byte ∷ text) more within =
    ap (λ bytes. byte ∷ bytes) (take-first n text more (omega (arith, within)))

take-second : (n : ℕ) (text more : List ℕ) → take (length text + n) (text ++ more) ≡ text ++ take n more
take-second n [] more = ap (λ k. take k more) (omega arith)
take-second n (byte ∷ text) more =
    let e : length (byte ∷ text) + n ≡ suc (length text + n) = omega arith in
    ap (λ k. take k (byte ∷ (text ++ more))) e ∙ ap (λ bytes. byte ∷ bytes) (take-second n text more)

-- stopped in the first text
pub stops-early : (w v : Option (List ℕ)) (f g : ℕ) (text more : List ℕ) → StopsPutting w v f g text →
    StopsPutting w v f g (text ++ more)
stops-early w v f g text more stops = record {
  prefix = record {
    count = stops.prefix.count;
    within = omega (arith, stops.prefix.within, length-append text more);
    appended =
        subst (Appended w v) (sym (take-first stops.prefix.count text more stops.prefix.within)) stops.prefix.appended;
  };
  rose = stops.rose;
}

-- stopped in the second
pub stops-later : (w v u : Option (List ℕ)) (f g h : ℕ) (text more : List ℕ) → PutsText w v f g text →
    StopsPutting v u g h more → StopsPutting w u f h (text ++ more)
stops-later w v u f g h text more one stops = record {
  prefix = record {
    count = length text + stops.prefix.count;
    within = omega (arith, stops.prefix.within, length-append text more);
    appended = subst (Appended w u) (sym (take-second stops.prefix.count text more))
        (appended-append w v u text (take stops.prefix.count more) one.appended stops.prefix.appended);
  };
  rose = subst (λ n. Rose n h) one.no_fault stops.rose;
}

-- all of it is a prefix too, where nothing was written after it
pub prefix_whole : (w v u : Option (List ℕ)) (text : List ℕ) → Appended w v text → u ≡ v → AppendsPrefix w u text
prefix_whole w v u text all stays = record {
  count = length text;
  within = omega arith;
  appended =
      subst (λ v. Appended w v (take (length text) text)) (sym stays)
      (subst (Appended w v) (sym (take_all (length text) text (omega arith))) all);
}

-- what put_all answers
pub puts-all : (w v : Option (List ℕ)) (b d : Bool) (f g : ℕ) (bytes text : List ℕ) → bytes ≡ text →
    Appends w v b d bytes → g ≡ f → PutsText w v f g text
puts-all w v b d f g bytes text same all quiet =
    record { appended = subst (Appended w v) same all.appended; no_fault = quiet }

pub stops-all : (w v : Option (List ℕ)) (b d : Bool) (f g : ℕ) (bytes text : List ℕ) → bytes ≡ text →
    ((n : ℕ) × (n ≤ length bytes) × Appends w v b d (take n bytes)) → Rose f g →
    StopsPutting w v f g text
stops-all w v b d f g bytes text same front rose = subst (StopsPutting w v f g) same (record {
  prefix = record { count = front.0; within = front.1; appended = front.2.appended };
  rose = rose;
})

-- what follows from a promise for one answer
pub on-true : {P Q : Type 0} → (b : Bool) → (P → Q) → OnTrue b P → OnTrue b Q
on-true {P} {Q} true step holds = step holds
on-true {P} {Q} false step holds = tt

pub on-false : {P Q : Type 0} → (b : Bool) → (P → Q) → OnFalse b P → OnFalse b Q
on-false {P} {Q} true step holds = tt
on-false {P} {Q} false step holds = step holds

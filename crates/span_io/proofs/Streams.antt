-- One read after another takes the bytes of both, and one put after another is a put of both.
use Rattle.std.proofs.Common.{◌≡◌, ℕ, ◌+◌, ◌<◌, List, [], ◌∷◌, ◌++◌, Bool, false, Option, None, Some, length, take}
use Rattle.std.proofs.Common.{drop, option_map, refl, sym, ◌∙◌, ap, subst, arith, append_assoc, take-append-drop}
use Rattle.std.proofs.Common.{length-take-le}
use Rattle.std.proofs.lemmas.List.{append-nil, take-take, drop-take}
use Rattle.span_io.specs.Reads.{Consumed, GotBytes}
use Rattle.span_io.specs.Puts.{Appended, flushed_after, Appends}
use Rattle.span_io.specs.Writes.{TookBytes}

pub consumed_nothing : (left : Option (List ℕ)) → Consumed left left []
consumed_nothing None = refl
consumed_nothing (Some rest) = refl

pub consumed-append : (first second third : Option (List ℕ)) (xs ys : List ℕ) → Consumed first second xs →
    Consumed second third ys → Consumed first third (xs ++ ys)
consumed-append first second None xs ys one two = one ∙ ap (option_map (λ (rest : List ℕ). xs ++ rest)) two
consumed-append first second (Some rest) xs ys one two =
    one ∙ ap (option_map (λ (tail : List ℕ). xs ++ tail)) two ∙
    ap (λ (bytes : List ℕ). Some bytes) (sym (append_assoc xs ys rest))

-- bytes that a read gave, as those taken from the front
pub consumed_got : (left new_left : Option (List ℕ)) (faults new_faults : ℕ) (buffer : List ℕ) (n : ℕ) →
    GotBytes left new_left faults new_faults buffer n → Consumed left new_left (take n buffer)
consumed_got None new_left faults new_faults buffer n got =
    ap (option_map (λ (rest : List ℕ). take n buffer ++ rest)) (sym got.gone)
consumed_got (Some bytes) new_left faults new_faults buffer n got =
    ap (λ (all : List ℕ). Some all) (sym (take-append-drop n bytes))
    ∙ ap (λ (front : List ℕ). Some (front ++ drop n bytes)) (sym got.same)
    ∙ ap (option_map (λ (rest : List ℕ). take n buffer ++ rest)) (sym got.gone)

pub appended_nothing : (written : Option (List ℕ)) → Appended written written []
appended_nothing None = refl
appended_nothing (Some before) = ap (λ (bytes : List ℕ). Some bytes) (sym (append-nil before))

pub appended-append : (first second third : Option (List ℕ)) (xs ys : List ℕ) → Appended first second xs →
    Appended second third ys → Appended first third (xs ++ ys)
appended-append None second third xs ys one two = two ∙ ap (option_map (λ (before : List ℕ). before ++ ys)) one
appended-append (Some before) second third xs ys one two =
    two ∙ ap (option_map (λ (before : List ℕ). before ++ ys)) one ∙
    ap (λ (bytes : List ℕ). Some bytes) (append_assoc before xs ys)

pub flushed_after-append : (flushed : Bool) (xs ys : List ℕ) →
    flushed_after (flushed_after flushed xs) ys ≡ flushed_after flushed (xs ++ ys)
flushed_after-append flushed [] ys = refl
flushed_after-append flushed (x ∷ xs) [] = refl
flushed_after-append flushed (x ∷ xs) (y ∷ ys) = refl

pub flushed_after_some : (flushed : Bool) (bytes : List ℕ) → 0 < length bytes → flushed_after flushed bytes ≡ false
flushed_after_some flushed [] some = absurd (omega arith)
flushed_after_some flushed (byte ∷ more) some = refl

pub put_nothing : (written : Option (List ℕ)) (flushed : Bool) → Appends written written flushed flushed []
put_nothing written flushed = record { appended = appended_nothing written; flushed_is = refl }

pub put-append : (first second third : Option (List ℕ)) (f g h : Bool) (xs ys : List ℕ) → Appends first second f g xs →
    Appends second third g h ys → Appends first third f h (xs ++ ys)
put-append first second third f g h xs ys one two = record {
  appended = appended-append first second third xs ys one.appended two.appended;
  flushed_is = two.flushed_is ∙ ap (λ (b : Bool). flushed_after b ys) one.flushed_is ∙ flushed_after-append f xs ys;
}

pub take_parts : (m n : ℕ) (xs : List ℕ) → take m xs ++ take n (drop m xs) ≡ take (m + n) xs
take_parts m n xs =
    let front : take m (take (m + n) xs) ≡ take m xs = take-take m (m + n) xs (omega arith) in
    let back : drop m (take (m + n) xs) ≡ take n (drop m xs) = drop-take m n xs in
    ap (λ (l : List ℕ). l ++ take n (drop m xs)) (sym front) ∙
    ap (λ (l : List ℕ). take m (take (m + n) xs) ++ l) (sym back) ∙ take-append-drop m (take (m + n) xs)

-- bytes that a sink took, as a put of them
pub put_taken : (written new_written : Option (List ℕ)) (flushed new_flushed : Bool) (faults new_faults : ℕ)
    (from : List ℕ) (n : ℕ) → TookBytes written new_written new_flushed faults new_faults from n →
    Appends written new_written flushed new_flushed (take n from)
put_taken written new_written flushed new_flushed faults new_faults from n took = record {
  appended = took.appended;
  flushed_is =
      took.unflushed ∙ sym (flushed_after_some flushed (take n from)
      (omega (arith, length-take-le n from took.within, took.some_byte)));
}

-- the first `at` bytes of a list were put, and then n of the rest were taken
pub put_more : (first second third : Option (List ℕ)) (f g h : Bool) (faults new_faults : ℕ) (bytes : List ℕ)
    (at n : ℕ) → Appends first second f g (take at bytes) →
    TookBytes second third h faults new_faults (drop at bytes) n → Appends first third f h (take (at + n) bytes)
put_more first second third f g h faults new_faults bytes at n so_far took =
    subst (Appends first third f h) (take_parts at n bytes)
    (put-append first second third f g h (take at bytes) (take n (drop at bytes)) so_far
    (put_taken second third g h faults new_faults (drop at bytes) n took))

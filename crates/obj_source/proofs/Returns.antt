-- The CR at the end of a word, found by its last byte.
use Rattle.std.proofs.Common.{◌≡◌, ◌≢◌, ℕ, ◌-◌, Bool, true, false, eqb, List, [], ◌∷◌, length, take, get_or, Option}
use Rattle.std.proofs.Common.{Some, None, arith, ap, sym, ◌∙◌, refl}
use Rattle.std.specs.Option.{option_eq, option_copied}
use Rattle.std.specs.List.{slice_get}
use Rattle.std.proofs.lemmas.Option.{get_or_from_slice_get, slice_get-get_or}
use Rattle.std.proofs.lemmas.Bool.{eqb-true}
use Rattle.std.proofs.lemmas.Bool.Decides.{nat_tests}
use denote.Bor.{Bor}
use Rattle.obj_source.specs.Lines.{without_return}
use Rattle.obj_source.proofs.LineWords.{without_return-yes, without_return-no}

-- whether the last byte is this one
abbrev pub is_at_end : Option (Bor ℕ) → Bor ℕ → Bool
is_at_end last byte = option_eq (λ x y. eqb x.now y.now) last (Some byte)

before_last : (b : ℕ) (rest : List ℕ) → length (b ∷ rest) - 1 ≡ length rest
before_last b rest = omega arith

differ : (a b : ℕ) → eqb a b ≡ false → a ≢ b
differ a b e is = absurd (grind (arith, nat_tests))

-- where it is a CR it is dropped
pub without_return-dropped : (last : Option (Bor ℕ)) (byte : Bor ℕ) (word : List ℕ) → byte.now ≡ 13 →
    option_copied last ≡ slice_get word (length word - 1) → is_at_end last byte ≡ true →
    without_return word ≡ take (length word - 1) word
without_return-dropped None byte word cr found e = absurd (cc)
without_return-dropped (Some x) byte [] cr found e = absurd (cc)
without_return-dropped (Some x) byte (b ∷ rest) cr found e =
    let last = get_or_from_slice_get (b ∷ rest) (length (b ∷ rest) - 1) x.now 0 (sym found) in
    let here : get_or (b ∷ rest) (length rest) 0 ≡ 13 =
    ap (λ n. get_or (b ∷ rest) n 0) (sym (before_last b rest)) ∙ last ∙ eqb-true x.now byte.now e ∙ cr in
    without_return-yes (b ∷ rest) (length rest) refl here ∙ ap (λ n. take n (b ∷ rest)) (sym (before_last b rest))

-- and else nothing is
pub without_return-kept : (last : Option (Bor ℕ)) (byte : Bor ℕ) (word : List ℕ) → byte.now ≡ 13 →
    option_copied last ≡ slice_get word (length word - 1) → is_at_end last byte ≡ false → without_return word ≡ word
unfolding without_return
without_return-kept last byte [] cr found e = refl
without_return-kept None byte (b ∷ rest) cr found e =
    let some = slice_get-get_or (b ∷ rest) (length (b ∷ rest) - 1) 0 (omega arith) in
    absurd (cc)
without_return-kept (Some x) byte (b ∷ rest) cr found e =
    let last = get_or_from_slice_get (b ∷ rest) (length (b ∷ rest) - 1) x.now 0 (sym found) in
    let same : get_or (b ∷ rest) (length rest) 0 ≡ x.now =
    ap (λ n. get_or (b ∷ rest) n 0) (sym (before_last b rest)) ∙ last in
    let here : get_or (b ∷ rest) (length rest) 0 ≢ 13 = λ is. differ x.now byte.now e (sym same ∙ is ∙ sym cr) in
    without_return-no (b ∷ rest) (length rest) refl here

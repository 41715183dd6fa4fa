-- Texts that stand in the bytes of a file, one after the other, up to its end; and what is cut of them.
use Rattle.std.proofs.Common.{◌≡◌, ℕ, ◌+◌, ◌<◌, ◌≤◌, List, ◌++◌, length, take, drop, Option, None, Some, IfSome, Result}
use Rattle.std.proofs.Common.{Ok, Err, IsErr, IsErrAnd, IfOk, IfErr, sym, ap, ◌∙◌, subst, append_assoc, arith}
use Rattle.std.proofs.Common.{length-append, length-drop, length-take, take-append-drop}
use Rattle.std.proofs.Math.Seq.{take-append_seam, drop-append_seam}
use Rattle.std.proofs.lemmas.Bool.Decides.{nat_tests}
use Rattle.std.proofs.lemmas.List.{drop-drop}
use Rattle.page_file.specs.declared.open_faults.OpenFault.TheVariants.{Truncated}
use Rattle.page_file.specs.Internal.Seen.{StandsAt}
use Rattle.page_file.specs.Opening.{cut}

-- ---- what is told

pub if_some : {A : Type 0} (known : Option A) (P Q : A → Type 0) → ((a : A) → P a → Q a) → IfSome known P →
    IfSome known Q
if_some None P Q step told = tt
if_some (Some a) P Q step told = step a told

pub if_both : {A : Type 0} (known : Option A) (P Q R : A → Type 0) → ((a : A) → P a → Q a → R a) → IfSome known P →
    IfSome known Q → IfSome known R
if_both None P Q R step one two = tt
if_both (Some a) P Q R step one two = step a one two

-- an error that is handed on
pub handed : {T E : Type 0} (r : Result T E) (P : E → Type 0) (x : E) → IsErr r × IsErrAnd r (λ e. e ≡ x) → P x →
    IfErr r P
handed (Ok v) P x becomes holds = tt
handed (Err e) P x becomes holds = subst P (sym becomes.1) holds

-- what a clause says of a result, said of another fact
pub if_ok : {T E : Type 0} (r : Result T E) (P Q R : T → Type 0) → ((x : T) → P x → Q x → R x) → IfOk r P → IfOk r Q →
    IfOk r R
if_ok (Ok x) P Q R step one two = step x one two
if_ok (Err e) P Q R step one two = tt

pub if_err : {T E : Type 0} (r : Result T E) (P Q : E → Type 0) → ((e : E) → P e → Q e) → IfErr r P → IfErr r Q
if_err (Ok x) P Q step holds = tt
if_err (Err e) P Q step holds = step e holds

pub told-same : (known other : Option (List ℕ)) (at place : ℕ) (text found : List ℕ) → other ≡ known → place ≡ at →
    found ≡ text → IfSome other (StandsAt place found) → IfSome known (StandsAt at text)
told-same known other at place text found same_known same_place same_text told =
    subst (λ (known : Option (List ℕ)). IfSome known (StandsAt at text)) same_known
    (subst (λ (at : ℕ). IfSome other (StandsAt at text)) same_place
    (subst (λ (text : List ℕ). IfSome other (StandsAt place text)) same_text told))

-- ---- texts

-- a text that stands at a place, and what follows it
pub text_and_rest : (at : ℕ) (text bytes : List ℕ) → StandsAt at text bytes →
    drop at bytes ≡ text ++ drop (length text) (drop at bytes)
text_and_rest at text bytes stands =
    sym (take-append-drop (length text) (drop at bytes)) ∙
    ap (λ front. front ++ drop (length text) (drop at bytes)) stands

-- a text with what follows it
pub stands-from : (at : ℕ) (text rest bytes : List ℕ) → drop at bytes ≡ text ++ rest → StandsAt at text bytes
stands-from at text rest bytes is = ap (take (length text)) is ∙ take-append_seam text rest

pub rest-from : (at : ℕ) (text rest bytes : List ℕ) → drop at bytes ≡ text ++ rest →
    drop (at + length text) bytes ≡ rest
rest-from at text rest bytes is =
    sym (drop-drop (length text) at bytes) ∙ ap (drop (length text)) is ∙ drop-append_seam text rest

-- two texts, one after the other
pub stands-first : (at : ℕ) (xs ys bytes : List ℕ) → StandsAt at (xs ++ ys) bytes → StandsAt at xs bytes
stands-first at xs ys bytes stands =
    stands-from at xs (ys ++ drop (length (xs ++ ys)) (drop at bytes)) bytes
    (text_and_rest at (xs ++ ys) bytes stands ∙ append_assoc xs ys (drop (length (xs ++ ys)) (drop at bytes)))

pub stands-second : (at : ℕ) (xs ys bytes : List ℕ) → StandsAt at (xs ++ ys) bytes → StandsAt (at + length xs) ys bytes
stands-second at xs ys bytes stands =
    stands-from (at + length xs) ys (drop (length (xs ++ ys)) (drop at bytes)) bytes
    (rest-from at xs (ys ++ drop (length (xs ++ ys)) (drop at bytes)) bytes
    (text_and_rest at (xs ++ ys) bytes stands ∙ append_assoc xs ys (drop (length (xs ++ ys)) (drop at bytes))))

-- what follows a text, up to the end
pub rest-join : (at : ℕ) (text rest bytes : List ℕ) → StandsAt at text bytes → drop (at + length text) bytes ≡ rest →
    drop at bytes ≡ text ++ rest
rest-join at text rest bytes stands is =
    text_and_rest at text bytes stands ∙ ap (λ more. text ++ more) (drop-drop (length text) at bytes ∙ is)

pub stands-join : (at : ℕ) (xs ys bytes : List ℕ) → StandsAt at xs bytes → StandsAt (at + length xs) ys bytes →
    StandsAt at (xs ++ ys) bytes
stands-join at xs ys bytes one two =
    stands-from at (xs ++ ys) (drop (length ys) (drop (at + length xs) bytes)) bytes
    (rest-join at xs (ys ++ drop (length ys) (drop (at + length xs) bytes)) bytes one
    (text_and_rest (at + length xs) ys bytes two)
    ∙ sym (append_assoc xs ys (drop (length ys) (drop (at + length xs) bytes))))

-- a text with what follows it is within the bytes
pub reached-more : (at : ℕ) (text rest bytes : List ℕ) → at ≤ length bytes → drop at bytes ≡ text ++ rest →
    at + length text ≤ length bytes
reached-more at text rest bytes reached is =
    omega (arith, ap length is, length-drop at bytes, length-append text rest, reached)

-- a text that isn't empty stands within the bytes
pub stands-within : (at : ℕ) (text bytes : List ℕ) → StandsAt at text bytes → 0 < length text →
    at + length text ≤ length bytes
stands-within at text bytes stands some =
    omega (arith, ap length stands, length-take (length text) (drop at bytes), length-drop at bytes)

-- ---- cuts

pub cut-within : (at len : ℕ) (bytes : List ℕ) → at + len ≤ length bytes →
    cut at len bytes ≡ Ok (take len (drop at bytes))
unfolding cut
cut-within at len bytes within = grind (arith, nat_tests)

pub cut-past : (at len : ℕ) (bytes : List ℕ) → length bytes < at + len →
    cut at len bytes ≡ Err (Truncated (length bytes))
unfolding cut
cut-past at len bytes past = grind (arith, nat_tests)

-- a text is what is cut at its place
pub cut-text : (at len : ℕ) (text bytes : List ℕ) → length text ≡ len → at ≤ length bytes → StandsAt at text bytes →
    cut at len bytes ≡ Ok text
cut-text at len text bytes size reached stands =
    cut-within at len bytes (omega (
      arith,
      size,
      reached,
      ap length stands,
      length-take (length text) (drop at bytes),
      length-drop at bytes,
    ))
    ∙ ap (λ (n : ℕ). Ok (take n (drop at bytes))) (sym size) ∙ ap (λ (found : List ℕ). Ok found) stands

-- nothing is cut where the file ends too early
pub cut-end : (at len : ℕ) (rest bytes : List ℕ) → at ≤ length bytes → drop at bytes ≡ rest → length rest < len →
    cut at len bytes ≡ Err (Truncated (at + length rest))
cut-end at len rest bytes reached is fewer =
    let size : length bytes ≡ at + length rest = omega (arith, ap length is, length-drop at bytes, reached) in
    cut-past at len bytes (omega (arith, size, fewer)) ∙ ap (λ (n : ℕ). Err (Truncated n)) size

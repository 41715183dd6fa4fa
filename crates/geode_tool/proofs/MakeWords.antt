-- The words of `make`, one after another.
use Rattle.std.proofs.Common.{◌≡◌, ◌≢◌, ◌<◌, ◌≤◌, ℕ, List, [], ◌∷◌, length, map, Option, Some, None, Bool, true, false}
use Rattle.std.proofs.Common.{not, codes, refl, sym, ◌∙◌, arith}
use Rattle.std.specs.Prelude.{option_and_then, bytes_eq}
use Rattle.std.specs.Borrow.{Bor}
use Rattle.std.proofs.lemmas.Bool.Decides.{nat_tests}
use Rattle.std.proofs.lemmas.List.{length-map}
use Rattle.shape_gen.specs.Lattice.{IsBoxSize}
use Rattle.geode_tool.specs.declared.commands.BoxRequest.{BoxRequest}
use Rattle.geode_tool.specs.Words.{make_words, is_box_size, box_size, box_number}
use Rattle.geode_tool.proofs.DrawWords.{word, flipped, kept}

pub box_size-range : (n : ℕ) → is_box_size n ≡ true → IsBoxSize n
box_size-range n e = record { least = least; most = most }
  where
    least : 1 ≤ n
    least = grind (arith, nat_tests, e)

    most : n ≤ 295
    most = grind (arith, nat_tests, e)

-- other than three words
make_words-count : (words : List (List ℕ)) → length words ≢ 3 → None ≡ make_words words
unfolding make_words
make_words-count [] h = refl
make_words-count (a ∷ []) h = refl
make_words-count (a ∷ b ∷ []) h = refl
make_words-count (a ∷ b ∷ c ∷ []) h = absurd (h refl)
make_words-count (a ∷ b ∷ c ∷ d ∷ rest) h = refl

pub make_words-other : (words : List (Bor (List ℕ))) → length words ≢ 3 → None ≡ make_words (map (λ w. w.now) words)
make_words-other words h =
    make_words-count (map (λ w. w.now) words) (λ e. h (sym (length-map words (λ w. w.now)) ∙ e))

three_words : (words : List (Bor (List ℕ))) → 3 ≤ length words → length words < 4 →
    map (λ w. w.now) words ≡ word words 0 ∷ word words 1 ∷ word words 2 ∷ []
three_words [] p q = absurd (omega arith)
three_words (a ∷ []) p q = absurd (omega arith)
three_words (a ∷ b ∷ []) p q = absurd (omega arith)
three_words (a ∷ b ∷ c ∷ []) p q = refl
three_words (a ∷ b ∷ c ∷ d ∷ rest) p q = absurd (omega arith)

-- another command
pub make_words-named : (words : List (Bor (List ℕ))) (is_other : Bool) → 3 ≤ length words → length words < 4 →
    is_other ≡ not (bytes_eq (word words 0) (codes "make")) → is_other ≡ true →
    None ≡ make_words (map (λ w. w.now) words)
unfolding make_words
make_words-named words is_other p q e o = rw (three_words words p q, flipped _ is_other e o) refl

abbrev the_box : ℕ → ℕ → BoxRequest
the_box size number = record { size = size; number = number }

-- the two values together, where both are there
abbrev box_of : Option ℕ → Option ℕ → Option BoxRequest
box_of (Some size) (Some number) = Some (the_box size number)
box_of size number = None

together : (size number : Option ℕ) →
    box_of size number ≡ option_and_then (λ s. option_and_then (λ n. Some (the_box s n)) number) size
together None number = refl
together (Some s) None = refl
together (Some s) (Some n) = refl

-- `make`, and its two values
pub make_words-values : (words : List (Bor (List ℕ))) (is_other : Bool) (size number : Option ℕ) →
    3 ≤ length words → length words < 4 → is_other ≡ not (bytes_eq (word words 0) (codes "make")) →
    is_other ≡ false → box_size (word words 1) ≡ size → box_number (word words 2) ≡ number →
    box_of size number ≡ make_words (map (λ w. w.now) words)
unfolding make_words
make_words-values words is_other size number p q e o s n =
    rw (three_words words p q, kept _ is_other e o, s, n) (together size number)

-- Marks of placed items: what is marked, how many are, and that another one is left.
use Rattle.std.proofs.Common.{◌≡◌, ◌≢◌, ◌<◌, ◌+◌, inl, inr, ℕ, zero, suc, Bool, true, false, List, [], ◌∷◌, ◌++◌}
use Rattle.std.proofs.Common.{length, get_or, set, count_by, cond, refl, sym, ap, ◌∙◌, arith}
use Rattle.std.proofs.lemmas.Bool.{cases_eq, true≢false}
use Rattle.std.proofs.lemmas.List.{get_or-set_same, get_or-set_other, length-set}
use Rattle.std.proofs.lemmas.List.Sums.{sum_by-cons, sum_by-set}
use Rattle.partition.specs.Growing.{is_in}
use Rattle.partition.specs.Internal.Growths.{SomeLeft}
use Rattle.partition.specs.Internal.Frontiers.{AreCursors, IsLeft}
use Rattle.partition.proofs.Members.{is_in-push_same, is_in-push_other}

-- an item that is left is in range
pub left_below : (placed : List Bool) (item : ℕ) → IsLeft placed item → item < length placed
left_below [] item left = absurd (true≢false left)
left_below (b ∷ placed) zero left = omega arith
left_below (b ∷ placed) (suc item) left = omega (arith, left_below placed item left)

-- where not all are marked, one is left
pub some_left : (placed : List Bool) → count_by (λ b. b) placed < length placed → SomeLeft placed
some_left [] h = absurd (omega arith)
some_left (false ∷ placed) h = (0, refl)
some_left (true ∷ placed) h =
    let count : count_by (λ b. b) (true ∷ placed) ≡ 1 + count_by (λ b. b) placed =
    sum_by-cons (λ b. cond b 1 0) true placed in
    let found : SomeLeft placed = some_left placed (omega arith) in
    (suc found.0, found.1)

-- one more is marked
pub placed-keeps : (placed : List Bool) (item other : ℕ) → get_or placed other true ≡ true →
    get_or (set placed item true) other true ≡ true
placed-keeps [] item other h = h
placed-keeps (b ∷ placed) zero zero h = refl
placed-keeps (b ∷ placed) zero (suc other) h = h
placed-keeps (b ∷ placed) (suc item) zero h = h
placed-keeps (b ∷ placed) (suc item) (suc other) h = placed-keeps placed item other h

pub left_before : (placed : List Bool) (item other : ℕ) → IsLeft (set placed item true) other → IsLeft placed other
left_before [] item other left = left
left_before (b ∷ placed) zero zero left = absurd (true≢false left)
left_before (b ∷ placed) zero (suc other) left = left
left_before (b ∷ placed) (suc item) zero left = left
left_before (b ∷ placed) (suc item) (suc other) left = left_before placed item other left

pub left_after : (placed : List Bool) (item other : ℕ) → other ≢ item → IsLeft placed other →
    IsLeft (set placed item true) other
left_after placed item other differ left = get_or-set_other placed item other true true differ ∙ left

pub count-more : (placed : List Bool) (item : ℕ) → IsLeft placed item →
    count_by (λ b. b) (set placed item true) ≡ count_by (λ b. b) placed + 1
count-more placed item left =
    let below : item < length placed = left_below placed item left in
    let weight : Bool → ℕ = λ b. cond b 1 0 in
    let none : weight (get_or placed item true) ≡ 0 = ap weight left in
    let sums : count_by (λ b. b) (set placed item true) + weight (get_or placed item true) ≡ count_by
    (λ b. b) placed + 1 =
    sum_by-set weight placed item true true below in
    omega (arith, sums, none)

pub marks-more : (placed : List Bool) (order : List ℕ) (item : ℕ) → item < length placed →
    ((other : ℕ) → other < length placed → get_or placed other true ≡ is_in order other) →
    (other : ℕ) → other < length (set placed item true) →
    get_or (set placed item true) other true ≡ is_in (order ++ item ∷ []) other
marks-more placed order item below marks other h =
    elim (cases_eq item other) [
      | inl same ↦ rw (← same) (get_or-set_same placed item true true below ∙ sym (is_in-push_same order item))
      | inr differ ↦
          get_or-set_other placed item other true true (λ e. differ (sym e)) ∙
          marks other (omega (arith, length-set placed item true))
          ∙ sym (is_in-push_other order item other differ)
    ]

pub AreCursors-more : (shared : List (List ℕ)) (placed : List Bool) (cursors : List ℕ) (item : ℕ) →
    AreCursors shared placed cursors → AreCursors shared (set placed item true) cursors
AreCursors-more shared placed cursors item are = record {
  counted = are.counted;
  passed =
      λ edge h k below within. placed-keeps placed item (get_or (get_or shared edge []) k 0)
      (are.passed edge h k below within);
}

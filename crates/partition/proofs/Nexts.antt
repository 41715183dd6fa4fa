-- The next item: what the frontier gives is what the rule asks for.
use Rattle.std.proofs.Common.{◌≡◌, ◌≢◌, ◌<◌, ◌≤◌, ◌⊎◌, inl, inr, ℕ, Bool, true, false, not, ◌&&◌, ◌||◌, eqb, ltb, cond}
use Rattle.std.proofs.Common.{List, [], length, get_or, Contains, refl, sym, ◌∙◌, arith}
use Rattle.std.specs.List.{list_all, range_with_len}
use Rattle.std.proofs.lemmas.Bool.{lt-ltb, ltb-true, eq-eqb, eqb-true, or_cases, or_left, or_right, and_from, and_parts}
use Rattle.std.proofs.lemmas.Bool.{cases_eq, cases_lt, cases_Bool, both_ways, not-true, not_from_false}
use Rattle.std.proofs.lemmas.List.{get_or_default}
use Rattle.std.proofs.lemmas.List.Elements.{Contains-get_or}
use Rattle.partition.specs.Internal.Frontiers.{HasLesser, HasLeastOf, IsLeastLeft, IsLeft, NoneLeft}
use Rattle.partition.specs.Growing.{goes_before, is_in, is_next, touches}
use Rattle.partition.specs.Internal.Growths.{Grows, IsNextLeft, IsPlacedBelow, Touches, batch_of}
use Rattle.partition.specs.Internal.EdgesOfItem.{EdgeHasItem}
use Rattle.partition.specs.Internal.SharedEdges.{are_adjacent}
use Rattle.partition.proofs.Marks.{left_below}
use Rattle.partition.proofs.Members.{Passes, is_in-from, is_in-true, list_all-from, list_all-at, list_any-from}
use Rattle.partition.proofs.Members.{list_any-true}

-- what the test of the next item says
pub record IsNext (n : ℕ) (key : ℕ → ℕ) (near : ℕ → ℕ → Bool) (placed batch : List ℕ) (i : ℕ) : Type 0 where
  pub below : i < n
  pub left : is_in placed i ≡ false
  pub first : (j : ℕ) → j < n → is_in placed j ≡ false → (i ≡ j) ⊎ (goes_before key near batch i j ≡ true)

pub is_next-from : (n : ℕ) (key : ℕ → ℕ) (near : ℕ → ℕ → Bool) (placed batch : List ℕ) (i : ℕ) →
    IsNext n key near placed batch i → is_next n key near placed batch i ≡ true
unfolding is_next
is_next-from n key near placed batch i is =
    let test : ℕ → Bool = λ j. is_in placed j || eqb i j || goes_before key near batch i j in
    and_from (ltb i n && not (is_in placed i)) (list_all test (range_with_len 0 n))
    (and_from (ltb i n) (not (is_in placed i)) (lt-ltb i n is.below) (not_from_false (is_in placed i) is.left))
    (list_all-from test 0 n (λ j above below. elim (cases_Bool (is_in placed j)) [
      | inl in_placed ↦ or_left (is_in placed j || eqb i j) (goes_before key near batch i j)
          (or_left (is_in placed j) (eqb i j) in_placed)
      | inr left ↦ elim (is.first j (omega arith) left) [
        | inl same ↦ or_left (is_in placed j || eqb i j) (goes_before key near batch i j)
            (or_right (is_in placed j) (eqb i j) (eq-eqb i j same))
        | inr before ↦ or_right (is_in placed j || eqb i j) (goes_before key near batch i j) before
      ]
    ]))

pub is_next-is : (n : ℕ) (key : ℕ → ℕ) (near : ℕ → ℕ → Bool) (placed batch : List ℕ) (i : ℕ) →
    is_next n key near placed batch i ≡ true → IsNext n key near placed batch i
unfolding is_next
is_next-is n key near placed batch i h =
    let test : ℕ → Bool = λ j. is_in placed j || eqb i j || goes_before key near batch i j in
    let parts = and_parts (ltb i n && not (is_in placed i)) (list_all test (range_with_len 0 n)) h in
    let head = and_parts (ltb i n) (not (is_in placed i)) parts.0 in
    record {
      below = ltb-true i n head.0;
      left = not-true (is_in placed i) head.1;
      first =
          λ j below left. elim (or_cases (is_in placed j || eqb i j) (goes_before key near batch i j)
          (list_all-at test 0 n parts.1 j (omega arith) (omega arith))) [
            | inl either ↦ elim (or_cases (is_in placed j) (eqb i j) either) [
              | inl in_placed ↦ absurd (both_ways (is_in placed j) left in_placed)
              | inr same ↦ inl (eqb-true i j same)
            ]
            | inr before ↦ inr before
          ];
    }

-- between the test of neighbours and what it means
pub touches-from : (shared : List (List ℕ)) (batch : List ℕ) (item : ℕ) → Touches shared batch item →
    touches (are_adjacent shared) batch item ≡ true
touches-from shared batch item is =
    let edge : List ℕ = get_or shared is.edge [] in
    list_any-from (λ j. are_adjacent shared j item) batch is.member is.in_batch
    (list_any-from (λ edge. is_in edge is.member && is_in edge item) shared edge
    (Contains-get_or shared is.edge [] is.with_member.0)
    (and_from (is_in edge is.member) (is_in edge item) (is_in-from edge is.member is.with_member.1)
    (is_in-from edge item is.with_item.1)))

pub touches-true : (shared : List (List ℕ)) (batch : List ℕ) (item : ℕ) →
    touches (are_adjacent shared) batch item ≡ true → Touches shared batch item
touches-true shared batch item h =
    let member : Passes (λ j. are_adjacent shared j item) batch =
    list_any-true (λ j. are_adjacent shared j item) batch h in
    let holds : ℕ → List ℕ → Bool = λ j edge. is_in edge j && is_in edge item in
    let edge : Passes (holds member.item) shared = list_any-true (holds member.item) shared member.passes in
    let both = and_parts (is_in edge.item member.item) (is_in edge.item item) edge.passes in
    let at : Contains shared edge.item = edge.among in
    let same : edge.item ≡ get_or shared at.0 [] = sym at.2 ∙ get_or_default shared at.0 edge.item [] at.1 in
    record {
      edge = at.0;
      member = member.item;
      in_batch = member.among;
      with_member = (at.1, rw same at (is_in-true edge.item member.item both.0));
      with_item = (at.1, rw same at (is_in-true edge.item item both.1));
    }

-- which of two items goes before the other, by cases
goes_first : (near_i near_j less : Bool) → (near_j ≡ true → (near_i ≡ true) × (less ≡ true)) →
    (near_j ≡ false → (near_i ≡ true) ⊎ (less ≡ true)) →
    cond near_j (near_i && less) (near_i || less) ≡ true
goes_first near_i true less both either = and_from near_i less (both refl).0 (both refl).1
goes_first near_i false less both either =
    elim (either refl) [ inl touching ↦ or_left near_i less touching | inr lesser ↦ or_right near_i less lesser ]

-- an item that isn't placed and touches the batch has a lesser one in the queue
lesser_of : (shared : List (List ℕ)) (batch : List ℕ) (placed : List Bool) (queue : List ℕ) (j : ℕ) →
    ((edge member : ℕ) → Contains batch member → EdgeHasItem shared edge member →
    HasLeastOf (get_or shared edge []) placed queue) →
    IsLeft placed j → touches (are_adjacent shared) batch j ≡ true →
    (lesser : ℕ) × Contains queue lesser × (lesser ≤ j) × IsLeft placed lesser
lesser_of shared batch placed queue j ready left h =
    let is : Touches shared batch j = touches-true shared batch j h in
    let has : HasLesser (get_or shared is.edge []) placed queue j =
    ready is.edge is.member is.in_batch is.with_member j is.with_item.1 left in
    (has.lesser, has.queued, has.le, has.left)

-- the least of the queue goes first
queued_first : (shared : List (List ℕ)) (batch : List ℕ) (placed : List Bool) (queue : List ℕ) (item j : ℕ) →
    ((edge member : ℕ) → Contains batch member → EdgeHasItem shared edge member →
    HasLeastOf (get_or shared edge []) placed queue) →
    ((item : ℕ) → Contains queue item → Touches shared batch item) →
    IsLeastLeft queue placed item → IsLeft placed j → (item ≢ j) →
    goes_before (λ _. 0) (are_adjacent shared) batch item j ≡ true
queued_first shared batch placed queue item j ready queued first left other =
    let touching = touches-from shared batch item (queued item first.among) in
    goes_first (touches (are_adjacent shared) batch item) (touches (are_adjacent shared) batch j) (ltb item j)
    (λ h.
    let has = lesser_of shared batch placed queue j ready left h in
    let le : item ≤ has.0 = first.least has.0 has.1 has.3 in
    (touching, lt-ltb item j (omega (arith, has.2))))
    (λ h. inl touching)

-- where the queue has none left, the least of all goes first
others_first : (shared : List (List ℕ)) (batch : List ℕ) (placed : List Bool) (queue : List ℕ) (item j : ℕ) →
    ((edge member : ℕ) → Contains batch member → EdgeHasItem shared edge member →
    HasLeastOf (get_or shared edge []) placed queue) →
    NoneLeft queue placed → IsPlacedBelow placed item → IsLeft placed j → (item ≢ j) →
    goes_before (λ _. 0) (are_adjacent shared) batch item j ≡ true
others_first shared batch placed queue item j ready none least left other =
    goes_first (touches (are_adjacent shared) batch item) (touches (are_adjacent shared) batch j) (ltb item j)
    (λ h.
    let has = lesser_of shared batch placed queue j ready left h in
    absurd (both_ways (get_or placed has.0 true) has.3 (none has.0 has.1)))
    (λ h. inr (elim (cases_lt j item) [
      | inl before ↦ absurd (both_ways (get_or placed j true) left (least j before))
      | inr after ↦ lt-ltb item j (omega arith)
    ]))

-- The next item is what the frontier gives, if each shared edge that touches the batch has its least item queued.
pub next_is : (shared : List (List ℕ)) (size : ℕ) (placed : List Bool) (order : List ℕ) (least : ℕ)
    (cursors queue : List ℕ) (item : ℕ) →
    Grows shared size placed order least cursors queue →
    ((edge member : ℕ) → Contains (batch_of size order) member → EdgeHasItem shared edge member →
    HasLeastOf (get_or shared edge []) placed queue) →
    IsNextLeft placed queue item → is_next (length placed) (λ _. 0) (are_adjacent shared) order
    (batch_of size order) item ≡ true
next_is shared size placed order least cursors queue item grows ready next =
    is_next-from (length placed) (λ _. 0) (are_adjacent shared) order (batch_of size order) item (elim next [
      | inl first ↦
          let below : item < length placed = left_below placed item first.left in
          record {
            below = below;
            left = sym (grows.marks item below) ∙ first.left;
            first = λ j h left. elim (cases_eq item j) [
              | inl same ↦ inl same
              | inr other ↦ inr (queued_first shared (batch_of size order) placed queue item j ready grows.queued first
                  (grows.marks j h ∙ left) other)
            ];
          }
      | inr rest ↦
          let below : item < length placed = left_below placed item rest.1 in
          record {
            below = below;
            left = sym (grows.marks item below) ∙ rest.1;
            first = λ j h left. elim (cases_eq item j) [
              | inl same ↦ inl same
              | inr other ↦ inr (others_first shared (batch_of size order) placed queue item j ready rest.0 rest.2
                  (grows.marks j h ∙ left) other)
            ];
          }
    ])

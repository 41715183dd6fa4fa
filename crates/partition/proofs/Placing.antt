-- One more item is placed: what of the growth stays, and what of the frontier.
use Rattle.std.proofs.Common.{◌≡◌, ◌≢◌, ◌<◌, ◌+◌, ◌*◌, ◌/◌, ◌%◌, inl, inr, ℕ, Bool, true, List, [], ◌∷◌, ◌++◌, length}
use Rattle.std.proofs.Common.{get_or, set, drop, Contains, refl, sym, ap, ◌∙◌, arith}
use Rattle.std.proofs.lemmas.Bool.{cases_Bool, cases_eq, cases_lt, both_ways}
use Rattle.std.proofs.lemmas.List.{get_or_append_left, get_or_push, length-set, length_push, take_all, take_at}
use Rattle.std.proofs.lemmas.List.{take-append-le, drop-append-le, drop_all}
use Rattle.std.proofs.lemmas.List.Elements.{Contains-append_left, Contains-push, Contains-push_cases}
use Rattle.std.proofs.lemmas.Nat.{div-add-mod', div-mul-add, mod-mul-add}
use Rattle.partition.specs.Internal.Frontiers.{AddsNeighbours, AreCursors, HasLeastOfEach, HasLesser, HasLeastOf, Keeps}
use Rattle.partition.specs.Growing.{is_chosen, is_in, is_next}
use Rattle.partition.specs.Internal.Growths.{Grows, Touches, batch_of}
use Rattle.partition.specs.Internal.EdgesOfItem.{EdgeHasItem}
use Rattle.partition.specs.Internal.SharedEdges.{are_adjacent}
use Rattle.partition.proofs.Marks.{count-more, left_before, left_after, marks-more, placed-keeps}
use Rattle.partition.proofs.Members.{is_in-from, is_in-true}
use Rattle.partition.proofs.Nexts.{IsNext, is_next-is}

-- a quotient, one further
div-next : (n size : ℕ) → 0 < size → ((n + 1) % size ≡ 0 → ⊥) → (n + 1) / size ≡ n / size
div-next n size some within =
    let whole : n / size * size + n % size ≡ n = div-add-mod' n size in
    elim (cases_lt (n % size + 1) size) [
      | inl inside ↦
          let e : n + 1 ≡ n / size * size + (n % size + 1) = omega arith in
          ap (λ m. m / size) e ∙ div-mul-add (n / size) size (n % size + 1) inside
      | inr past ↦
          let small : n % size < size = omega arith in
          let e : n + 1 ≡ (n / size + 1) * size + 0 = omega arith in
          absurd (within (ap (λ m. m % size) e ∙ mod-mul-add (n / size + 1) size 0 some))
    ]

-- the present batch
batch_of-is : (size : ℕ) (order : List ℕ) → batch_of size order ≡ drop (length order / size * size) order
batch_of-is size order = ap (drop (length order / size * size)) (take_all (length order) order (omega arith))

-- a batch that isn't full goes on
batch_of-more : (size : ℕ) (order : List ℕ) (item : ℕ) → 0 < size → ((length order + 1) % size ≡ 0 → ⊥) →
    batch_of size (order ++ item ∷ []) ≡ batch_of size order ++ item ∷ []
batch_of-more size order item some within =
    let first : ℕ = length order / size * size in
    let whole : first + length order % size ≡ length order = div-add-mod' (length order) size in
    let starts : length (order ++ item ∷ []) / size * size ≡ first =
    ap (λ n. n / size * size) (length_push order item) ∙
    ap (λ q. q * size) (div-next (length order) size some within) in
    batch_of-is size (order ++ item ∷ []) ∙ ap (λ n. drop n (order ++ item ∷ [])) starts ∙
    drop-append-le first order (item ∷ []) (omega arith)
    ∙ ap (λ batch. batch ++ item ∷ []) (sym (batch_of-is size order))

-- after a full batch the next one is empty
batch_of-full : (size : ℕ) (order : List ℕ) → length order % size ≡ 0 → batch_of size order ≡ []
batch_of-full size order full =
    let whole : length order / size * size + length order % size ≡ length order = div-add-mod' (length order) size in
    batch_of-is size order ∙ drop_all (length order / size * size) order (omega arith)

-- what was chosen stays so
pub is_chosen-before : (n : ℕ) (key : ℕ → ℕ) (near : ℕ → ℕ → Bool) (size : ℕ) (order : List ℕ) (item place : ℕ) →
    place < length order →
    is_chosen n key near size order place ≡ true → is_chosen n key near size (order ++ item ∷ []) place ≡ true
is_chosen-before n key near size order item place h chosen =
    rw (take-append-le place order (item ∷ []) (omega arith), get_or_append_left order (item ∷ []) 0 place h) chosen

-- the next item is chosen
pub is_chosen-here : (n : ℕ) (key : ℕ → ℕ) (near : ℕ → ℕ → Bool) (size : ℕ) (order : List ℕ) (item : ℕ) →
    is_next n key near order (batch_of size order) item ≡ true →
    is_chosen n key near size (order ++ item ∷ []) (length order) ≡ true
is_chosen-here n key near size order item next =
    let before = rw (batch_of-is size order) at next in
    rw (take_at order (item ∷ []) (length order) refl, get_or_push order item 0 (length order) refl) before

-- one more item
pub Grows-more : (shared : List (List ℕ)) (size : ℕ) (placed : List Bool) (order : List ℕ) (least : ℕ)
    (cursors queue : List ℕ) (item : ℕ)
    (cursors' queue' : List ℕ) → Grows shared size placed order least cursors queue →
    is_next (length placed) (λ _. 0) (are_adjacent shared) order (batch_of size order) item ≡ true →
    AreCursors shared (set placed item true) cursors' →
    ((k : ℕ) → Contains queue' k → Touches shared (batch_of size (order ++ item ∷ [])) k) →
    Grows shared size (set placed item true) (order ++ item ∷ []) least cursors' queue'
Grows-more shared size placed order least cursors queue item cursors' queue' grows next passed queued =
    let is : IsNext (length placed) (λ _. 0) (are_adjacent shared) order (batch_of size order) item =
    is_next-is (length placed) (λ _. 0) (are_adjacent shared) order (batch_of size order) item next in
    let same : length (set placed item true) ≡ length placed = length-set placed item true in
    record {
      marks = marks-more placed order item is.below grows.marks;
      counted =
          count-more placed item (grows.marks item is.below ∙ is.left) ∙ ap (λ n. n + 1) grows.counted ∙
          sym (length_push order item);
      below = λ k h. placed-keeps placed item k (grows.below k h);
      passed = passed;
      queued = queued;
      grown = λ place h. rw same (elim (cases_lt place (length order)) [
        | inl before ↦ is_chosen-before (length placed) (λ _. 0) (are_adjacent shared) size order item place before
            (grows.grown place before)
        | inr past ↦
            let here : place ≡ length order = omega (arith, length_push order item) in
            rw here (is_chosen-here (length placed) (λ _. 0) (are_adjacent shared) size order item next)
      ]);
    }

-- what touches a batch touches one with more items
Touches-more : (shared : List (List ℕ)) (batch : List ℕ) (item k : ℕ) → Touches shared batch k →
    Touches shared (batch ++ item ∷ []) k
Touches-more shared batch item k is = record {
  edge = is.edge;
  member = is.member;
  in_batch = Contains-append_left batch (item ∷ []) is.member is.in_batch;
  with_member = is.with_member;
  with_item = is.with_item;
}

-- what is queued touches the batch with the item
queued-more : (shared : List (List ℕ)) (size : ℕ) (order : List ℕ) (item : ℕ) (old new : List ℕ) → 0 < size →
    ((length order + 1) % size ≡ 0 → ⊥) →
    ((k : ℕ) → Contains old k → Touches shared (batch_of size order) k) → AddsNeighbours shared item old new →
    (k : ℕ) → Contains new k → Touches shared (batch_of size (order ++ item ∷ [])) k
queued-more shared size order item old new some within queued adds k is =
    rw (batch_of-more size order item some within) (elim (adds k is) [
      | inl before ↦ Touches-more shared (batch_of size order) item k (queued k before)
      | inr shared ↦ record {
        edge = shared.0;
        member = item;
        in_batch = Contains-push (batch_of size order) item;
        with_member = shared.1;
        with_item = shared.2;
      }
    ])

-- a shared edge that doesn't have the item keeps its least item queued
HasLeastOf-more : (edge : List ℕ) (placed : List Bool) (item : ℕ) (old new : List ℕ) → (Contains edge item → ⊥) →
    Keeps old new →
    HasLeastOf edge placed old → HasLeastOf edge (set placed item true) new
HasLeastOf-more edge placed item old new apart keeps entered other among left =
    let has : HasLesser edge placed old other = entered other among (left_before placed item other left) in
    let differs : has.lesser ≢ item = λ e. apart (rw e at has.among) in
    record {
      lesser = has.lesser;
      queued = keeps has.lesser has.queued;
      among = has.among;
      left = left_after placed item has.lesser differs has.left;
      le = has.le;
    }

-- each shared edge that touches the batch has its least item queued, once those that have the item do
ready-more : (shared : List (List ℕ)) (size : ℕ) (placed : List Bool) (order : List ℕ) (item : ℕ) (old new : List ℕ) →
    0 < size →
    ((length order + 1) % size ≡ 0 → ⊥) →
    ((edge member : ℕ) → Contains (batch_of size order) member → EdgeHasItem shared edge member →
    (Contains (get_or shared edge []) item → ⊥) →
    HasLeastOf (get_or shared edge []) placed old) →
    Keeps old new → HasLeastOfEach shared (set placed item true) new item →
    (edge member : ℕ) → Contains (batch_of size (order ++ item ∷ [])) member → EdgeHasItem shared edge member →
    HasLeastOf (get_or shared edge []) (set placed item true) new
ready-more shared size placed order item old new some within ready keeps entered edge member in_batch holds =
    elim (cases_Bool (is_in (get_or shared edge []) item)) [
      | inl held ↦ entered edge (holds.0, is_in-true (get_or shared edge []) item held)
      | inr apart ↦
          let far : Contains (get_or shared edge []) item → ⊥ =
          λ is. both_ways (is_in (get_or shared edge []) item) apart (is_in-from (get_or shared edge []) item is) in
          elim (Contains-push_cases (batch_of size order) item member
          (rw (batch_of-more size order item some within) at in_batch)) [
            | inl before ↦ HasLeastOf-more (get_or shared edge []) placed item old new far keeps
                (ready edge member before holds far)
            | inr same ↦ absurd (far (rw (sym same) at holds.1))
          ]
    ]

-- what is queued then touches the batch
pub queued-after : (shared : List (List ℕ)) (size : ℕ) (order : List ℕ) (item : ℕ) (old mid new : List ℕ) → 0 < size →
    (length (order ++ item ∷ []) % size ≡ 0 → new ≡ []) → (length (order ++ item ∷ []) % size ≢ 0 → new ≡ mid) →
    ((k : ℕ) → Contains old k → Touches shared (batch_of size order) k) → AddsNeighbours shared item old mid →
    (k : ℕ) → Contains new k → Touches shared (batch_of size (order ++ item ∷ [])) k
queued-after shared size order item old mid new some full room queued adds k is =
    elim (cases_eq (length (order ++ item ∷ []) % size) 0) [
      | inl ended ↦
          let none : Contains [] k = rw (full ended) at is in
          absurd (omega (arith, none.1))
      | inr goes_on ↦
          let within = rw (length_push order item) at goes_on in
          queued-more shared size order item old mid some within queued adds k (rw (room goes_on) at is)
    ]

-- each shared edge that touches the batch has its least item queued then
pub ready-after : (shared : List (List ℕ)) (size : ℕ) (placed : List Bool) (order : List ℕ) (item : ℕ)
    (old mid new : List ℕ) → 0 < size →
    (length (order ++ item ∷ []) % size ≡ 0 → new ≡ []) → (length (order ++ item ∷ []) % size ≢ 0 → new ≡ mid) →
    ((edge member : ℕ) → Contains (batch_of size order) member → EdgeHasItem shared edge member →
    (Contains (get_or shared edge []) item → ⊥) →
    HasLeastOf (get_or shared edge []) placed old) →
    Keeps old mid → HasLeastOfEach shared (set placed item true) mid item →
    (edge member : ℕ) → Contains (batch_of size (order ++ item ∷ [])) member → EdgeHasItem shared edge member →
    HasLeastOf (get_or shared edge []) (set placed item true) new
ready-after shared size placed order item old mid new some full room ready keeps entered edge member in_batch holds =
    elim (cases_eq (length (order ++ item ∷ []) % size) 0) [
      | inl ended ↦
          let none : Contains [] member = rw (batch_of-full size (order ++ item ∷ []) ended) at in_batch in
          absurd (omega (arith, none.1))
      | inr goes_on ↦
          let within = rw (length_push order item) at goes_on in
          rw (room goes_on) (ready-more shared size placed order item old mid some within ready keeps entered edge
          member in_batch holds)
    ]

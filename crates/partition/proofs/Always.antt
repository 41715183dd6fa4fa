-- There is always a grown order: the next item exists while not all are placed, and so an order of each length.
use Rattle.std.proofs.Common.{◌≡◌, ◌<◌, ◌≤◌, ◌+◌, ◌⊎◌, inl, inr, ℕ, zero, suc, Bool, true, false, ◌&&◌, ◌||◌, eqb, ltb}
use Rattle.std.proofs.Common.{cond, List, [], ◌∷◌, ◌++◌, length, get_or, set, replicate, refl, sym, ap, ◌∙◌, arith}
use Rattle.std.proofs.lemmas.Bool.{and_from, and_parts, or_cases, or_left, or_right, cases_Bool, cases_lt, cases_order}
use Rattle.std.proofs.lemmas.Bool.{eqb-true, ltb-true, eq-eqb, lt-ltb, both_ways}
use Rattle.std.proofs.lemmas.List.{get_or-replicate, length-replicate, length-set, length_push}
use Rattle.partition.specs.Internal.Frontiers.{IsLeft}
use Rattle.partition.specs.Growing.{goes_before, is_chosen, is_grown, is_in, ranks_before, touches}
use Rattle.partition.specs.Internal.Growths.{SomeLeft, batch_of}
use Rattle.partition.proofs.Marks.{count-more, left_below, marks-more, some_left}
use Rattle.partition.proofs.Nexts.{IsNext, is_next-from}
use Rattle.partition.proofs.OnePlace.{IsMarked}
use Rattle.partition.proofs.Placing.{is_chosen-before, is_chosen-here}
use Rattle.partition.proofs.Taking.{count_by-none, is_grown-from}

-- what ranks before, in numbers
ranks-true : (key : ℕ → ℕ) (i j : ℕ) → ranks_before key i j ≡ true → (key i < key j) ⊎ ((key i ≡ key j) × (i < j))
ranks-true key i j h =
    elim (or_cases (ltb (key i) (key j)) (eqb (key i) (key j) && ltb i j) h) [
      | inl lesser ↦ inl (ltb-true (key i) (key j) lesser)
      | inr same ↦
          let parts = and_parts (eqb (key i) (key j)) (ltb i j) same in
          inr (eqb-true (key i) (key j) parts.0, ltb-true i j parts.1)
    ]

ranks-lesser : (key : ℕ → ℕ) (i j : ℕ) → key i < key j → ranks_before key i j ≡ true
ranks-lesser key i j h = or_left (ltb (key i) (key j)) (eqb (key i) (key j) && ltb i j) (lt-ltb (key i) (key j) h)

ranks-same : (key : ℕ → ℕ) (i j : ℕ) → key i ≡ key j → i < j → ranks_before key i j ≡ true
ranks-same key i j same h =
    or_right (ltb (key i) (key j)) (eqb (key i) (key j) && ltb i j)
    (and_from (eqb (key i) (key j)) (ltb i j) (eq-eqb (key i) (key j) same) (lt-ltb i j h))

ranks-total : (key : ℕ → ℕ) (i j : ℕ) → (i ≡ j → ⊥) → (ranks_before key i j ≡ true) ⊎ (ranks_before key j i ≡ true)
ranks-total key i j other =
    elim (cases_order (key i) (key j)) [
      | inl same ↦ elim (cases_lt i j) [
        | inl before ↦ inl (ranks-same key i j same before)
        | inr after ↦ inr (ranks-same key j i (sym same) (omega arith))
      ]
      | inr differ ↦ elim differ [
        | inl lesser ↦ inl (ranks-lesser key i j lesser)
        | inr greater ↦ inr (ranks-lesser key j i greater)
      ]
    ]

ranks-trans : (key : ℕ → ℕ) (i j k : ℕ) → ranks_before key i j ≡ true → ranks_before key j k ≡ true →
    ranks_before key i k ≡ true
ranks-trans key i j k h g =
    elim (ranks-true key i j h) [
      | inl first ↦ elim (ranks-true key j k g) [
        | inl second ↦ ranks-lesser key i k (omega arith)
        | inr second ↦ ranks-lesser key i k (omega (arith, second.0))
      ]
      | inr first ↦ elim (ranks-true key j k g) [
        | inl second ↦ ranks-lesser key i k (omega (arith, first.0))
        | inr second ↦ ranks-same key i k (first.0 ∙ second.0) (omega (arith, first.1, second.1))
      ]
    ]

-- the same with neighbours first
abbrev first_of : Bool → Bool → Bool → Bool
first_of near_i near_j less = cond near_j (near_i && less) (near_i || less)

goes-total : (near_i near_j less more : Bool) → (less ≡ true) ⊎ (more ≡ true) →
    (first_of near_i near_j less ≡ true) ⊎ (first_of near_j near_i more ≡ true)
goes-total true true less more either = either
goes-total true false less more either = inl refl
goes-total false true less more either = inr refl
goes-total false false less more either = either

goes-trans : (near_i near_j near_k ij jk ik : Bool) → (ij ≡ true → jk ≡ true → ik ≡ true) →
    first_of near_i near_j ij ≡ true → first_of near_j near_k jk ≡ true → first_of near_i near_k ik ≡ true
goes-trans true true true ij jk ik trans h g = trans h g
goes-trans true true false ij jk ik trans h g = refl
goes-trans true false true ij jk ik trans h g = cc
goes-trans true false false ij jk ik trans h g = refl
goes-trans false true true ij jk ik trans h g = cc
goes-trans false true false ij jk ik trans h g = cc
goes-trans false false true ij jk ik trans h g = cc
goes-trans false false false ij jk ik trans h g = trans h g

before-total : (key : ℕ → ℕ) (near : ℕ → ℕ → Bool) (batch : List ℕ) (i j : ℕ) → (i ≡ j → ⊥) →
    (goes_before key near batch i j ≡ true) ⊎ (goes_before key near batch j i ≡ true)
before-total key near batch i j other =
    goes-total (touches near batch i) (touches near batch j) (ranks_before key i j) (ranks_before key j i)
    (ranks-total key i j other)

before-trans : (key : ℕ → ℕ) (near : ℕ → ℕ → Bool) (batch : List ℕ) (i j k : ℕ) →
    goes_before key near batch i j ≡ true →
    goes_before key near batch j k ≡ true → goes_before key near batch i k ≡ true
before-trans key near batch i j k h g =
    goes-trans (touches near batch i) (touches near batch j) (touches near batch k) (ranks_before key i j)
    (ranks_before key j k) (ranks_before key i k)
    (ranks-trans key i j k) h g

-- of the items below a limit all are placed, or one goes first
first_below : (n : ℕ) (key : ℕ → ℕ) (near : ℕ → ℕ → Bool) (placed batch : List ℕ) →
    ((j : ℕ) → j < n → is_in placed j ≡ true) ⊎ ((i : ℕ) × IsNext n key near placed batch i)
first_below zero key near placed batch = inl (λ j h. absurd (omega arith))
first_below (suc n) key near placed batch =
    elim (cases_Bool (is_in placed n)) [
      | inl taken ↦ elim (first_below n key near placed batch) [
        | inl all ↦ inl (λ j h. elim (cases_lt j n) [
          | inl below ↦ all j below
          | inr past ↦
              let same : j ≡ n = omega arith in
              ap (is_in placed) same ∙ taken
        ])
        | inr found ↦ inr (found.0, wider_taken n key near placed batch found.0 taken found.1)
      ]
      | inr left ↦ elim (first_below n key near placed batch) [
        | inl all ↦ inr (n, alone n key near placed batch left all)
        | inr found ↦
            let is : IsNext n key near placed batch found.0 = found.1 in
            elim (before-total key near batch found.0 n (λ e. absurd (omega (arith, is.below, e)))) [
              | inl stays ↦ inr (found.0, wider n key near placed batch found.0 stays is)
              | inr goes ↦ inr (n, replaced n key near placed batch found.0 left goes is)
            ]
      ]
    ]
  where
    wider_taken : (n : ℕ) (key : ℕ → ℕ) (near : ℕ → ℕ → Bool) (placed batch : List ℕ) (i : ℕ) → is_in placed n ≡ true →
        IsNext n key near placed batch i → IsNext (suc n) key near placed batch i
    wider_taken n key near placed batch i taken is = record {
      below = omega (arith, is.below);
      left = is.left;
      first = λ j h free. elim (cases_lt j n) [
        | inl below ↦ is.first j below free
        | inr past ↦
            let same : j ≡ n = omega arith in
            absurd (both_ways (is_in placed n) (rw same at free) taken)
      ];
    }

    wider : (n : ℕ) (key : ℕ → ℕ) (near : ℕ → ℕ → Bool) (placed batch : List ℕ) (i : ℕ) →
        goes_before key near batch i n ≡ true →
        IsNext n key near placed batch i → IsNext (suc n) key near placed batch i
    wider n key near placed batch i stays is = record {
      below = omega (arith, is.below);
      left = is.left;
      first = λ j h free. elim (cases_lt j n) [
        | inl below ↦ is.first j below free
        | inr past ↦
            let same : j ≡ n = omega arith in
            inr (rw same stays)
      ];
    }

    alone : (n : ℕ) (key : ℕ → ℕ) (near : ℕ → ℕ → Bool) (placed batch : List ℕ) → is_in placed n ≡ false →
        ((j : ℕ) → j < n → is_in placed j ≡ true) → IsNext (suc n) key near placed batch n
    alone n key near placed batch left all = record {
      below = omega arith;
      left = left;
      first = λ j h free. elim (cases_lt j n) [
        | inl below ↦ absurd (both_ways (is_in placed j) free (all j below))
        | inr past ↦ inl (omega arith)
      ];
    }

    replaced : (n : ℕ) (key : ℕ → ℕ) (near : ℕ → ℕ → Bool) (placed batch : List ℕ) (i : ℕ) → is_in placed n ≡ false →
        goes_before key near batch n i ≡ true → IsNext n key near placed batch i →
        IsNext (suc n) key near placed batch n
    replaced n key near placed batch i left goes is = record {
      below = omega arith;
      left = left;
      first = λ j h free. elim (cases_lt j n) [
        | inl below ↦ elim (is.first j below free) [
          | inl same ↦ inr (rw (sym same) goes)
          | inr before ↦ inr (before-trans key near batch n i j goes before)
        ]
        | inr past ↦ inl (omega arith)
      ];
    }

-- an order of the first places
record HasFront (n : ℕ) (key : ℕ → ℕ) (near : ℕ → ℕ → Bool) (size k : ℕ) : Type 0 where
  front : List ℕ
  long : length front ≡ k
  chosen : (place : ℕ) → place < k → is_chosen n key near size front place ≡ true
  marked : IsMarked n front

front_of : (n : ℕ) (key : ℕ → ℕ) (near : ℕ → ℕ → Bool) (size k : ℕ) → k ≤ n → HasFront n key near size k
front_of n key near size zero h = record {
  front = [];
  long = refl;
  chosen = λ place below. absurd (omega arith);
  marked = record {
    marks = replicate n false;
    long = length-replicate n false;
    are = λ item below. get_or-replicate n item false true below;
    counted = count_by-none n;
  };
}
front_of n key near size (suc k) h =
    let before : HasFront n key near size k = front_of n key near size k (omega arith) in
    more n key near size k h before (first_below n key near before.front (batch_of size before.front))
  where
    more : (n : ℕ) (key : ℕ → ℕ) (near : ℕ → ℕ → Bool) (size k : ℕ) → suc k ≤ n →
        (before : HasFront n key near size k) →
        ((j : ℕ) → j < n → is_in before.front j ≡ true) ⊎
        ((i : ℕ) × IsNext n key near before.front (batch_of size before.front) i) →
        HasFront n key near size (suc k)
    more n key near size k h before (inl all) =
        let marked : IsMarked n before.front = before.marked in
        let long : length marked.marks ≡ n = marked.long in
        let left : SomeLeft marked.marks = some_left marked.marks (omega (arith, marked.counted, before.long)) in
        let below : left.0 < n = omega (arith, left_below marked.marks left.0 left.1) in
        absurd (both_ways (get_or marked.marks left.0 true) left.1 (marked.are left.0 below ∙ all left.0 below))
    more n key near size k h before (inr found) =
        let item : ℕ = found.0 in
        let next : IsNext n key near before.front (batch_of size before.front) item = found.1 in
        let marked : IsMarked n before.front = before.marked in
        let long : length marked.marks ≡ n = marked.long in
        let total : length before.front ≡ k = before.long in
        let left : IsLeft marked.marks item = marked.are item next.below ∙ next.left in
        record {
          front = before.front ++ item ∷ [];
          long = omega (arith, length_push before.front item);
          chosen = λ place below. elim (cases_lt place k) [
            | inl earlier ↦ is_chosen-before n key near size before.front item place (omega arith)
                (before.chosen place earlier)
            | inr past ↦
                let here : place ≡ length before.front = omega arith in
                rw here (is_chosen-here n key near size before.front item
                (is_next-from n key near before.front (batch_of size before.front) item next))
          ];
          marked = record {
            marks = set marked.marks item true;
            long = length-set marked.marks item true ∙ long;
            are =
                λ other below. marks-more marked.marks before.front item (omega (arith, next.below))
                (λ j g. marked.are j (omega arith)) other (omega (arith, length-set marked.marks item true));
            counted =
                count-more marked.marks item left ∙ ap (λ c. c + 1) marked.counted ∙
                sym (length_push before.front item);
          };
        }

-- there is a grown order
pub always_grows : (n size : ℕ) (key : ℕ → ℕ) (near : ℕ → ℕ → Bool) → (order : List ℕ) ×
    (is_grown n key near size order ≡ true)
always_grows n size key near =
    let whole : HasFront n key near size n = front_of n key near size n (omega arith) in
    (whole.front, is_grown-from n key near size whole.front whole.long whole.chosen)

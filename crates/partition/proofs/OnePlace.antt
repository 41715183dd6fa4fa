-- Each item is in a grown order once.
use Rattle.std.proofs.Common.{◌≡◌, ◌≢◌, ◌<◌, ◌≤◌, ◌+◌, inl, inr, ℕ, zero, suc, Bool, true, false, eqb, cond, List, []}
use Rattle.std.proofs.Common.{◌∷◌, ◌++◌, length, get_or, set, take, replicate, count_by, Contains, refl, sym, ap, ◌∙◌}
use Rattle.std.proofs.Common.{arith}
use Rattle.std.proofs.lemmas.Bool.{both_ways, cases_order, eq-eqb, ne_eqb, true_from_ne_false}
use Rattle.std.proofs.lemmas.List.{get_or_default, get_or-replicate, get_or-take, length-replicate, length-set}
use Rattle.std.proofs.lemmas.List.{length-take-le, length_push, take_all, take_more}
use Rattle.std.proofs.lemmas.List.Sums.{count_by-le-length, sum_by-cons}
use Rattle.partition.specs.Internal.Frontiers.{IsLeft}
use Rattle.partition.specs.Growing.{batch_before, is_in}
use Rattle.partition.proofs.Determined.{IsGrown}
use Rattle.partition.proofs.Marks.{count-more, marks-more}
use Rattle.partition.proofs.Members.{is_in-from, is_in-true}
use Rattle.partition.proofs.Nexts.{IsNext, is_next-is}
use Rattle.partition.proofs.Taking.{count_by-none}

-- what each place says
pub next_at : (n : ℕ) (key : ℕ → ℕ) (near : ℕ → ℕ → Bool) (size : ℕ) (order : List ℕ) → IsGrown n key near size order →
    (place : ℕ) → place < n → IsNext n key near (take place order) (batch_before size order place)
    (get_or order place 0)
next_at n key near size order is place h =
    is_next-is n key near (take place order) (batch_before size order place) (get_or order place 0) (is.chosen place h)

-- items at two places differ
pub places_differ : (n : ℕ) (key : ℕ → ℕ) (near : ℕ → ℕ → Bool) (size : ℕ) (order : List ℕ) →
    IsGrown n key near size order →
    (p q : ℕ) → p < q → q < n → get_or order p 0 ≢ get_or order q 0
places_differ n key near size order is p q before h same =
    let next : IsNext n key near (take q order) (batch_before size order q) (get_or order q 0) =
    next_at n key near size order is q h in
    let within : p < length (take q order) = omega (arith, length-take-le q order (omega (arith, is.whole))) in
    let at : get_or (take q order) p (get_or order q 0) ≡ get_or order q 0 =
    get_or-take q order p (get_or order q 0) before ∙
    get_or_default order p (get_or order q 0) 0 (omega (arith, is.whole)) ∙ same in
    both_ways (is_in (take q order) (get_or order q 0)) next.left
    (is_in-from (take q order) (get_or order q 0) (p, within, at))

-- one place has one item
pub place_is_one : (n : ℕ) (key : ℕ → ℕ) (near : ℕ → ℕ → Bool) (size : ℕ) (order : List ℕ) →
    IsGrown n key near size order →
    (p q : ℕ) → p < n → q < n → get_or order p 0 ≡ get_or order q 0 → p ≡ q
place_is_one n key near size order is p q h g same =
    elim (cases_order p q) [
      | inl equal ↦ equal
      | inr other ↦ elim other [
        | inl before ↦ absurd (places_differ n key near size order is p q before g same)
        | inr after ↦ absurd (places_differ n key near size order is q p after h (sym same))
      ]
    ]

-- the items of a front, marked
pub record IsMarked (n : ℕ) (front : List ℕ) : Type 0 where
  pub marks : List Bool
  pub long : length marks ≡ n
  pub are : (item : ℕ) → item < n → get_or marks item true ≡ is_in front item
  pub counted : count_by (λ b. b) marks ≡ length front

front_marked : (n : ℕ) (key : ℕ → ℕ) (near : ℕ → ℕ → Bool) (size : ℕ) (order : List ℕ) → IsGrown n key near size order →
    (k : ℕ) → k ≤ n → IsMarked n (take k order)
front_marked n key near size order is zero h = record {
  marks = replicate n false;
  long = length-replicate n false;
  are = λ item below. get_or-replicate n item false true below;
  counted = count_by-none n;
}
front_marked n key near size order is (suc k) h =
    let before : IsMarked n (take k order) = front_marked n key near size order is k (omega arith) in
    let item : ℕ = get_or order k 0 in
    let next : IsNext n key near (take k order) (batch_before size order k) item =
    next_at n key near size order is k (omega arith) in
    let one : suc k ≡ k + 1 = omega arith in
    let more : take (suc k) order ≡ take k order ++ item ∷ [] =
    ap (λ j. take j order) one ∙ take_more order k 0 (omega (arith, is.whole)) in
    let long : length before.marks ≡ n = before.long in
    let left : IsLeft before.marks item = before.are item next.below ∙ next.left in
    rw more (record {
      marks = set before.marks item true;
      long = length-set before.marks item true ∙ long;
      are =
          λ other below. marks-more before.marks (take k order) item (omega (arith, next.below))
          (λ j g. before.are j (omega arith)) other (omega (arith, length-set before.marks item true));
      counted =
          count-more before.marks item left ∙ ap (λ c. c + 1) before.counted ∙ sym (length_push (take k order) item);
    })

-- each item is in the order
pub item_placed : (n : ℕ) (key : ℕ → ℕ) (near : ℕ → ℕ → Bool) (size : ℕ) (order : List ℕ) →
    IsGrown n key near size order →
    (item : ℕ) → item < n → Contains order item
item_placed n key near size order is item h =
    is_in-true order item (true_from_ne_false (is_in order item) (λ missing.
    let all : IsMarked n (take n order) = front_marked n key near size order is n (omega arith) in
    let whole : take n order ≡ order = take_all n order (omega (arith, is.whole)) in
    let left : IsLeft all.marks item = all.are item h ∙ ap (λ front. is_in front item) whole ∙ missing in
    let count : count_by (λ b. b) all.marks ≡ n = all.counted ∙ ap length whole ∙ is.whole in
    let more = count-more all.marks item left in
    let most : count_by (λ b. b) (set all.marks item true) ≤ length (set all.marks item true) =
    count_by-le-length (λ b. b) (set all.marks item true) in
    absurd (omega (arith, length-set all.marks item true, all.long))))

-- a count of none, and of one
count_none : (p : ℕ → Bool) (xs : List ℕ) → ((k : ℕ) → k < length xs → p (get_or xs k 0) ≡ false) → count_by p xs ≡ 0
count_none p [] none = refl
count_none p (x ∷ xs) none =
    let weight : ℕ → ℕ = λ y. cond (p y) 1 0 in
    let here : weight x ≡ 0 = ap (λ b. cond b 1 0) (none 0 (omega arith)) in
    let first : count_by p (x ∷ xs) ≡ weight x + count_by p xs = sum_by-cons weight x xs in
    omega (arith, first, here, count_none p xs (λ k h. none (suc k) (omega arith)))

count_one : (p : ℕ → Bool) (xs : List ℕ) (at : ℕ) → at < length xs → p (get_or xs at 0) ≡ true →
    ((k : ℕ) → k < length xs → k ≢ at → p (get_or xs k 0) ≡ false) → count_by p xs ≡ 1
count_one p [] at h is others = absurd (omega arith)
count_one p (x ∷ xs) zero h is others =
    let weight : ℕ → ℕ = λ y. cond (p y) 1 0 in
    let here : weight x ≡ 1 = ap (λ b. cond b 1 0) is in
    let first : count_by p (x ∷ xs) ≡ weight x + count_by p xs = sum_by-cons weight x xs in
    omega (arith, first, here, count_none p xs (λ k g. others (suc k) (omega arith) (λ e. absurd (omega (arith, e)))))
count_one p (x ∷ xs) (suc at) h is others =
    let weight : ℕ → ℕ = λ y. cond (p y) 1 0 in
    let here : weight x ≡ 0 = ap (λ b. cond b 1 0) (others 0 (omega arith) (λ e. absurd (omega (arith, e)))) in
    let first : count_by p (x ∷ xs) ≡ weight x + count_by p xs = sum_by-cons weight x xs in
    omega (
      arith,
      first,
      here,
      count_one p xs at (omega arith) is
          (λ k g differ. others (suc k) (omega arith) (λ e. differ (omega (arith, e)))),
    )

pub placed_once : (n : ℕ) (key : ℕ → ℕ) (near : ℕ → ℕ → Bool) (size : ℕ) (order : List ℕ) →
    IsGrown n key near size order →
    (item : ℕ) → item < n → count_by (λ placed. eqb placed item) order ≡ 1
placed_once n key near size order is item h =
    let at : Contains order item = item_placed n key near size order is item h in
    let is_at : get_or order at.0 0 ≡ item = get_or_default order at.0 0 item at.1 ∙ at.2 in
    count_one (λ placed. eqb placed item) order at.0 at.1 (eq-eqb (get_or order at.0 0) item is_at) (λ k below differ.
    ne_eqb (get_or order k 0) item (λ same.
    differ (place_is_one n key near size order is k at.0 (omega (arith, is.whole)) (omega (arith, is.whole, at.1))
    (same ∙ sym is_at))))

-- A grown order of ranks, each replaced by its number, is a grown order of the items.
use Rattle.std.proofs.Common.{◌≡◌, ℕ, zero, suc, ◌+◌, ◌*◌, ◌/◌, ◌<◌, Bool, true, false, not, ◌&&◌, ◌||◌, ◌==◌, nat_lt}
use Rattle.std.proofs.Common.{if◌then◌else◌, List, [], ◌∷◌, length, take, drop, map, All, refl, sym, ap, ◌∙◌, subst}
use Rattle.std.proofs.Common.{arith, ◌⊎◌, inl, inr, slice_index, add-zero, zero-add}
use Rattle.std.specs.List.{list_all, range_with_len}
use Rattle.std.specs.Cmp.{both_ways}
use Rattle.std.proofs.lemmas.Bool.{and_parts, and_from, or_cases, or_left, or_right, not-true, not_from_false, eqb-true}
use Rattle.std.proofs.lemmas.Bool.{eq-eqb, lt-ltb, ltb-true, cases_order, false≢true}
use Rattle.std.proofs.lemmas.List.{length-map, get_or-map, take-map, drop-map, get_or_default}
use Rattle.std.proofs.lemmas.List.FromFn.{length-range_with_len, get_or-range_with_len}
use Rattle.std.proofs.lemmas.List.Sorted.{length_permutation, Contains-permutation, All-permutation}
use Rattle.std.proofs.lemmas.List.Elements.{All-head, All-tail, All-take, All-drop}
use Rattle.partition.specs.Growing.{batch_before, goes_before, is_chosen, is_grown, is_in, is_next, ranks_before}
use Rattle.partition.specs.Growing.{touches}
use Rattle.partition.specs.Internal.Ranking.{IsRanking}

-- what `list_all` of a range says of each number
list_all_of_range : (p : ℕ → Bool) (a n k : ℕ) → list_all p (range_with_len a n) ≡ true → k < n → p (a + k) ≡ true
list_all_of_range p a zero k e h = absurd (omega arith)
list_all_of_range p a (suc n) zero e h =
    ap p (add-zero a) ∙ (and_parts (p a) (list_all p (range_with_len (a + 1) n)) e).0
list_all_of_range p a (suc n) (suc k) e h =
    let same : a + suc k ≡ a + 1 + k = omega arith in
    ap p same ∙ list_all_of_range p (a + 1) n k (and_parts (p a) (list_all p (range_with_len (a + 1) n)) e).1
    (omega arith)

list_all_of_range-from : (p : ℕ → Bool) (a n : ℕ) → ((k : ℕ) → k < n → p (a + k) ≡ true) →
    list_all p (range_with_len a n) ≡ true
list_all_of_range-from p a zero f = refl
list_all_of_range-from p a (suc n) f =
    and_from (p a) (list_all p (range_with_len (a + 1) n)) (ap p (sym (add-zero a)) ∙ f 0 (omega arith))
    (list_all_of_range-from p (a + 1) n (λ k h. let same : a + 1 + k ≡ a + suc k = omega arith in ap p same ∙
    f (suc k) (omega arith)))

-- ---- what it means to be next

pub record IsNext (n : ℕ) (key : ℕ → ℕ) (near : ℕ → ℕ → Bool) (placed batch : List ℕ) (i : ℕ) : Type 0 where
  pub below : i < n
  pub left : is_in placed i ≡ false
  pub first : (j : ℕ) → j < n → (is_in placed j || i == j || goes_before key near batch i j) ≡ true

pub next_from : (n : ℕ) (key : ℕ → ℕ) (near : ℕ → ℕ → Bool) (placed batch : List ℕ) (i : ℕ) →
    is_next n key near placed batch i ≡ true → IsNext n key near placed batch i
unfolding is_next
next_from n key near placed batch i e =
    let all : ℕ → Bool = λ j. is_in placed j || i == j || goes_before key near batch i j in
    let h = and_parts (nat_lt i n && not (is_in placed i)) (list_all all (range_with_len 0 n)) e in
    let g = and_parts (nat_lt i n) (not (is_in placed i)) h.0 in
    record {
      below = ltb-true i n g.0;
      left = not-true (is_in placed i) g.1;
      first = λ j l. ap all (sym (zero-add j)) ∙ list_all_of_range all 0 n j h.1 l;
    }

pub is_next-from : (n : ℕ) (key : ℕ → ℕ) (near : ℕ → ℕ → Bool) (placed batch : List ℕ) (i : ℕ) →
    IsNext n key near placed batch i → is_next n key near placed batch i ≡ true
unfolding is_next
is_next-from n key near placed batch i s =
    let all : ℕ → Bool = λ j. is_in placed j || i == j || goes_before key near batch i j in
    and_from (nat_lt i n && not (is_in placed i)) (list_all all (range_with_len 0 n))
    (and_from (nat_lt i n) (not (is_in placed i)) (lt-ltb i n s.below) (not_from_false (is_in placed i) s.left))
    (list_all_of_range-from all 0 n (λ j l. ap all (zero-add j) ∙ s.first j l))

pub record IsGrown (n : ℕ) (key : ℕ → ℕ) (near : ℕ → ℕ → Bool) (size : ℕ) (order : List ℕ) : Type 0 where
  pub all : length order ≡ n
  pub next : (place : ℕ) → place < n → IsNext n key near (take place order) (batch_before size order place)
      (slice_index order place)

pub grown_from : (n : ℕ) (key : ℕ → ℕ) (near : ℕ → ℕ → Bool) (size : ℕ) (order : List ℕ) →
    is_grown n key near size order ≡ true → IsGrown n key near size order
unfolding is_grown
grown_from n key near size order e =
    let h = and_parts (length order == n) (list_all (is_chosen n key near size order) (range_with_len 0 n)) e in
    record {
      all = eqb-true (length order) n h.0;
      next =
          λ place l. next_from n key near (take place order) (batch_before size order place) (slice_index order place)
          (ap (is_chosen n key near size order) (sym (zero-add place)) ∙
          list_all_of_range (is_chosen n key near size order) 0 n place h.1 l);
    }

pub is_grown-from : (n : ℕ) (key : ℕ → ℕ) (near : ℕ → ℕ → Bool) (size : ℕ) (order : List ℕ) →
    IsGrown n key near size order → is_grown n key near size order ≡ true
unfolding is_grown
is_grown-from n key near size order s =
    and_from (length order == n) (list_all (is_chosen n key near size order) (range_with_len 0 n))
    (eq-eqb (length order) n s.all)
    (list_all_of_range-from (is_chosen n key near size order) 0 n (λ place l.
    ap (is_chosen n key near size order) (zero-add place)
    ∙ is_next-from n key near (take place order) (batch_before size order place) (slice_index order place)
    (s.next place l)))

-- the ranks of a grown order are all below n
pub All-of_grown : (n : ℕ) (key : ℕ → ℕ) (near : ℕ → ℕ → Bool) (size : ℕ) (order : List ℕ) →
    is_grown n key near size order ≡ true → All (λ i. i < n) order
All-of_grown n key near size order e k d h =
    let s = grown_from n key near size order e in
    omega (arith, s.all, get_or_default order k d 0 h, (s.next k (omega (arith, s.all))).below)

-- ---- from ranks to numbers

-- `order` maps the ranks below n to the numbers below n, one to one, and keeps what is near and what ranks before
pub record Renumbers (n : ℕ) (key : ℕ → ℕ) (near_ranks near : ℕ → ℕ → Bool) (order : List ℕ) : Type 0 where
  pub below : (r : ℕ) → r < n → slice_index order r < n
  pub ascends : (r s : ℕ) → r < s → s < n → ranks_before key (slice_index order r) (slice_index order s) ≡ true
  pub rank_of : (i : ℕ) → i < n → (r : ℕ) × (r < n) × (slice_index order r ≡ i)
  pub near_is : (r s : ℕ) → r < n → s < n → near_ranks r s ≡ near (slice_index order r) (slice_index order s)

pub renumbers : (keys order : List ℕ) (near_ranks near : ℕ → ℕ → Bool) → IsRanking keys order →
    ((r s : ℕ) → r < length keys → s < length keys →
    near_ranks r s ≡ near (slice_index order r) (slice_index order s)) →
    Renumbers (length keys) (slice_index keys) near_ranks near order
renumbers keys order near_ranks near s near_is =
    let n : ℕ = length keys in
    let range : List ℕ = range_with_len 0 (length keys) in
    let len : length order ≡ length keys =
    length_permutation (range_with_len 0 (length keys)) order s.all ∙ length-range_with_len 0 (length keys) in
    let all : All (λ i. i < length keys) order =
    All-permutation (λ i. i < length keys) (range_with_len 0 (length keys)) order s.all
    (λ k d h. omega (
      arith,
      get_or-range_with_len 0 (length keys) k d
          (omega (arith, length-range_with_len 0 (length keys))),
      length-range_with_len 0 (length keys),
    )) in
    record {
      below = λ r h. all r 0 (omega arith);
      ascends = λ r s' h k. s.ascends r s' h (omega arith);
      rank_of = λ i h.
          let w = Contains-permutation (range_with_len 0 (length keys)) order i s.all (
            i,
            omega (arith, length-range_with_len 0 (length keys)),
            get_or-range_with_len 0 (length keys) i i h ∙ zero-add i,
          ) in
          (w.0, omega (arith, w.1), get_or_default order w.0 0 i w.1 ∙ w.2);
      near_is = near_is;
    }

-- nothing ranks before itself
not_before_itself : (key : ℕ → ℕ) (i j : ℕ) → i ≡ j → ranks_before key i j ≡ true → ⊥
not_before_itself key i j e h =
    let P : ℕ → Type 0 = λ k. ranks_before key i k ≡ true in
    let at : ranks_before key i i ≡ true = subst P (sym e) h in
    by_case (or_cases (nat_lt (key i) (key i)) (key i == key i && nat_lt i i) at)
  where
    by_case : (nat_lt (key i) (key i) ≡ true) ⊎ ((key i == key i && nat_lt i i) ≡ true) → ⊥
    by_case (inl k) = let l = ltb-true (key i) (key i) k in absurd (omega arith)
    by_case (inr k) = let l = ltb-true i i (and_parts (key i == key i) (nat_lt i i) k).1 in absurd (omega arith)

one_to_one : (n : ℕ) (key : ℕ → ℕ) (near_ranks near : ℕ → ℕ → Bool) (order : List ℕ) →
    Renumbers n key near_ranks near order →
    (r s : ℕ) → r < n → s < n → slice_index order r ≡ slice_index order s → r ≡ s
one_to_one n key near_ranks near order t r s hr hs e = by_order (cases_order r s)
  where
    by_order : (r ≡ s) ⊎ ((r < s) ⊎ (s < r)) → r ≡ s
    by_order (inl h) = h
    by_order (inr (inl h)) =
        absurd (not_before_itself key (slice_index order r) (slice_index order s) e (t.ascends r s h hs))
    by_order (inr (inr h)) =
        absurd (not_before_itself key (slice_index order s) (slice_index order r) (sym e) (t.ascends s r h hr))

is_in_renumbered : (n : ℕ) (key : ℕ → ℕ) (near_ranks near : ℕ → ℕ → Bool) (order : List ℕ) →
    Renumbers n key near_ranks near order →
    (placed : List ℕ) → All (λ r. r < n) placed → (r : ℕ) → r < n →
    is_in (map (slice_index order) placed) (slice_index order r) ≡ is_in placed r
is_in_renumbered n key near_ranks near order t [] below r hr = refl
is_in_renumbered n key near_ranks near order t (s ∷ placed) below r hr =
    let hs : s < n = All-head (λ r. r < n) s placed below in
    let o : ℕ → ℕ = slice_index order in
    let head : (o s == o r) ≡ (s == r) = both_ways (o s == o r) (s == r)
    (λ e. eq-eqb s r (one_to_one n key near_ranks near order t s r hs hr (eqb-true (o s) (o r) e)))
    (λ e. eq-eqb (o s) (o r) (ap o (eqb-true s r e))) in
    let rest = is_in_renumbered n key near_ranks near order t placed (All-tail (λ r. r < n) s placed below) r hr in
    ap (λ b. b || is_in (map o placed) (o r)) head ∙ ap (λ b. (s == r) || b) rest

touches_renumbered : (n : ℕ) (key : ℕ → ℕ) (near_ranks near : ℕ → ℕ → Bool) (order : List ℕ) →
    Renumbers n key near_ranks near order →
    (batch : List ℕ) → All (λ r. r < n) batch → (r : ℕ) → r < n →
    touches near (map (slice_index order) batch) (slice_index order r) ≡ touches near_ranks batch r
touches_renumbered n key near_ranks near order t [] below r hr = refl
touches_renumbered n key near_ranks near order t (s ∷ batch) below r hr =
    let hs : s < n = All-head (λ r. r < n) s batch below in
    let o : ℕ → ℕ = slice_index order in
    let rest = touches_renumbered n key near_ranks near order t batch (All-tail (λ r. r < n) s batch below) r hr in
    ap (λ b. b || touches near (map o batch) (o r)) (sym (t.near_is s r hs hr)) ∙ ap (λ b. near_ranks s r || b) rest

weaker : (t u b c : Bool) → (b ≡ true → c ≡ true) → (if t then u && b else u || b) ≡ true →
    (if t then u && c else u || c) ≡ true
weaker true true b c f e = f e
weaker true false b c f e = e
weaker false true b c f e = refl
weaker false false b c f e = f e

or_weaker : (a b c x y z : Bool) → (a ≡ true → x ≡ true) → (b ≡ true → y ≡ true) → (c ≡ true → z ≡ true) →
    (a || b || c) ≡ true → (x || y || z) ≡ true
or_weaker true b c x y z f g h e = or_left (x || y) z (or_left x y (f refl))
or_weaker false true c x y z f g h e = or_left (x || y) z (or_right x y (g refl))
or_weaker false false true x y z f g h e = or_right (x || y) z (h refl)
or_weaker false false false x y z f g h e = absurd (false≢true e)

goes_before_renumbered : (n : ℕ) (key : ℕ → ℕ) (near_ranks near : ℕ → ℕ → Bool) (order : List ℕ) →
    Renumbers n key near_ranks near order →
    (batch : List ℕ) → All (λ r. r < n) batch → (r s : ℕ) → r < n → s < n →
    goes_before (λ _. 0) near_ranks batch r s ≡ true →
    goes_before key near (map (slice_index order) batch) (slice_index order r) (slice_index order s) ≡ true
goes_before_renumbered n key near_ranks near order t batch hb r s hr hs e =
    let o : ℕ → ℕ = slice_index order in
    let before : ranks_before (λ _. 0) r s ≡ true →
    ranks_before key (slice_index order r) (slice_index order s) ≡ true =
    λ h. t.ascends r s (ltb-true r s h) hs in
    let P : Bool → Type 0 =
    λ b. (if b then touches near_ranks batch r && ranks_before key (slice_index order r)
    (slice_index order s) else touches near_ranks batch r || ranks_before key (slice_index order r)
    (slice_index order s)) ≡ true in
    let Q : Bool → Type 0 =
    λ b. (if touches near (map (slice_index order) batch) (slice_index order s) then b && ranks_before key
    (slice_index order r) (slice_index order s) else b || ranks_before key (slice_index order r)
    (slice_index order s)) ≡ true in
    subst Q (sym (touches_renumbered n key near_ranks near order t batch hb r hr))
    (subst P (sym (touches_renumbered n key near_ranks near order t batch hb s hs))
    (weaker (touches near_ranks batch s) (touches near_ranks batch r) (ranks_before (λ _. 0) r s)
    (ranks_before key (slice_index order r) (slice_index order s)) before e))

first_renumbered : (n : ℕ) (key : ℕ → ℕ) (near_ranks near : ℕ → ℕ → Bool) (order : List ℕ) →
    Renumbers n key near_ranks near order →
    (placed batch : List ℕ) → All (λ r. r < n) placed → All (λ r. r < n) batch → (r s : ℕ) → r < n → s < n →
    (is_in placed s || r == s || goes_before (λ _. 0) near_ranks batch r s) ≡ true →
    (is_in (map (slice_index order) placed) (slice_index order s) || slice_index order r == slice_index order s ||
    goes_before key near (map (slice_index order) batch) (slice_index order r) (slice_index order s)) ≡ true
first_renumbered n key near_ranks near order t placed batch hp hb r s hr hs e =
    or_weaker (is_in placed s) (r == s) (goes_before (λ _. 0) near_ranks batch r s)
    (is_in (map (slice_index order) placed) (slice_index order s)) (slice_index order r == slice_index order s)
    (goes_before key near (map (slice_index order) batch) (slice_index order r) (slice_index order s))
    (λ h. is_in_renumbered n key near_ranks near order t placed hp s hs ∙ h)
    (λ h. eq-eqb (slice_index order r) (slice_index order s) (ap (slice_index order) (eqb-true r s h)))
    (goes_before_renumbered n key near_ranks near order t batch hb r s hr hs) e

-- the least rank is the least item
next_renumbered : (n : ℕ) (key : ℕ → ℕ) (near_ranks near : ℕ → ℕ → Bool) (order : List ℕ) →
    Renumbers n key near_ranks near order →
    (placed batch : List ℕ) → All (λ r. r < n) placed → All (λ r. r < n) batch → (r : ℕ) →
    IsNext n (λ _. 0) near_ranks placed batch r →
    IsNext n key near (map (slice_index order) placed) (map (slice_index order) batch) (slice_index order r)
next_renumbered n key near_ranks near order t placed batch hp hb r s =
    let o : ℕ → ℕ = slice_index order in
    record {
      below = t.below r s.below;
      left = is_in_renumbered n key near_ranks near order t placed hp r s.below ∙ s.left;
      first = λ j h.
          let w = t.rank_of j h in
          let P : ℕ → Type 0 =
          λ i. (is_in (map (slice_index order) placed) i || slice_index order r == i || goes_before key near
          (map (slice_index order) batch) (slice_index order r) i) ≡ true in
          subst P w.2 (first_renumbered n key near_ranks near order t placed batch hp hb r w.0 s.below w.1
          (s.first w.0 w.1));
    }

pub grown_renumbered : (n : ℕ) (key : ℕ → ℕ) (near_ranks near : ℕ → ℕ → Bool) (order : List ℕ) →
    Renumbers n key near_ranks near order →
    (size : ℕ) (ranks : List ℕ) → is_grown n (λ _. 0) near_ranks size ranks ≡ true →
    is_grown n key near size (map (slice_index order) ranks) ≡ true
grown_renumbered n key near_ranks near order t size ranks e =
    let g = grown_from n (λ _. 0) near_ranks size ranks e in
    let all = All-of_grown n (λ _. 0) near_ranks size ranks e in
    is_grown-from n key near size (map (slice_index order) ranks) (record {
      all = length-map ranks (slice_index order) ∙ g.all;
      next = λ place h.
          let batch_start : ℕ = place / size * size in
          let placed : take place (map (slice_index order) ranks) ≡ map (slice_index order) (take place ranks) =
          take-map (slice_index order) place ranks in
          let batch : batch_before size (map (slice_index order) ranks) place ≡ map (slice_index order)
          (batch_before size ranks place) =
          ap (drop (place / size * size)) placed ∙
          drop-map (slice_index order) (place / size * size) (take place ranks) in
          let item : slice_index (map (slice_index order) ranks) place ≡ slice_index order (slice_index ranks place) =
          get_or-map (slice_index order) ranks place 0 0 (omega (arith, g.all)) in
          let P : List ℕ → Type 0 =
          λ xs. IsNext n key near xs (batch_before size (map (slice_index order) ranks) place)
          (slice_index (map (slice_index order) ranks) place) in
          let Q : List ℕ → Type 0 =
          λ xs. IsNext n key near (map (slice_index order) (take place ranks)) xs
          (slice_index (map (slice_index order) ranks) place) in
          let R : ℕ → Type 0 =
          λ i. IsNext n key near (map (slice_index order) (take place ranks))
          (map (slice_index order) (batch_before size ranks place)) i in
          subst P (sym placed) (subst Q (sym batch) (subst R (sym item)
          (next_renumbered n key near_ranks near order t (take place ranks) (batch_before size ranks place)
          (All-take (λ r. r < n) place ranks all) (All-drop (λ r. r < n) (place / size * size) (take place ranks)
          (All-take (λ r. r < n) place ranks all))
          (slice_index ranks place) (g.next place h))));
    })

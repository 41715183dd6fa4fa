-- The clusters of a page that fits its heads are found by their numbers, which ascend.
use Rattle.std.proofs.Common.{◌≡◌, ◌≤◌, ◌<◌, ◌+◌, ℕ, zero, suc, Bool, true, false, eqb, List, [], ◌∷◌, length, get_or}
use Rattle.std.proofs.Common.{map, filter, Some, refl, subst, arith, cond}
use Rattle.std.proofs.lemmas.Bool.Decides.{nat_tests}
use Rattle.std.specs.Bool.{⊤}
use Rattle.std.specs.List.{range_with_len, list_any}
use Rattle.std.specs.Option.{unwrap_or}
use Rattle.geom_core.specs.declared.triangles.Tagged.{Tagged}
use Rattle.page_codec.specs.declared.pages.PageCluster.{PageCluster}
use Rattle.page_codec.specs.Lookups.{tris_with}

-- ---- lists of numbers that ascend

-- each item is such a one
abbrev pub Each : {X : Type 0} → (X → Type 0) → List X → Type 0
Each P [] = ⊤
Each P (x ∷ xs) = P x × Each P xs

-- the numbers ascend, from this one on
abbrev pub Ascends : ℕ → List ℕ → Type 0
Ascends low [] = ⊤
Ascends low (x ∷ xs) = (low ≤ x) × Ascends (x + 1) xs

pub each-weaker : {X : Type 0} (P Q : X → Type 0) (xs : List X) → ((x : X) → P x → Q x) → Each P xs → Each Q xs
each-weaker P Q [] step each = tt
each-weaker P Q (x ∷ xs) step (here, rest) = (step x here, each-weaker P Q xs step rest)

pub each-both : {X : Type 0} (P Q R : X → Type 0) (xs : List X) → ((x : X) → P x → Q x → R x) → Each P xs → Each Q xs →
    Each R xs
each-both P Q R [] step each other = tt
each-both P Q R (x ∷ xs) step (here, rest) (there, more) = (step x here there, each-both P Q R xs step rest more)

-- of the items that a map makes
pub each-map : {X Y : Type 0} (f : X → Y) (P : Y → Type 0) (xs : List X) → Each P (map f xs) → Each (λ x. P (f x)) xs
each-map f P [] each = tt
each-map f P (x ∷ xs) (here, rest) = (here, each-map f P xs rest)

-- of each item by its place
pub each-at : {X : Type 0} (P : X → Type 0) (xs : List X) → Each P xs → (k : ℕ) (none : X) → k < length xs →
    P (get_or xs k none)
each-at P [] each k none below = absurd (omega arith)
each-at P (x ∷ xs) (here, rest) zero none below = here
each-at P (x ∷ xs) (here, rest) (suc k) none below = each-at P xs rest k none (omega (arith, below))

ascends-lower : (low more : ℕ) (xs : List ℕ) → Ascends (low + more) xs → Ascends low xs
ascends-lower low more [] up = tt
ascends-lower low more (x ∷ xs) (from, rest) = (omega (arith, from), rest)

ascends-from : (low : ℕ) (xs : List ℕ) → Ascends low xs → Each (λ x. low ≤ x) xs
ascends-from low [] up = tt
ascends-from low (x ∷ xs) (from, rest) = (
  from,
  each-weaker (λ y. x + 1 ≤ y) (λ y. low ≤ y) xs (λ y after. omega (arith, from, after))
      (ascends-from (x + 1) xs rest),
)

pub ascends-filter : (test : ℕ → Bool) (a n : ℕ) → Ascends a (filter test (range_with_len a n))
ascends-filter test a zero = tt
ascends-filter test a (suc n) =
    let xs = filter test (range_with_len (a + 1) n) in
    let rest : Ascends (a + 1) xs = ascends-filter test (a + 1) n in
    elim (test a) as (λ b. Ascends a (cond b (a ∷ xs) xs)) [
      | true ↦ (omega arith, rest)
      | false ↦ ascends-lower a 1 xs rest
    ]

-- what a filter leaves of a range passes, and is in the range
pub each-filter : (test : ℕ → Bool) (a n : ℕ) →
    Each (λ x. (test x ≡ true) × (x < a + n)) (filter test (range_with_len a n))
each-filter test a zero = tt
each-filter test a (suc n) =
    let P : ℕ → Type 0 = λ x. (test x ≡ true) × (x < a + suc n) in
    let xs = filter test (range_with_len (a + 1) n) in
    let rest : Each P xs =
    each-weaker (λ x. (test x ≡ true) × (x < a + 1 + n)) P xs (λ x both. (both.0, omega (arith, both.1)))
    (each-filter test (a + 1) n) in
    elim (test a) as (λ b. test a ≡ b → Each P (cond b (a ∷ xs) xs)) [
      | true ↦ λ e. ((e, omega arith), rest)
      | false ↦ λ e. rest
    ] refl

-- ---- clusters by their numbers

abbrev pub numbers : List PageCluster → List ℕ
numbers clusters = map (λ cluster. cluster.number) clusters

-- a search for the cluster finds it
abbrev pub IsFound : List PageCluster → PageCluster → Type 0
IsFound clusters cluster = tris_with cluster.number clusters ≡ Some cluster.tris

found-later : (x : PageCluster) (xs : List PageCluster) (y : PageCluster) → x.number + 1 ≤ y.number → IsFound xs y →
    IsFound (x ∷ xs) y
found-later x xs y after found =
    let other : eqb x.number y.number ≡ false = grind (arith, nat_tests) in rw (other, found) refl

found-here : (x : PageCluster) (xs : List PageCluster) → IsFound (x ∷ xs) x
found-here x xs = let same : eqb x.number x.number ≡ true = grind (arith, nat_tests) in rw same refl

-- each of clusters whose numbers ascend is found
pub each-found : (clusters : List PageCluster) (low : ℕ) → Ascends low (numbers clusters) →
    Each (IsFound clusters) clusters
each-found [] low up = tt
each-found (x ∷ xs) low (from, rest) = (
  found-here x xs,
  each-both (λ (y : PageCluster). x.number + 1 ≤ y.number) (IsFound xs) (IsFound (x ∷ xs)) xs (found-later x xs)
      (each-map (λ (cluster : PageCluster). cluster.number) (λ n. x.number + 1 ≤ n) xs
      (ascends-from (x.number + 1) (numbers xs) rest))
      (each-found xs (x.number + 1) rest),
)

-- what is known of each cluster is known of the one that is found
pub found-has : (Q : ℕ → List Tagged → Type 0) (clusters : List PageCluster) (c : ℕ) →
    Each (λ (cluster : PageCluster). Q cluster.number cluster.tris) clusters →
    list_any (λ k. eqb k c) (numbers clusters) ≡ true → Q c (unwrap_or (tris_with c clusters) [])
found-has Q [] c each listed = cc
found-has Q (x ∷ xs) c (here, rest) listed =
    elim (eqb x.number c) as (λ b. eqb x.number c ≡ b →
    Q c (unwrap_or (cond b (Some x.tris) (tris_with c xs)) [])) [
      | true ↦ λ e. let same : x.number ≡ c = grind (arith, nat_tests) in subst (λ (n : ℕ). Q n x.tris) same here
      | false ↦ λ e. found-has Q xs c rest (later e listed)
    ] refl
  where
    later : eqb x.number c ≡ false → list_any (λ k. eqb k c) (numbers (x ∷ xs)) ≡ true →
        list_any (λ k. eqb k c) (numbers xs) ≡ true
    later e any = grind (arith, nat_tests)

-- clusters are what their numbers find
pub clusters-found : (stored : ℕ → List Tagged) (clusters : List PageCluster) →
    Each (λ (cluster : PageCluster). stored cluster.number ≡ cluster.tris) clusters →
    map (λ c. record { number = c; tris = stored c }) (numbers clusters) ≡ clusters
clusters-found stored [] each = refl
clusters-found stored (x ∷ xs) (here, rest) = rw (here, clusters-found stored xs rest) refl

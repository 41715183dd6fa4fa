-- The places of the lattice: each place on a side of the cube is one, and its vertex is the one that its number names.
use Rattle.std.proofs.Common.{◌≡◌, ℕ, zero, suc, ◌+◌, ◌≤◌, ◌<◌, Bool, true, false, cond, not, List, [], ◌∷◌, ◌++◌}
use Rattle.std.proofs.Common.{length, get_or, map, filter, flat_map, ◌⊎◌, Some, slice_get, option_map, inl, inr, sym}
use Rattle.std.proofs.Common.{ap, subst, ◌∙◌, arith}
use Rattle.std.specs.List.{position_or_len, range_with_len}
use Rattle.std.proofs.lemmas.Bool.{cases_lt}
use Rattle.std.proofs.lemmas.Bool.Decides.{nat_tests}
use Rattle.std.proofs.lemmas.List.Sums.{passes_at_first}
use Rattle.std.proofs.lemmas.Option.{slice_get-get_or, slice_get-map}
use Rattle.shape_gen.specs.declared.lattice.Place.{Place}
use Rattle.shape_gen.specs.BoxText.{same_place}
use Rattle.shape_gen.specs.Lattice.{place, is_on_surface, row_places, layer_places, cube_places, lattice, up_to}
use Rattle.shape_gen.specs.Lattice.{point_at}
use Rattle.shape_gen.proofs.GridLaws.{place_from}
use Rattle.shape_gen.proofs.PlaceLaws.{same_place-itself}

-- x is an element of the list: by recursion on it, unlike `Contains` of std, which is by index
abbrev pub IsIn : {X : Type 0} → X → List X → Type 0
IsIn x [] = ⊥
IsIn x (y ∷ ys) = (x ≡ y) ⊎ IsIn x ys

IsIn-left : {X : Type 0} (x : X) (xs ys : List X) → IsIn x xs → IsIn x (xs ++ ys)
IsIn-left x [] ys h = absurd h
IsIn-left x (y ∷ xs) ys h = elim h [ inl e ↦ inl e | inr t ↦ inr (IsIn-left x xs ys t) ]

IsIn-right : {X : Type 0} (x : X) (xs ys : List X) → IsIn x ys → IsIn x (xs ++ ys)
IsIn-right x [] ys h = h
IsIn-right x (y ∷ xs) ys h = inr (IsIn-right x xs ys h)

IsIn-map : {X Y : Type 0} (f : X → Y) (x : X) (xs : List X) → IsIn x xs → IsIn (f x) (map f xs)
IsIn-map f x [] h = absurd h
IsIn-map f x (y ∷ xs) h = elim h [ inl e ↦ inl (ap f e) | inr t ↦ inr (IsIn-map f x xs t) ]

IsIn-flat_map : {X Y : Type 0} (f : X → List Y) (x : X) (y : Y) (xs : List X) → IsIn x xs → IsIn y (f x) →
    IsIn y (flat_map f xs)
IsIn-flat_map f x y [] h there = absurd h
IsIn-flat_map f x y (z ∷ xs) h there =
    elim h [
      | inl e ↦ IsIn-left y (f z) (flat_map f xs) (subst (λ t. IsIn y (f t)) e there)
      | inr t ↦ IsIn-right y (f z) (flat_map f xs) (IsIn-flat_map f x y xs t there)
    ]

IsIn-filter : {X : Type 0} (p : X → Bool) (x : X) (xs : List X) → p x ≡ true → IsIn x xs → IsIn x (filter p xs)
IsIn-filter p x [] passes h = absurd h
IsIn-filter {X} p x (y ∷ xs) passes h =
    elim h [
      | inl e ↦ (let first : p y ≡ true = ap p (sym e) ∙ passes in rw first (inl e))
      | inr t ↦
          elim (p y) as (λ b. IsIn x (cond b (y ∷ filter p xs) (filter p xs))) [
            | true ↦ inr (IsIn-filter p x xs passes t)
            | false ↦ IsIn-filter p x xs passes t
          ]
    ]

IsIn-range : (k a c : ℕ) → a ≤ k → k < a + c → IsIn k (range_with_len a c)
IsIn-range k a zero least most = absurd (omega arith)
IsIn-range k a (suc c) least most =
    elim (cases_lt a k) [
      | inl above ↦ inr (IsIn-range k (a + 1) c (omega arith) (omega arith))
      | inr here ↦ inl (omega arith)
    ]

IsIn-up_to : (k n : ℕ) → k ≤ n → IsIn k (up_to n)
IsIn-up_to k n most = IsIn-range k 0 (n + 1) (omega arith) (omega arith)

-- a place on a side of the cube is in the lattice
pub lattice-has : (n i j k : ℕ) → i ≤ n → j ≤ n → k ≤ n → is_on_surface n (place i j k) ≡ true →
    IsIn (place i j k) (lattice n)
lattice-has n i j k in_i in_j in_k side =
    IsIn-filter (is_on_surface n) (place i j k) (cube_places n) side
    (IsIn-flat_map (layer_places n) i (place i j k) (up_to n) (IsIn-up_to i n in_i)
    (IsIn-flat_map (row_places n i) j (place i j k) (up_to n) (IsIn-up_to j n in_j)
    (IsIn-map (place i j) k (up_to n) (IsIn-up_to k n in_k))))

-- ---- where it is

-- a place that is in the list has an index there
pub position-within : (p : Place) (places : List Place) → IsIn p places →
    position_or_len (same_place p) places < length places
position-within p [] h = absurd h
position-within p (q ∷ places) h =
    elim h [
      | inl e ↦
          (let here : same_place p q ≡ true = ap (same_place p) (sym e) ∙ same_place-itself p in
          rw here (omega arith))
      | inr t ↦
          elim (same_place p q)
          as (λ b. cond (not b) (1 + position_or_len (same_place p) places) 0 < length (q ∷ places)) [
            | true ↦ omega arith
            | false ↦ omega (arith, position-within p places t)
          ]
    ]

same_place-from : (p q : Place) → same_place p q ≡ true → p ≡ q
unfolding same_place
same_place-from p q same =
    place_from p.i p.j p.k q.i q.j q.k (grind (arith, nat_tests)) (grind (arith, nat_tests)) (grind (arith, nat_tests))

-- the point at its index among the points of the places
pub point-found : (number : ℕ) (p : Place) (places : List Place) → IsIn p places →
    slice_get (map (point_at number) places) (position_or_len (same_place p) places) ≡ Some (point_at number p)
point-found number p places h =
    let i : ℕ = position_or_len (same_place p) places in
    let within : i < length places = position-within p places h in
    slice_get-map (point_at number) places i ∙
    ap (option_map (point_at number)) (slice_get-get_or places i p within) ∙
    ap (λ q. Some (point_at number q))
    (sym (same_place-from p (get_or places i p) (passes_at_first (same_place p) places p within)))

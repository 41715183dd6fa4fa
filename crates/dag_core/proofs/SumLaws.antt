-- Rule 6 compares edge sums at the edges of both lists alone; they then agree at every pair of points.
use Rattle.std.proofs.Common.{◌≡◌, ◌<◌, ◌≤◌, ◌+◌, ℕ, Bool, true, false, ◌&&◌, pos, ◌-ℤ◌, List, [], ◌∷◌, ◌++◌, flat_map}
use Rattle.std.proofs.Common.{count_by, cond, refl, sym, ap, subst, arith, inl, inr}
use Rattle.std.specs.List.{list_all}
use Rattle.std.specs.Ordering.{int_eq}
use Rattle.std.proofs.lemmas.Bool.{and_parts, and_from, cases_lt}
use Rattle.std.proofs.lemmas.Bool.Decides.{Decides-int_eq}
use Rattle.std.proofs.lemmas.Int.{ints}
use Rattle.std.proofs.lemmas.List.Sums.{sum_by-cons}
use Rattle.geom_core.specs.declared.points.Pt.{Pt}
use Rattle.geom_core.specs.declared.triangles.Tri.{Tri}
use Rattle.geom_core.specs.EdgeSum.{edge_count, edge_sum, edges_of, same_point}
use Rattle.geom_core.proofs.EdgeSumLaws.{edge_count-append}
use Rattle.geom_core.proofs.PointLaws.{same_point-from}
use Rattle.dag_core.specs.TriangleRules.{have_same_sums}

-- an item that passes both tests
record Both {X : Type 0} (test other : X → Bool) : Type 0 where
  item : X
  passes : test item ≡ true
  also : other item ≡ true

abbrev weight : Bool → ℕ
weight b = cond b 1 0

-- where some item passes a test and all pass another, one passes both
counted : {X : Type 0} (test other : X → Bool) (xs : List X) → 0 < count_by test xs → list_all other xs ≡ true →
    Both test other
counted {X} test other [] some all = absurd (omega arith)
counted {X} test other (x ∷ xs) some all =
    at (test x) refl (λ less. counted test other xs less (and_parts (other x) (list_all other xs) all).1)
  where
    at : (b : Bool) → test x ≡ b → (0 < count_by test xs → Both test other) → Both test other
    at true is rest = record { item = x; passes = is; also = (and_parts (other x) (list_all other xs) all).0 }
    at false is rest =
        let sum = sum_by-cons (λ y. weight (test y)) x xs in
        let none : weight (test x) ≡ 0 = ap weight is in
        rest (omega arith)

-- at a pair of points that is an edge of either list
at_edge : (tris others : List Tri) → have_same_sums tris others ≡ true → (u v : Pt) →
    0 < edge_count tris u v + edge_count others u v →
    edge_sum tris u v ≡ edge_sum others u v
unfolding have_same_sums edge_count
at_edge tris others same u v some =
    let found : Both (λ (edge : Pt × Pt). same_point edge.0 u && same_point edge.1 v)
    (λ (edge : Pt × Pt). int_eq (edge_sum tris edge.0 edge.1) (edge_sum others edge.0 edge.1)) =
    counted (λ (edge : Pt × Pt). same_point edge.0 u && same_point edge.1 v)
    (λ (edge : Pt × Pt). int_eq (edge_sum tris edge.0 edge.1) (edge_sum others edge.0 edge.1))
    (flat_map edges_of (tris ++ others)) (subst (λ n. 0 < n) (sym (edge_count-append tris others u v)) some) same in
    let ends = and_parts (same_point found.item.0 u) (same_point found.item.1 v) found.passes in
    let from : found.item.0 ≡ u = same_point-from found.item.0 u ends.0 in
    let to : found.item.1 ≡ v = same_point-from found.item.1 v ends.1 in
    let agree : edge_sum tris found.item.0 found.item.1 ≡ edge_sum others found.item.0 found.item.1 =
    (Decides-int_eq (edge_sum tris found.item.0 found.item.1) (edge_sum others found.item.0 found.item.1)).0
    found.also in
    subst (λ (p : Pt). edge_sum tris p v ≡ edge_sum others p v) from
    (subst (λ (q : Pt). edge_sum tris found.item.0 q ≡ edge_sum others found.item.0 q) to agree)

turned : (a b c d : ℕ) → pos b -ℤ pos a ≡ pos d -ℤ pos c → pos a -ℤ pos b ≡ pos c -ℤ pos d
turned a b c d same = omega (arith, ints)

nothing : (a b c d : ℕ) → a + c ≤ 0 → b + d ≤ 0 → pos a -ℤ pos b ≡ pos c -ℤ pos d
nothing a b c d none back = omega (arith, ints)

pub sums_agree : (tris others : List Tri) → have_same_sums tris others ≡ true → (u v : Pt) →
    edge_sum tris u v ≡ edge_sum others u v
unfolding edge_sum
sums_agree tris others same u v =
    elim (cases_lt 0 (edge_count tris u v + edge_count others u v)) [
      | inl some ↦ at_edge tris others same u v some
      | inr none ↦
          elim (cases_lt 0 (edge_count tris v u + edge_count others v u)) [
            | inl some ↦
                turned (edge_count tris u v) (edge_count tris v u) (edge_count others u v) (edge_count others v u)
                (at_edge tris others same v u some)
            | inr back ↦ nothing (edge_count tris u v) (edge_count tris v u) (edge_count others u v)
                (edge_count others v u) none back
          ]
    ]

all_pass : {X : Type 0} (test : X → Bool) (xs : List X) → ((x : X) → test x ≡ true) → list_all test xs ≡ true
all_pass {X} test [] each = refl
all_pass {X} test (x ∷ xs) each = and_from (test x) (list_all test xs) (each x) (all_pass test xs each)

pub agree_everywhere : (tris others : List Tri) → ((u v : Pt) → edge_sum tris u v ≡ edge_sum others u v) →
    have_same_sums tris others ≡ true
unfolding have_same_sums
agree_everywhere tris others agree =
    all_pass (λ (edge : Pt × Pt). int_eq (edge_sum tris edge.0 edge.1) (edge_sum others edge.0 edge.1))
    (flat_map edges_of (tris ++ others))
    (λ edge. (Decides-int_eq (edge_sum tris edge.0 edge.1) (edge_sum others edge.0 edge.1)).1 (agree edge.0 edge.1))

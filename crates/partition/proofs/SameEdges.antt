-- Edge uses on one edge, and the edge between two points.
use Rattle.std.proofs.Common.{Some, ◌≡◌, ℕ, Bool, true, false, ◌&&◌, ◌||◌, if◌then◌else◌, ℤ, refl, sym, ap, ◌∙◌, subst}
use Rattle.std.proofs.Common.{◌⊎◌, inl, inr}
use Rattle.std.specs.Cmp.{both_ways, IsTotalOrder}
use Rattle.std.specs.Ordering.{int_eq, int_cmp, is_le, is_eq, ordering_then, ordering_reverse, partial_ordering_then}
use Rattle.std.specs.Ordering.{is_some_and}
use Rattle.std.specs.declared.cmp.Ordering.{Ordering}
use Rattle.std.specs.declared.cmp.Ordering.TheVariants.{Less, Equal, Greater}
use Rattle.std.proofs.lemmas.Bool.{and_parts, and_from, or_cases, or_left, or_right, false≢true}
use Rattle.std.proofs.lemmas.Bool.Decides.{Decides-int_eq}
use Rattle.std.proofs.lemmas.Cmp.{then_total, on_total, int_cmp_total}
use Rattle.geom_core.specs.declared.points.Pt.{Pt}
use Rattle.geom_core.specs.Order.{point_cmp}
use Rattle.geom_core.specs.EdgeSum.{same_point}
use Rattle.half_mesh.specs.declared.edges.Edge.{Edge}
use Rattle.partition.specs.declared.edge_uses.EdgeUse.{EdgeUse}
use Rattle.partition.specs.Neighbours.{same_edge}
use Rattle.partition.specs.Internal.EdgeUses.{edge_of, on_one_edge, use_of}

pub same_points : (p q : Pt) → p.x ≡ q.x → p.y ≡ q.y → p.z ≡ q.z → p ≡ q
same_points p q x y z =
    let at_x : (a : ℤ) → Pt = λ a. record { x = a; y = p.y; z = p.z } in
    let at_y : (a : ℤ) → Pt = λ a. record { x = q.x; y = a; z = p.z } in
    let at_z : (a : ℤ) → Pt = λ a. record { x = q.x; y = q.y; z = a } in
    ap at_x x ∙ (ap at_y y ∙ ap at_z z)

pub same_edges : (e f : Edge) → e.u ≡ f.u → e.v ≡ f.v → e ≡ f
same_edges e f u v =
    let at_u : (a : Pt) → Edge = λ a. record { u = a; v = e.v } in
    let at_v : (a : Pt) → Edge = λ a. record { u = f.u; v = a } in
    ap at_u u ∙ ap at_v v

pub points_from_same : (p q : Pt) → same_point p q ≡ true → p ≡ q
unfolding same_point
points_from_same p q e =
    let xy = and_parts (int_eq p.x q.x && int_eq p.y q.y) (int_eq p.z q.z) e in
    let xs = and_parts (int_eq p.x q.x) (int_eq p.y q.y) xy.0 in
    same_points p q ((Decides-int_eq p.x q.x).0 xs.0) ((Decides-int_eq p.y q.y).0 xs.1)
    ((Decides-int_eq p.z q.z).0 xy.1)

pub same_point-itself : (p : Pt) → same_point p p ≡ true
unfolding same_point
same_point-itself p =
    and_from (int_eq p.x p.x && int_eq p.y p.y) (int_eq p.z p.z)
    (and_from (int_eq p.x p.x) (int_eq p.y p.y) ((Decides-int_eq p.x p.x).1 refl) ((Decides-int_eq p.y p.y).1 refl))
    ((Decides-int_eq p.z p.z).1 refl)

pub same_point-from : (p q : Pt) → p ≡ q → same_point p q ≡ true
same_point-from p q e = let P : Pt → Type 0 = λ r. same_point p r ≡ true in subst P e (same_point-itself p)

-- two pairs of points at once
pairs_from_same : (a b c d : Pt) → (same_point a b && same_point c d) ≡ true → (a ≡ b) × (c ≡ d)
pairs_from_same a b c d e =
    let h = and_parts (same_point a b) (same_point c d) e in
    (points_from_same a b h.0, points_from_same c d h.1)

same_pairs-from : (a b c d : Pt) → a ≡ b → c ≡ d → (same_point a b && same_point c d) ≡ true
same_pairs-from a b c d e f = and_from (same_point a b) (same_point c d) (same_point-from a b e) (same_point-from c d f)

pub edges_from_one : (s t : EdgeUse) → on_one_edge s t ≡ true → s.edge ≡ t.edge
unfolding on_one_edge
edges_from_one s t e =
    let h = pairs_from_same s.edge.u t.edge.u s.edge.v t.edge.v e in
    same_edges s.edge t.edge h.0 h.1

pub on_one_edge-from : (s t : EdgeUse) → s.edge ≡ t.edge → on_one_edge s t ≡ true
unfolding on_one_edge
on_one_edge-from s t e =
    let u : (e : Edge) → Pt = λ e. e.u in
    let v : (e : Edge) → Pt = λ e. e.v in
    same_pairs-from s.edge.u t.edge.u s.edge.v t.edge.v (ap u e) (ap v e)

-- the order of points is total, and points that tie are one
pub point_cmp_total : IsTotalOrder point_cmp
point_cmp_total =
    then_total (on_total (λ (p : Pt). p.x) int_cmp_total)
    (then_total (on_total (λ (p : Pt). p.y) int_cmp_total) (on_total (λ (p : Pt). p.z) int_cmp_total))

pub then_ties : (a b : Ordering) → ordering_then a b ≡ Equal → (a ≡ Equal) × (b ≡ Equal)
then_ties Less b e = cc
then_ties Equal b e = (refl, e)
then_ties Greater b e = cc

ints_from_tie : (m n : ℤ) → int_cmp m n ≡ Equal → m ≡ n
ints_from_tie m n e = (Decides-int_eq m n).0 (ap is_eq e)

pub points_from_tie : (p q : Pt) → point_cmp p q ≡ Equal → p ≡ q
points_from_tie p q e =
    let h = then_ties (int_cmp p.x q.x) (ordering_then (int_cmp p.y q.y) (int_cmp p.z q.z)) e in
    let i = then_ties (int_cmp p.y q.y) (int_cmp p.z q.z) h.1 in
    same_points p q (ints_from_tie p.x q.x h.0) (ints_from_tie p.y q.y i.0) (ints_from_tie p.z q.z i.1)

-- what a comparison of points by `<=` answers
pub partial_below : (a b c : Ordering) →
    is_some_and is_le (partial_ordering_then (Some a) (partial_ordering_then (Some b) (Some c))) ≡ is_le
    (ordering_then a (ordering_then b c))
partial_below Less b c = refl
partial_below Equal Less c = refl
partial_below Equal Equal c = refl
partial_below Equal Greater c = refl
partial_below Greater b c = refl

-- ---- the edge between two points

abbrev is_below : Pt → Pt → Bool
is_below p q = is_le (point_cmp p q)

below_or_above : (a : Ordering) → is_le a ≡ true → is_le (ordering_reverse a) ≡ true → a ≡ Equal
below_or_above Less e f = cc
below_or_above Equal e f = refl
below_or_above Greater e f = cc

one_way : (a : Ordering) → is_le a ≡ false → is_le (ordering_reverse a) ≡ false → ⊥
one_way Less e f = cc
one_way Equal e f = cc
one_way Greater e f = cc

both_below : (p q : Pt) → is_below p q ≡ true → is_below q p ≡ true → p ≡ q
both_below p q h i =
    points_from_tie p q (below_or_above (point_cmp p q) h (ap is_le (sym (point_cmp_total.antisymm q p)) ∙ i))

one_below : (p q : Pt) → is_below p q ≡ false → is_below q p ≡ false → ⊥
one_below p q h i = one_way (point_cmp p q) h (ap is_le (sym (point_cmp_total.antisymm q p)) ∙ i)

-- edges between points are one where the points are, in either direction
abbrev forth : Pt × Pt → Pt × Pt → Bool
forth e f = same_point e.0 f.0 && same_point e.1 f.1

abbrev back : Pt × Pt → Pt × Pt → Bool
back e f = same_point e.0 f.1 && same_point e.1 f.0

up_up : (e f : Pt × Pt) → is_below e.0 e.1 ≡ true → is_below f.0 f.1 ≡ true → forth e f ≡ (forth e f || back e f)
up_up e f h i =
    both_ways (forth e f) (forth e f || back e f) (or_left (forth e f) (back e f))
    (λ k. by_way (or_cases (forth e f) (back e f) k))
  where
    renumbered : (e.0 ≡ f.1) × (e.1 ≡ f.0) → forth e f ≡ true
    renumbered w =
        let P : Pt → Type 0 = λ p. is_below f.0 p ≡ true in
        let Q : Pt → Type 0 = λ p. is_below p e.0 ≡ true in
        let same : e.0 ≡ e.1 = both_below e.0 e.1 h (subst Q (sym w.1) (subst P (sym w.0) i)) in
        same_pairs-from e.0 f.0 e.1 f.1 (same ∙ w.1) (sym same ∙ w.0)

    by_way : (forth e f ≡ true) ⊎ (back e f ≡ true) → forth e f ≡ true
    by_way (inl k) = k
    by_way (inr k) = renumbered (pairs_from_same e.0 f.1 e.1 f.0 k)

apart_ways : (e f : Pt × Pt) → is_below e.0 e.1 ≡ true → is_below f.0 f.1 ≡ false → forth e f ≡ true → ⊥
apart_ways e f h i k =
    let w = pairs_from_same e.0 f.0 e.1 f.1 k in
    let P : Pt → Type 0 = λ p. is_below p e.1 ≡ true in
    let Q : Pt → Type 0 = λ p. is_below f.0 p ≡ true in
    false≢true (sym i ∙ subst Q w.1 (subst P w.0 h))

up_down : (e f : Pt × Pt) → is_below e.0 e.1 ≡ true → is_below f.0 f.1 ≡ false → back e f ≡ (forth e f || back e f)
up_down e f h i =
    both_ways (back e f) (forth e f || back e f) (or_right (forth e f) (back e f))
    (λ k. by_way (or_cases (forth e f) (back e f) k))
  where
    by_way : (forth e f ≡ true) ⊎ (back e f ≡ true) → back e f ≡ true
    by_way (inl k) = absurd (apart_ways e f h i k)
    by_way (inr k) = k

swapped : (a b c d : Pt) → (same_point a b && same_point c d) ≡ true → (same_point c d && same_point a b) ≡ true
swapped a b c d k = let w = pairs_from_same a b c d k in same_pairs-from c d a b w.1 w.0

down_up : (e f : Pt × Pt) → is_below e.0 e.1 ≡ false → is_below f.0 f.1 ≡ true →
    (same_point e.1 f.0 && same_point e.0 f.1) ≡ (forth e f || back e f)
down_up e f h i = both_ways (same_point e.1 f.0 && same_point e.0 f.1) (forth e f || back e f)
    (λ k. or_right (forth e f) (back e f) (swapped e.1 f.0 e.0 f.1 k)) (λ k. by_way (or_cases (forth e f) (back e f) k))
  where
    by_way : (forth e f ≡ true) ⊎ (back e f ≡ true) → (same_point e.1 f.0 && same_point e.0 f.1) ≡ true
    by_way (inl k) =
        let w = pairs_from_same e.0 f.0 e.1 f.1 k in
        absurd (apart_ways f e i h (same_pairs-from f.0 e.0 f.1 e.1 (sym w.0) (sym w.1)))
    by_way (inr k) = swapped e.0 f.1 e.1 f.0 k

down_down : (e f : Pt × Pt) → is_below e.0 e.1 ≡ false → is_below f.0 f.1 ≡ false →
    (same_point e.1 f.1 && same_point e.0 f.0) ≡ (forth e f || back e f)
down_down e f h i = both_ways (same_point e.1 f.1 && same_point e.0 f.0) (forth e f || back e f)
    (λ k. or_left (forth e f) (back e f) (swapped e.1 f.1 e.0 f.0 k)) (λ k. by_way (or_cases (forth e f) (back e f) k))
  where
    by_way : (forth e f ≡ true) ⊎ (back e f ≡ true) → (same_point e.1 f.1 && same_point e.0 f.0) ≡ true
    by_way (inl k) = swapped e.0 f.0 e.1 f.1 k
    by_way (inr k) =
        let w = pairs_from_same e.0 f.1 e.1 f.0 k in
        let P : Pt → Type 0 = λ p. is_below p f.1 ≡ false in
        let Q : Pt → Type 0 = λ p. is_below e.1 p ≡ false in
        absurd (one_below e.0 e.1 h (subst Q (sym w.0) (subst P (sym w.1) i)))

-- the edge between two points, where it is known which comes first
abbrev edge_by : Bool → Pt × Pt → Edge
edge_by b e = if b then record { u = e.0; v = e.1 } else record { u = e.1; v = e.0 }

abbrev one_edge : Edge → Edge → Bool
one_edge e f = same_point e.u f.u && same_point e.v f.v

edge_by-same : (e f : Pt × Pt) (b c : Bool) → is_below e.0 e.1 ≡ b → is_below f.0 f.1 ≡ c →
    one_edge (edge_by b e) (edge_by c f) ≡ (forth e f || back e f)
edge_by-same e f true true h i = up_up e f h i
edge_by-same e f true false h i = up_down e f h i
edge_by-same e f false true h i = down_up e f h i
edge_by-same e f false false h i = down_down e f h i

-- edges between points are one where the points are, in either direction
pub edge_of-same : (e f : Pt × Pt) (r s : ℕ) → on_one_edge (use_of r e) (use_of s f) ≡ same_edge e f
unfolding edge_of on_one_edge same_edge
edge_of-same e f r s = edge_by-same e f (is_below e.0 e.1) (is_below f.0 f.1) refl refl

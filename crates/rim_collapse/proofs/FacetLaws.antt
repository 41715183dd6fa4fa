-- The triangles round the point that may move: what their listing, cost and legality are in terms of the whole list.
use Rattle.std.proofs.Common.{◌≡◌, inl, inr, ◌*◌, ◌^◌, ◌≤◌, Bool, true, false, not, ◌&&◌, ◌||◌, ℤ}
use Rattle.std.proofs.Common.{pos, unsigned_abs, to_z, of_z}
use Rattle.std.proofs.Common.{refl, sym, subst, arith}
use Rattle.std.specs.Int.{w128}
use Rattle.std.specs.Prelude.{int_le}
use Rattle.std.proofs.lemmas.Bool.{and_parts, and_from}
use Rattle.std.proofs.lemmas.Int.{ints}
use Rattle.geom_core.specs.declared.points.Pt.{Pt}
use Rattle.geom_core.specs.declared.triangles.Tri.{Tri}
use Rattle.geom_core.specs.Collapses.{replaced_point, replaced}
use Rattle.geom_core.specs.Corners.{has_corner}
use Rattle.geom_core.specs.Limits.{IsGridPoint, is_grid_point, HasGridCorners, has_grid_corners, has_distinct_corners}
use Rattle.geom_core.specs.Limits.{IsGridTriangle}
use Rattle.geom_core.proofs.CollapseLaws.{one_or_two, replaced_point-at, replaced_point-off}
use Rattle.rim_collapse.specs.declared.vectors.Vector.{Vector}
use Rattle.rim_collapse.specs.Legal.{keeps_facing}
use Rattle.rim_collapse.specs.Normals.{dot, normal}

-- ---- triangles of a mesh

IsGridPoint-replaced : (a b p : Pt) → IsGridPoint b → IsGridPoint p → IsGridPoint (replaced_point a b p)
IsGridPoint-replaced a b p of_target of_point =
    elim (one_or_two p a) [
      | inl at ↦ subst IsGridPoint (sym (replaced_point-at a b p at)) of_target
      | inr off ↦ subst IsGridPoint (sym (replaced_point-off a b p off)) of_point
    ]

pub HasGridCorners-replaced : (a b : Pt) (t : Tri) → IsGridPoint b → IsGridTriangle t → HasGridCorners (replaced a b t)
unfolding replaced
HasGridCorners-replaced a b t of_target grid =
    let corners = and_parts (has_grid_corners t) (has_distinct_corners t) grid in
    let front = and_parts (is_grid_point t.a && is_grid_point t.b) (is_grid_point t.c) corners.0 in
    let first = and_parts (is_grid_point t.a) (is_grid_point t.b) front.0 in
    and_from _ _ (and_from _ _ (IsGridPoint-replaced a b t.a of_target first.0)
    (IsGridPoint-replaced a b t.b of_target first.1)) (IsGridPoint-replaced a b t.c of_target front.1)

pub HasGridCorners-grid : (t : Tri) → IsGridTriangle t → HasGridCorners t
HasGridCorners-grid t grid = (and_parts (has_grid_corners t) (has_distinct_corners t) grid).0

-- ---- legality

-- a triangle that is left out doesn't turn over
pub keeps_facing-left_out : (a b : Pt) (t : Tri) → has_distinct_corners (replaced a b t) ≡ false →
    keeps_facing a b t ≡ true
unfolding keeps_facing
keeps_facing-left_out a b t flat = rw flat (by (not (has_corner a t)) _)
  where
    by : (x y : Bool) → x || true || y ≡ true
    by true y = refl
    by false y = refl

pub keeps_facing-left : (a b : Pt) (t : Tri) → has_corner a t ≡ true → has_distinct_corners (replaced a b t) ≡ true →
    keeps_facing a b t ≡ int_le (pos 0) (dot (normal (replaced a b t)) (normal t))
unfolding keeps_facing
keeps_facing-left a b t corner distinct = rw (corner, distinct)

pub same_dot : (u v w x : Vector) → u ≡ w → v ≡ x → dot u v ≡ dot w x
same_dot u v w x e f = rw (e, f)

pub back-wide : (z : ℤ) → unsigned_abs z ≤ 3 * (2 ^ 43 * 2 ^ 43) → to_z w128 (of_z w128 z) ≡ z
back-wide z size = omega (arith, ints)

-- Collapses: which corners are left, and that triangles of a mesh stay triangles of a mesh.
use Rattle.std.proofs.Common.{◌≡◌, ◌≢◌, ◌⊎◌, inl, inr, true, ◌&&◌, ◌||◌, List, map, All, Contains}
use Rattle.std.proofs.Common.{refl, sym, subst}
use Rattle.std.proofs.lemmas.Bool.{and_parts, and_from, or_cases, or_left, or_right}
use Rattle.std.proofs.lemmas.List.Elements.{All-weaker, All-map, All-filter, All-contains_itself, filter_passes}
use Rattle.geom_core.specs.declared.points.Pt.{Pt}
use Rattle.geom_core.specs.declared.triangles.Tri.{Tri}
use Rattle.geom_core.specs.EdgeSum.{same_point}
use Rattle.geom_core.specs.Limits.{IsGridPoint, HasGridCorners, has_distinct_corners, IsGridTriangle}
use Rattle.geom_core.specs.Limits.{is_grid_point, has_grid_corners}
use Rattle.geom_core.specs.Corners.{has_corner, IsCornerIn}
use Rattle.geom_core.specs.Collapses.{replaced_point, replaced, collapsed}
use Rattle.geom_core.proofs.PointLaws.{same_point-from, same_point-itself}
use Rattle.geom_core.proofs.CollapseLaws.{one_or_two, replaced_point-at, replaced_point-off}

-- ---- the corners of a triangle

pub has_corner-a : (t : Tri) → has_corner t.a t ≡ true
unfolding has_corner
has_corner-a t = or_left _ _ (or_left _ _ (same_point-itself t.a))

pub has_corner-b : (t : Tri) → has_corner t.b t ≡ true
unfolding has_corner
has_corner-b t = or_left _ _ (or_right _ _ (same_point-itself t.b))

pub has_corner-c : (t : Tri) → has_corner t.c t ≡ true
unfolding has_corner
has_corner-c t = or_right _ _ (same_point-itself t.c)

-- what holds of the three holds of each corner
pub at_corner : (P : Pt → Type 0) (p : Pt) (t : Tri) → P t.a → P t.b → P t.c → has_corner p t ≡ true → P p
unfolding has_corner
at_corner P p t at_a at_b at_c has =
    elim (or_cases (same_point t.a p || same_point t.b p) (same_point t.c p) has) [
      | inl front ↦
          elim (or_cases (same_point t.a p) (same_point t.b p) front) [
            | inl first ↦ subst P (same_point-from t.a p first) at_a
            | inr second ↦ subst P (same_point-from t.b p second) at_b
          ]
      | inr third ↦ subst P (same_point-from t.c p third) at_c
    ]

-- what holds of b, and of the point unless it is a, holds of what replaces the point
replaced_point-holds : (P : Pt → Type 0) (a b p : Pt) → P b → (p ≢ a → P p) → P (replaced_point a b p)
replaced_point-holds P a b p of_target of_point =
    elim (one_or_two p a) [
      | inl at ↦ subst P (sym (replaced_point-at a b p at)) of_target
      | inr off ↦ subst P (sym (replaced_point-off a b p off)) (of_point off)
    ]

-- a corner after replacing is b, or another corner than a
replaced-corner : (P : Pt → Type 0) (a b p : Pt) (t : Tri) → P b →
    ((q : Pt) → has_corner q t ≡ true → q ≢ a → P q) → has_corner p (replaced a b t) ≡ true → P p
unfolding replaced
replaced-corner P a b p t of_target of_others has =
    at_corner P p (replaced a b t) (each t.a (has_corner-a t)) (each t.b (has_corner-b t)) (each t.c (has_corner-c t))
    has
  where
    each : (q : Pt) → has_corner q t ≡ true → P (replaced_point a b q)
    each q corner = replaced_point-holds P a b q of_target (of_others q corner)

-- ---- the corners of a list

-- what holds of each triangle after replacing holds of each that is left
collapsed-all : (P : Tri → Type 0) (a b : Pt) (tris : List Tri) → All (λ t. P (replaced a b t)) tris →
    All P (collapsed a b tris)
unfolding collapsed
collapsed-all P a b tris all =
    All-filter has_distinct_corners P (map (replaced a b) tris) (All-map P (replaced a b) tris all)

-- what follows from the corner at each triangle that has it
pub from_corner : (P : Type 0) (p : Pt) (tris : List Tri) → All (λ t. has_corner p t ≡ true → P) tris →
    IsCornerIn tris p → P
from_corner P p tris all corner =
    subst (λ t. has_corner p t ≡ true → P) corner.3 (all corner.0 corner.1 corner.2) corner.4

pub collapsed-corners : (a b p : Pt) (tris : List Tri) → IsCornerIn (collapsed a b tris) p →
    (p ≡ b) ⊎ IsCornerIn tris p
collapsed-corners a b p tris =
    from_corner ((p ≡ b) ⊎ IsCornerIn tris p) p (collapsed a b tris)
    (collapsed-all (λ t. has_corner p t ≡ true → (p ≡ b) ⊎ IsCornerIn tris p) a b tris
    (All-weaker (Contains tris) (λ t. has_corner p (replaced a b t) ≡ true → (p ≡ b) ⊎ IsCornerIn tris p) one tris
    (All-contains_itself tris)))
  where
    one : (t : Tri) → Contains tris t → has_corner p (replaced a b t) ≡ true → (p ≡ b) ⊎ IsCornerIn tris p
    one t is_in = replaced-corner (λ q. (q ≡ b) ⊎ IsCornerIn tris q) a b p t (inl refl)
        (λ q has off. inr (is_in.0, t, is_in.1, is_in.2, has))

-- the point that was replaced is no corner any more
pub collapsed-gone : (a b : Pt) (tris : List Tri) → a ≢ b → IsCornerIn (collapsed a b tris) a → ⊥
collapsed-gone a b tris apart =
    from_corner ⊥ a (collapsed a b tris)
    (collapsed-all (λ t. has_corner a t ≡ true → ⊥) a b tris (λ k d in_list. one _))
  where
    one : (t : Tri) → has_corner a (replaced a b t) ≡ true → ⊥
    one t has =
        replaced-corner (λ q. q ≢ a) a b a t (λ e. apart (sym e)) (λ q corner off. off) has refl

-- ---- triangles of a mesh

-- a corner of a triangle of a mesh is a point of one
pub IsGridTriangle-corner : (t : Tri) (p : Pt) → IsGridTriangle t → has_corner p t ≡ true → IsGridPoint p
IsGridTriangle-corner t p grid =
    let corners = and_parts (has_grid_corners t) (has_distinct_corners t) grid in
    let front = and_parts (is_grid_point t.a && is_grid_point t.b) (is_grid_point t.c) corners.0 in
    let first = and_parts (is_grid_point t.a) (is_grid_point t.b) front.0 in
    at_corner IsGridPoint p t first.0 first.1 front.1

pub IsGridPoint-corner : (p : Pt) (tris : List Tri) → IsCornerIn tris p → All IsGridTriangle tris → IsGridPoint p
IsGridPoint-corner p tris corner all =
    from_corner (IsGridPoint p) p tris
    (All-weaker IsGridTriangle (λ t. has_corner p t ≡ true → IsGridPoint p) (λ t. IsGridTriangle-corner t p) tris all)
    corner

HasGridCorners-replaced : (a b : Pt) (t : Tri) → IsGridPoint b → IsGridTriangle t → HasGridCorners (replaced a b t)
unfolding replaced
HasGridCorners-replaced a b t of_target grid =
    and_from _ _ (and_from _ _ (each t.a (has_corner-a t)) (each t.b (has_corner-b t))) (each t.c (has_corner-c t))
  where
    each : (p : Pt) → has_corner p t ≡ true → IsGridPoint (replaced_point a b p)
    each p corner = replaced_point-holds IsGridPoint a b p of_target (λ off. IsGridTriangle-corner t p grid corner)

pub IsGridTriangle-collapsed : (a b : Pt) (tris : List Tri) → IsGridPoint b → All IsGridTriangle tris →
    All IsGridTriangle (collapsed a b tris)
unfolding collapsed
IsGridTriangle-collapsed a b tris of_target all = λ k d in_list.
    and_from _ _ (grid_corners k d in_list) (filter_passes has_distinct_corners (map (replaced a b) tris) k d in_list)
  where
    grid_corners : All HasGridCorners (collapsed a b tris)
    grid_corners =
        collapsed-all HasGridCorners a b tris
        (All-weaker IsGridTriangle (λ t. HasGridCorners (replaced a b t))
        (λ t. HasGridCorners-replaced a b t of_target) tris all)

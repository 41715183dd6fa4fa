-- The corners of triangles of a mesh, and the low corner of the box round them.
use Rattle.std.proofs.Common.{IfSome, ◌≡◌, true, false, Bool, ◌&&◌, cond, ℤ, int_lt, List, [], ◌∷◌, flat_map, fold, All}
use Rattle.std.proofs.Common.{refl}
use Rattle.std.specs.Int.{int_max, int_min}
use Rattle.std.proofs.lemmas.Bool.{and_parts, and_from}
use Rattle.std.proofs.lemmas.List.Elements.{All-append, All-cons, All-head, All-nil, All-tail, All-weaker}
use Rattle.geom_core.specs.declared.boxes.Cube.{Cube}
use Rattle.geom_core.specs.declared.points.Pt.{Pt}
use Rattle.geom_core.specs.declared.triangles.Tri.{Tri}
use Rattle.geom_core.specs.Boxes.{high_of, hull_of, join_of, low_of, point_box}
use Rattle.geom_core.specs.Limits.{HasGridCorners, IsGridPoint, IsGridTriangle, has_distinct_corners, has_grid_corners}
use Rattle.geom_core.specs.Limits.{is_grid_coordinate, is_grid_point}
use Rattle.half_mesh.specs.declared.edges.Edge.{Edge}
use Rattle.half_mesh.specs.Rim.{EdgeSums, IsRimOf, ends_of}
use Rattle.half_mesh.proofs.RimLaws.{law-ends_are_grid_points}
use Rattle.partition.specs.Groups.{IsGridEdge}
use Rattle.dag_build.specs.Grouping.{corners_of, low_corner_of, low_or_origin}

either : (b : Bool) (m n : ℤ) → is_grid_coordinate m ≡ true → is_grid_coordinate n ≡ true →
    is_grid_coordinate (cond b m n) ≡ true
either true m n h k = h
either false m n h k = k

-- the three coordinates of a point of a mesh
pub record HasParts (p : Pt) : Type 0 where
  pub x : is_grid_coordinate p.x ≡ true
  pub y : is_grid_coordinate p.y ≡ true
  pub z : is_grid_coordinate p.z ≡ true

pub parts_of : (p : Pt) → IsGridPoint p → HasParts p
parts_of p h =
    let outer = and_parts (is_grid_coordinate p.x && is_grid_coordinate p.y) (is_grid_coordinate p.z) h in
    let inner = and_parts (is_grid_coordinate p.x) (is_grid_coordinate p.y) outer.0 in
    record { x = inner.0; y = inner.1; z = outer.1 }

from_three : (x y z : ℤ) → is_grid_coordinate x ≡ true → is_grid_coordinate y ≡ true → is_grid_coordinate z ≡ true →
    (is_grid_coordinate x && is_grid_coordinate y && is_grid_coordinate z) ≡ true
from_three x y z h k l =
    and_from (is_grid_coordinate x && is_grid_coordinate y) (is_grid_coordinate z)
    (and_from (is_grid_coordinate x) (is_grid_coordinate y) h k) l

low-grid : (p q : Pt) → IsGridPoint p → IsGridPoint q → IsGridPoint (low_of p q)
unfolding low_of
low-grid p q h k =
    let a = parts_of p h in
    let b = parts_of q k in
    from_three (int_min p.x q.x) (int_min p.y q.y) (int_min p.z q.z) (either (int_lt q.x p.x) q.x p.x b.x a.x)
    (either (int_lt q.y p.y) q.y p.y b.y a.y) (either (int_lt q.z p.z) q.z p.z b.z a.z)

high-grid : (p q : Pt) → IsGridPoint p → IsGridPoint q → IsGridPoint (high_of p q)
unfolding high_of
high-grid p q h k =
    let a = parts_of p h in
    let b = parts_of q k in
    from_three (int_max p.x q.x) (int_max p.y q.y) (int_max p.z q.z) (either (int_lt q.x p.x) p.x q.x a.x b.x)
    (either (int_lt q.y p.y) p.y q.y a.y b.y) (either (int_lt q.z p.z) p.z q.z a.z b.z)

-- both corners of the box are points of a mesh
pub record HasGridEnds (box : Cube) : Type 0 where
  pub lo : IsGridPoint box.lo
  pub hi : IsGridPoint box.hi

joined-ends : (box : Cube) (p : Pt) → HasGridEnds box → IsGridPoint p → HasGridEnds (join_of box (point_box p))
unfolding join_of
joined-ends box p ends h = record { lo = low-grid box.lo p ends.lo h; hi = high-grid box.hi p ends.hi h }

widened-ends : (points : List Pt) (box : Cube) → HasGridEnds box → All IsGridPoint points →
    HasGridEnds (fold (λ b q. join_of b (point_box q)) box points)
widened-ends [] box ends all = ends
widened-ends (p ∷ points) box ends all =
    widened-ends points (join_of box (point_box p)) (joined-ends box p ends (All-head IsGridPoint p points all))
    (All-tail IsGridPoint p points all)

pub hull-ends : (points : List Pt) → All IsGridPoint points → IfSome (hull_of points) HasGridEnds
hull-ends [] all = tt
hull-ends (p ∷ points) all =
    widened-ends points (point_box p)
    (record { lo = All-head IsGridPoint p points all; hi = All-head IsGridPoint p points all })
    (All-tail IsGridPoint p points all)

hull-grid : (points : List Pt) → All IsGridPoint points → IsGridPoint (low_or_origin (hull_of points))
hull-grid [] all = refl
hull-grid (p ∷ points) all = (hull-ends (p ∷ points) all).lo

pub grid_corners : (t : Tri) → IsGridTriangle t → HasGridCorners t
grid_corners t h = (and_parts (has_grid_corners t) (has_distinct_corners t) h).0

pub corners-grid : (tris : List Tri) → All IsGridTriangle tris → All IsGridPoint (flat_map corners_of tris)
corners-grid [] all = All-nil IsGridPoint
corners-grid (t ∷ tris) all =
    let here = grid_corners t (All-head IsGridTriangle t tris all) in
    let outer = and_parts (is_grid_point t.a && is_grid_point t.b) (is_grid_point t.c) here in
    let inner = and_parts (is_grid_point t.a) (is_grid_point t.b) outer.0 in
    All-append IsGridPoint (corners_of t) (flat_map corners_of tris)
    (All-cons IsGridPoint t.a (t.b ∷ t.c ∷ []) inner.0
    (All-cons IsGridPoint t.b (t.c ∷ []) inner.1 (All-cons IsGridPoint t.c [] outer.1 (All-nil IsGridPoint))))
    (corners-grid tris (All-tail IsGridTriangle t tris all))

-- the low corner of triangles of a mesh is a point of one
pub low_corner-grid : (tris : List Tri) → All IsGridTriangle tris → IsGridPoint (low_corner_of tris)
low_corner-grid tris all = hull-grid (flat_map corners_of tris) (corners-grid tris all)

edges-grid : (edges : List Edge) → All IsGridPoint (ends_of edges) → All IsGridEdge edges
edges-grid [] all = All-nil IsGridEdge
edges-grid (e ∷ edges) all =
    let rest = All-tail IsGridPoint e.u (e.v ∷ ends_of edges) all in
    All-cons IsGridEdge e edges
    (record {
      u = All-head IsGridPoint e.u (e.v ∷ ends_of edges) all;
      v = All-head IsGridPoint e.v (ends_of edges)
          rest;
    })
    (edges-grid edges (All-tail IsGridPoint e.v (ends_of edges) rest))

-- the edges of the rim of triangles of a mesh are edges of one
pub rim-grid : (tris : List Tri) (rim : EdgeSums) → IsRimOf tris rim.edges rim.sums → All IsGridTriangle tris →
    All IsGridEdge rim.edges
rim-grid tris rim is all =
    edges-grid rim.edges
    (law-ends_are_grid_points tris rim is (All-weaker IsGridTriangle HasGridCorners grid_corners tris all))

-- The error and the box of a group bound those of the makers of its members.
use Rattle.std.proofs.Common.{◌≡◌, ◌∙◌, ◌≤◌, ◌+◌, cond, ℕ, Bool, true, false, ◌&&◌, List, [], ◌∷◌, ◌++◌, flat_map}
use Rattle.std.proofs.Common.{get_or, All, IfSome, Option, None, Some, refl, subst, arith}
use Rattle.std.proofs.lemmas.Bool.{and_from, and_parts}
use Rattle.std.proofs.lemmas.List.Elements.{All-append, All-cons, All-head, All-map, All-nil, All-tail, All-weaker}
use Rattle.geom_core.specs.declared.boxes.Cube.{Cube}
use Rattle.geom_core.specs.declared.points.Pt.{Pt}
use Rattle.geom_core.specs.declared.triangles.Tri.{Tri}
use Rattle.geom_core.specs.declared.triangles.Tagged.{Tagged}
use Rattle.geom_core.specs.Boxes.{holds_box, holds_point, hull_of, is_under}
use Rattle.geom_core.specs.Limits.{IsGridPoint, IsGridTriangle, is_grid_point}
use Rattle.geom_core.specs.TaggedLists.{tris_of}
use Rattle.geom_core.proofs.BoxLaws.{hull_of-corners, hull_of-each}
use Rattle.rim_collapse.specs.Moved.{moved_of}
use Rattle.dag_core.specs.Ranges.{is_group_box}
use Rattle.dag_build.specs.declared.level_clusters.LevelCluster.{LevelCluster}
use Rattle.dag_build.specs.declared.level_clusters.Maker.{Maker}
use Rattle.dag_build.specs.Grouping.{corners_of}
use Rattle.dag_build.specs.Levels.{LevelGroup}
use Rattle.dag_build.specs.Outcomes.{IsOutcome, box_points, greatest_error, maker_error, points_of}
use Rattle.dag_build.proofs.BoxLaws.{HasGridEnds, corners-grid, hull-ends}
use Rattle.dag_build.proofs.ElementLaws.{All-joined, All-parts, All-second}
use Rattle.dag_build.proofs.GoodClusters.{IsNear, IsGoodMaker, IsGood, IsBound}

-- ---- boxes

-- what holds of the hull holds of this box
hull-is : (P : Cube → Type 0) (points : List Pt) (box : Cube) → hull_of points ≡ Some box →
    IfSome (hull_of points) P → P box
hull-is P points box is holds = subst (λ found. IfSome found P) is holds

-- the box of such points is one of a group
pub hull-box : (points : List Pt) (box : Cube) → hull_of points ≡ Some box → All IsGridPoint points →
    is_group_box box ≡ true
hull-box points box is all =
    let ends = hull-is HasGridEnds points box is (hull-ends points all) in
    let corners = hull-is (λ b. is_under b.lo b.hi ≡ true) points box is (hull_of-corners points) in
    and_from (is_grid_point box.lo && is_grid_point box.hi) (is_under box.lo box.hi)
    (and_from (is_grid_point box.lo) (is_grid_point box.hi) ends.lo ends.hi) corners

box_points-grid : (maker : Option Maker) → IsGoodMaker maker → All IsGridPoint (box_points maker)
box_points-grid None good = All-nil IsGridPoint
box_points-grid (Some maker) good =
    let box = maker.cube in
    let outer = and_parts (is_grid_point box.lo && is_grid_point box.hi) (is_under box.lo box.hi) good in
    let ends = and_parts (is_grid_point box.lo) (is_grid_point box.hi) outer.0 in
    All-cons IsGridPoint box.lo (box.hi ∷ []) ends.0 (All-cons IsGridPoint box.hi [] ends.1 (All-nil IsGridPoint))

-- the points that the member gives to its group's box
abbrev points_of_member : LevelCluster → List Pt
points_of_member cluster = flat_map corners_of (tris_of cluster.tris) ++ box_points cluster.maker

pub grid_tris : (tris : List Tri) (error : ℕ) (list : List Tagged) → All (IsNear tris error) list →
    All IsGridTriangle (tris_of list)
grid_tris tris error list all =
    let plain : Tagged → Tri = λ t. t.tri in
    All-map IsGridTriangle plain list
    (All-weaker (IsNear tris error) (λ t. IsGridTriangle t.tri) (λ t near. near.grid) list all)

member_points-grid : (tris : List Tri) (cluster : LevelCluster) → IsGood tris cluster →
    All IsGridPoint (points_of_member cluster)
member_points-grid tris cluster good =
    All-append IsGridPoint (flat_map corners_of (tris_of cluster.tris)) (box_points cluster.maker)
    (corners-grid (tris_of cluster.tris) (grid_tris tris (maker_error cluster.maker) cluster.tris good.near))
    (box_points-grid cluster.maker good.maker)

pub points-grid : (tris : List Tri) (members : List LevelCluster) → All (IsGood tris) members →
    All IsGridPoint (points_of members)
points-grid tris members all =
    All-joined IsGridPoint points_of_member members
    (All-weaker (IsGood tris) (λ cluster. All IsGridPoint (points_of_member cluster))
    (member_points-grid tris) members all)

-- ---- bounds

pub greatest : (members : List LevelCluster) → All (λ member. maker_error member.maker ≤ greatest_error members) members
greatest [] = All-nil (λ member. maker_error member.maker ≤ 0)
greatest (member ∷ members) =
    let most = greatest_error (member ∷ members) in
    All-cons (λ one. maker_error one.maker ≤ most) member members (omega arith)
    (All-weaker (λ one. maker_error one.maker ≤ greatest_error members) (λ one. maker_error one.maker ≤ most)
    (λ one below. omega (arith, below)) members (greatest members))

abbrev HoldsPoint : Cube → Pt → Type 0
HoldsPoint box p = holds_point box p ≡ true

held_box : (outer inner : Cube) → holds_point outer inner.lo ≡ true → holds_point outer inner.hi ≡ true →
    holds_box outer inner ≡ true
unfolding holds_point holds_box
held_box outer inner lo hi =
    and_from (is_under outer.lo inner.lo) (is_under inner.hi outer.hi)
    (and_parts (is_under outer.lo inner.lo) (is_under inner.lo outer.hi) lo).0
    (and_parts (is_under outer.lo inner.hi) (is_under inner.hi outer.hi) hi).1

bound_of : (group : LevelGroup) (cluster : LevelCluster) (maker : Option Maker) →
    (group.terminal ≡ false → maker_error maker ≤ group.error) → All (HoldsPoint group.cube) (box_points maker) →
    IsBound group maker
bound_of group cluster None error held = tt
bound_of group cluster (Some maker) error held =
    let P = HoldsPoint group.cube in
    let box = maker.cube in
    record {
      error = error;
      cube = held_box group.cube box (All-head P box.lo (box.hi ∷ []) held)
          (All-head P box.hi [] (All-tail P box.lo (box.hi ∷ []) held));
    }

abbrev error_by : Bool → ℕ → ℕ
error_by terminal error = cond terminal 0 error

pub full_error : (b : Bool) (n : ℕ) → b ≡ false → cond b 0 n ≡ n
full_error b n off = rw off refl

pub bounds_of : (size level_clusters : ℕ) (group : LevelGroup) → IsOutcome size level_clusters group →
    All (λ member. IsBound group member.maker) group.members
bounds_of size level_clusters group is =
    let members = group.members in
    let held = All-parts (HoldsPoint group.cube) points_of_member members
    (hull-is (λ box. All (HoldsPoint box) (points_of members)) (points_of members) group.cube is.cube (hull_of-each
    (points_of members))) in
    let most = greatest members in
    λ k d within.
    let member = get_or members k d in
    let below : maker_error member.maker ≤ greatest_error members = most k d within in
    let points : All (HoldsPoint group.cube) (points_of_member member) = held k d within in
    bound_of group member member.maker
    (λ off. let same = is.error ∙ full_error group.terminal (moved_of is.kept + greatest_error members) off in omega
    (arith, same, below))
    (All-second (HoldsPoint group.cube) (flat_map corners_of (tris_of member.tris)) (box_points member.maker) points)

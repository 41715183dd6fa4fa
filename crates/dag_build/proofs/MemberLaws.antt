-- Lists of members that grow at their end.
use Rattle.std.proofs.Common.{rules, ◌≡◌, ◌<◌, ◌≤◌, ◌+◌, ℕ, max, List, [], ◌∷◌, ◌++◌, map, flat_map, take, length}
use Rattle.std.proofs.Common.{get_or, All, IsSome, refl, sym, ap, ◌∙◌, subst, arith}
use Rattle.std.proofs.lemmas.List.{append-nil, length-append, map-append, take_more}
use Rattle.std.proofs.lemmas.List.Concat.{flat_map-append}
use Rattle.std.proofs.lemmas.List.Elements.{All-append}
use Rattle.geom_core.specs.declared.points.Pt.{Pt}
use Rattle.geom_core.specs.declared.triangles.Tri.{Tri}
use Rattle.geom_core.specs.declared.triangles.Tagged.{Tagged}
use Rattle.geom_core.specs.Boxes.{hull_of}
use Rattle.geom_core.specs.Limits.{IsGridTriangle}
use Rattle.geom_core.specs.TaggedLists.{tris_of}
use Rattle.half_mesh.specs.Rim.{AreRimsOf, EdgeSums, IsRimOf, all_of}
use Rattle.partition.specs.declared.shapes.ClusterShape.{ClusterShape}
use Rattle.dag_build.specs.declared.level_clusters.LevelCluster.{LevelCluster}
use Rattle.dag_build.specs.Grouping.{AreShapesOf, IsShapeOf, corners_of}
use Rattle.dag_build.specs.Levels.{tris_in}
use Rattle.dag_build.specs.Outcomes.{box_points, greatest_error, maker_error, points_of}

greatest_error-push : (clusters : List LevelCluster) (cluster : LevelCluster) →
    greatest_error (clusters ++ cluster ∷ []) ≡ max (greatest_error clusters) (maker_error cluster.maker)
greatest_error-push [] cluster = omega arith
greatest_error-push (c ∷ clusters) cluster = let rest = greatest_error-push clusters cluster in omega arith

pub greatest_error-more : (clusters : List LevelCluster) (i : ℕ) (d : LevelCluster) (m n : ℕ) → i < length clusters →
    m ≡ greatest_error (take i clusters) → n ≡ maker_error (get_or clusters i d).maker →
    max m n ≡ greatest_error (take (i + 1) clusters)
greatest_error-more clusters i d m n within so_far is =
    rw (so_far, is) (sym (ap greatest_error (take_more clusters i d within) ∙
    greatest_error-push (take i clusters) (get_or clusters i d)))

pub tris_in-more : (clusters : List LevelCluster) (i : ℕ) (d : LevelCluster) → i < length clusters →
    tris_in (take (i + 1) clusters) ≡ tris_in (take i clusters) ++ (get_or clusters i d).tris
tris_in-more clusters i d within =
    let tris : LevelCluster → List Tagged = λ cluster. cluster.tris in
    let here : LevelCluster = get_or clusters i d in
    ap tris_in (take_more clusters i d within) ∙
    (flat_map-append tris (take i clusters) (here ∷ []) ∙
    ap (λ xs. tris_in (take i clusters) ++ xs) (append-nil here.tris))

pub shapes-push : (clusters : List LevelCluster) (shapes : List ClusterShape) (cluster : LevelCluster)
    (shape : ClusterShape) →
    AreShapesOf clusters shapes → IsShapeOf (tris_of cluster.tris) shape →
    AreShapesOf (clusters ++ cluster ∷ []) (shapes ++ shape ∷ [])
unfolding AreShapesOf
shapes-push [] [] cluster shape h is = (is, tt)
shapes-push [] (s ∷ shapes) cluster shape h is = absurd h
shapes-push (c ∷ clusters) [] cluster shape h is = absurd h
shapes-push (c ∷ clusters) (s ∷ shapes) cluster shape h is = (h.0, shapes-push clusters shapes cluster shape h.1 is)

pub shapes-none : AreShapesOf [] []
unfolding AreShapesOf
shapes-none = tt

pub rims-push : (lists : List (List Tri)) (rims : List EdgeSums) (tris : List Tri) (rim : EdgeSums) →
    AreRimsOf lists rims → IsRimOf tris rim.edges rim.sums → AreRimsOf (lists ++ tris ∷ []) (rims ++ rim ∷ [])
unfolding AreRimsOf
rims-push [] [] tris rim h is = (is, tt)
rims-push [] (s ∷ rims) tris rim h is = absurd h
rims-push (c ∷ lists) [] tris rim h is = absurd h
rims-push (c ∷ lists) (s ∷ rims) tris rim h is = (h.0, rims-push lists rims tris rim h.1 is)

pub rims-none : AreRimsOf [] []
unfolding AreRimsOf
rims-none = tt

-- the triangles of each cluster
abbrev pub lists_of : List LevelCluster → List (List Tri)
lists_of clusters = map (λ cluster. tris_of cluster.tris) clusters

pub lists_of-all : (clusters : List LevelCluster) → all_of (lists_of clusters) ≡ tris_of (tris_in clusters)
lists_of-all [] = refl
lists_of-all (c ∷ clusters) =
    ap (λ xs. tris_of c.tris ++ xs) (lists_of-all clusters) ∙ sym (map-append (λ (t : Tagged). t.tri) c.tris
    (tris_in clusters))

pub range-more : (tris more : List Tagged) → All IsGridTriangle (tris_of tris) → All IsGridTriangle (tris_of more) →
    All IsGridTriangle (tris_of (tris ++ more))
range-more tris more all grid =
    rw (map-append (λ (u : Tagged). u.tri) tris more) (All-append IsGridTriangle (tris_of tris) (tris_of more) all grid)

-- there is a box round some points
pub hull-some : (points : List Pt) → 1 ≤ length points → IsSome (hull_of points)
hull-some [] h = absurd (omega arith)
hull-some (p ∷ points) h = search rules

-- clusters with a triangle have a corner
pub points-some : (clusters : List LevelCluster) → 1 ≤ length (tris_in clusters) → 1 ≤ length (points_of clusters)
points-some [] h = absurd (omega arith)
points-some (c ∷ clusters) h = at c.tris h (points-some clusters)
  where
    at : (tris : List Tagged) → 1 ≤ length (tris ++ tris_in clusters) →
        (1 ≤ length (tris_in clusters) → 1 ≤ length (points_of clusters)) →
        1 ≤ length ((flat_map corners_of (tris_of tris) ++ box_points c.maker) ++ points_of clusters)
    at [] k rest =
        let len = length-append (box_points c.maker) (points_of clusters) in
        let some = rest k in
        omega arith
    at (t ∷ tris) k rest = omega arith

-- the rim of one more cluster
pub rims-more : (clusters : List LevelCluster) (i : ℕ) (cluster : LevelCluster) (rims next : List EdgeSums)
    (rim : EdgeSums) →
    i < length clusters → cluster ≡ get_or clusters i cluster → AreRimsOf (lists_of (take i clusters)) rims →
    IsRimOf (tris_of cluster.tris) rim.edges rim.sums → next ≡ rims ++ rim ∷ [] →
    AreRimsOf (lists_of (take (i + 1) clusters)) next
rims-more clusters i cluster rims next rim within at are is grown =
    let list : LevelCluster → List Tri = λ c. tris_of c.tris in
    let all : lists_of (take (i + 1) clusters) ≡ lists_of (take i clusters) ++ list cluster ∷ [] =
    ap lists_of (take_more clusters i cluster within) ∙
    (map-append list (take i clusters) (get_or clusters i cluster ∷ []) ∙
    ap (λ c. lists_of (take i clusters) ++ list c ∷ []) (sym at)) in
    subst (λ lists. AreRimsOf lists next) (sym all)
    (subst (AreRimsOf (lists_of (take i clusters) ++ list cluster ∷ [])) (sym grown)
    (rims-push (lists_of (take i clusters)) rims (list cluster) rim are is))

-- How many levels there are, and how great their errors are.
use Rattle.std.proofs.Common.{◌≡◌, ◌<◌, ◌≤◌, ◌+◌, ◌*◌, ◌/◌, ◌&&◌, nat_le, cond, ℕ, ℤ, zero, suc, ◌-ℤ◌, unsigned_abs}
use Rattle.std.proofs.Common.{Bool, true, false, List, [], ◌∷◌, length, map, get_or, All, Some, refl, sym, subst, arith}
use Rattle.std.proofs.lemmas.Bool.{and_parts}
use Rattle.std.proofs.lemmas.Bool.Decides.{nat_tests}
use Rattle.std.proofs.lemmas.Int.{ints}
use Rattle.std.proofs.lemmas.List.Elements.{All-append, All-cons, All-filter, All-from_get_or, All-head, All-map}
use Rattle.std.proofs.lemmas.List.Elements.{All-nil, All-tail, All-weaker}
use Rattle.std.proofs.lemmas.List.Sorted.{All-permutation}
use Rattle.geom_core.specs.declared.limits.TheConstants.{CLUSTERS_PER_GROUP, MAX_COORDINATE, MAX_TRIANGLES}
use Rattle.geom_core.specs.declared.limits.TheConstants.{TRIANGLES_PER_CLUSTER}
use Rattle.geom_core.specs.declared.points.Pt.{Pt}
use Rattle.geom_core.specs.declared.triangles.Tri.{Tri}
use Rattle.geom_core.specs.declared.triangles.Tagged.{Tagged}
use Rattle.geom_core.specs.Distance.{distance}
use Rattle.geom_core.specs.Limits.{AreGridTriangles, IsGridPoint, IsGridTriangle, has_distinct_corners}
use Rattle.geom_core.specs.Limits.{is_grid_coordinate, is_grid_point}
use Rattle.geom_core.specs.Shift.{shift_of}
use Rattle.geom_core.specs.TaggedLists.{tris_of}
use Rattle.geom_core.proofs.DistanceLaws.{distance-least, max3-least}
use Rattle.rim_collapse.specs.declared.states.Kept.{Kept}
use Rattle.rim_collapse.specs.Moved.{moved_of, shift}
use Rattle.rim_collapse.specs.Simplified.{IsSimplified, Lead}
use Rattle.rim_collapse.specs.Sound.{IsSound}
use Rattle.rim_collapse.specs.States.{after, begun, moved_to, tagged_of}
use Rattle.rim_collapse.proofs.Following.{simplified-sound}
use Rattle.dag_core.specs.declared.dags.Dag.{Dag}
use Rattle.dag_core.specs.declared.groups.Group.{Group}
use Rattle.dag_core.specs.Members.{no_group}
use Rattle.dag_build.specs.declared.level_clusters.LevelCluster.{LevelCluster}
use Rattle.dag_build.specs.declared.level_clusters.Maker.{Maker}
use Rattle.dag_build.specs.Built.{AreLevels, IsBuilt, IsLevel}
use Rattle.dag_build.specs.Grouping.{full_sizes}
use Rattle.dag_build.specs.Levels.{LevelGroup, clusters_of, made_from, next_clusters, source_cluster, tris_in}
use Rattle.dag_build.specs.Numbers.{groups_in, members_in}
use Rattle.dag_build.specs.Outcomes.{IsOutcome, greatest_error, maker_error}
use Rattle.dag_build.specs.Internal.Clusters.{made_cluster}
use Rattle.dag_build.specs.Internal.DoneLevels.{IsProper}
use Rattle.dag_build.proofs.BoxLaws.{grid_corners, parts_of}
use Rattle.dag_build.proofs.BuiltDags.{built, sources-good}
use Rattle.dag_build.proofs.GroupNumbers.{group-at, group-count}
use Rattle.dag_build.proofs.ElementLaws.{All-parts}
use Rattle.dag_build.proofs.GoodLevels.{AreGoodClusters, LeadsOn, level-good}
use Rattle.dag_build.proofs.GoodClusters.{IsGood, group_of_level, no_level_group}
use Rattle.dag_build.proofs.GroupBounds.{grid_tris}
use Rattle.dag_build.proofs.MadeClusters.{members-near}
use Rattle.dag_build.proofs.NumberLaws.{nothing_left}
use Rattle.dag_build.proofs.LevelLaws.{clusters-few, level-is, members-moved}

-- ---- how far corners move in a group

-- the greatest distance of two points of a mesh
abbrev pub MOST : ℕ
MOST = 2 * MAX_COORDINATE

at_most : (m n : ℕ) → nat_le m n ≡ true → m ≤ n
at_most m n h = grind (arith, nat_tests)

apart : (m n : ℤ) (most : ℕ) → unsigned_abs m ≤ most → unsigned_abs n ≤ most → unsigned_abs (m -ℤ n) ≤ 2 * most
apart m n most h k = omega (arith, ints)

axis : (m n : ℤ) → is_grid_coordinate m ≡ true → is_grid_coordinate n ≡ true → unsigned_abs (m -ℤ n) ≤ MOST
axis m n h k = apart m n MAX_COORDINATE (at_most (unsigned_abs m) MAX_COORDINATE h) (at_most
    (unsigned_abs n) MAX_COORDINATE k)

points-apart : (p q : Pt) → IsGridPoint p → IsGridPoint q → distance p q ≤ MOST
points-apart p q h k =
    let a = parts_of p h in
    let b = parts_of q k in
    distance-least p q MOST (axis p.x q.x a.x b.x) (axis p.y q.y a.y b.y) (axis p.z q.z a.z b.z)

-- the three corners of a triangle of a mesh
record HasCorners (t : Tri) : Type 0 where
  a : IsGridPoint t.a
  b : IsGridPoint t.b
  c : IsGridPoint t.c

corners-of : (t : Tri) → IsGridTriangle t → HasCorners t
corners-of t h =
    let outer = and_parts (is_grid_point t.a && is_grid_point t.b) (is_grid_point t.c) (grid_corners t h) in
    let inner = and_parts (is_grid_point t.a) (is_grid_point t.b) outer.0 in
    record { a = inner.0; b = inner.1; c = outer.1 }

tris-apart : (t s : Tri) → IsGridTriangle t → IsGridTriangle s → shift_of t s ≤ MOST
unfolding shift_of
tris-apart t s h k =
    let p = corners-of t h in
    let q = corners-of s k in
    max3-least (distance t.a s.a) (distance t.b s.b) (distance t.c s.c) MOST (points-apart t.a s.a p.a q.a)
    (points-apart t.b s.b p.b q.b)
    (points-apart t.c s.c p.c q.c)

-- each was a triangle of a mesh
abbrev WasGrid : Kept → Type 0
WasGrid k = IsGridTriangle k.was.tri

after-was : (a b : Pt) (state : List Kept) → All WasGrid state → All WasGrid (after a b state)
unfolding after
after-was a b state all =
    All-filter (λ (k : Kept). has_distinct_corners k.tri) WasGrid (map (moved_to a b) state) (All-map WasGrid
    (moved_to a b) state all)

lead-was : (locked : List Pt) (n : ℕ) (collapses : List (Pt × Pt)) (state end : List Kept) →
    Lead locked n collapses state end →
    All WasGrid state → All WasGrid end
unfolding Lead
lead-was locked n [] state end lead all = subst (All WasGrid) lead all
lead-was locked n (collapse ∷ collapses) state end lead all =
    lead-was locked n collapses (after collapse.0 collapse.1 state) end lead.1
    (after-was collapse.0 collapse.1 state all)

begun-was : (tris : List Tagged) → All IsGridTriangle (tris_of tris) → All WasGrid (begun tris)
begun-was [] all = All-nil WasGrid
begun-was (t ∷ tris) all =
    All-cons WasGrid (record { tri = t.tri; was = t }) (begun tris) (All-head IsGridTriangle t.tri (tris_of tris) all)
    (begun-was tris (All-tail IsGridTriangle t.tri (tris_of tris) all))

moved-most : (kept : List Kept) → All WasGrid kept → All (λ k. IsGridTriangle k.tri) kept → moved_of kept ≤ MOST
moved-most [] was is = omega arith
moved-most (k ∷ kept) was is =
    let Is : Kept → Type 0 = λ one. IsGridTriangle one.tri in
    let here : shift k ≤ MOST = tris-apart k.tri k.was.tri (All-head Is k kept is) (All-head WasGrid k kept was) in
    let rest = moved-most kept (All-tail WasGrid k kept was) (All-tail Is k kept is) in
    omega arith

now-grid : (kept : List Kept) → All IsGridTriangle (tris_of (map tagged_of kept)) → All (λ k. IsGridTriangle k.tri) kept
now-grid [] all = All-nil (λ (k : Kept). IsGridTriangle k.tri)
now-grid (k ∷ kept) all =
    All-cons (λ (one : Kept). IsGridTriangle one.tri) k kept (All-head IsGridTriangle k.tri (tris_of
    (map tagged_of kept)) all)
    (now-grid kept (All-tail IsGridTriangle k.tri (tris_of (map tagged_of kept)) all))

-- a simplification moves no corner further
simplified-most : (tris : List Tagged) (locked : List Pt) (kept : List Kept) → All IsGridTriangle (tris_of tris) →
    IsSimplified tris locked kept → moved_of kept ≤ MOST
simplified-most tris locked kept grid is =
    let sound : IsSound tris (map tagged_of kept) (moved_of kept) = simplified-sound tris locked kept grid is in
    moved-most kept (lead-was locked (length tris) is.collapses (begun tris) kept is.lead (begun-was tris grid))
    (now-grid kept sound.triangles)

-- ---- errors, level by level

greatest-most : (most : ℕ) (members : List LevelCluster) → All (λ member. maker_error member.maker ≤ most) members →
    greatest_error members ≤ most
greatest-most most [] all = omega arith
greatest-most most (member ∷ members) all =
    let P : LevelCluster → Type 0 = λ one. maker_error one.maker ≤ most in
    let here = All-head P member members all in
    let rest = greatest-most most members (All-tail P member members all) in
    omega arith

member-grid : (tris : List Tri) (members : List LevelCluster) → All (IsGood tris) members →
    All IsGridTriangle (tris_of (tris_in members))
member-grid tris members all =
    let near = members-near tris members all in
    grid_tris tris (greatest_error members) (tris_in members) near

error-most : (tris : List Tri) (level_clusters most : ℕ) (group : LevelGroup) →
    IsOutcome TRIANGLES_PER_CLUSTER level_clusters group →
    All (IsGood tris) group.members → All (λ member. maker_error member.maker ≤ most) group.members →
    group.error ≤ most + MOST
error-most tris level_clusters most group is good below =
    let greatest = greatest-most most group.members below in
    let moved = simplified-most (tris_in group.members) is.locked is.kept
    (member-grid tris group.members good) is.simplified in
    let either : cond group.terminal 0 (moved_of is.kept + greatest_error group.members) ≤ moved_of is.kept +
    greatest_error group.members =
    less group.terminal (moved_of is.kept + greatest_error group.members) in
    let same = is.error in
    omega arith
  where
    less : (b : Bool) (n : ℕ) → cond b 0 n ≤ n
    less true n = omega arith
    less false n = omega arith

made-most : (place most : ℕ) (groups : List LevelGroup) → All (λ group. group.error ≤ most) groups →
    All (λ cluster. maker_error cluster.maker ≤ most) (made_from place groups)
unfolding made_from
made-most place most [] all = All-nil (λ (cluster : LevelCluster). maker_error cluster.maker ≤ most)
made-most place most (group ∷ groups) all =
    let P : LevelGroup → Type 0 = λ one. one.error ≤ most in
    let Q : LevelCluster → Type 0 = λ cluster. maker_error cluster.maker ≤ most in
    let here : group.error ≤ most = All-head P group groups all in
    let maker : Maker = record { group = place; error = group.error; cube = group.cube } in
    All-append Q (clusters_of place group) (made_from (place + 1) groups)
    (All-map Q (made_cluster (Some maker)) group.made (λ k d within. here)) (made-most (place + 1) most groups
    (All-tail P group groups all))

level-most : (tris : List Tri) (before : List LevelGroup) (clusters : List LevelCluster) (groups : List LevelGroup)
    (most : ℕ) →
    AreGoodClusters tris before clusters → IsLevel full_sizes clusters groups →
    All (λ cluster. maker_error cluster.maker ≤ most) clusters →
    All (λ group. group.error ≤ most + MOST) groups
level-most tris before clusters groups most are level below =
    let moved = members-moved CLUSTERS_PER_GROUP clusters groups level.grouped in
    let members : LevelGroup → List LevelCluster = λ group. group.members in
    let P : LevelCluster → Type 0 = λ cluster. maker_error cluster.maker ≤ most in
    let good = All-parts (IsGood tris) members groups (All-permutation (IsGood tris) clusters
    (members_in groups) moved are.good) in
    let errors = All-parts P members groups (All-permutation P clusters (members_in groups) moved below) in
    λ k d within. error-most tris (length clusters) most (get_or groups k d) (level.outcomes k d within)
    (good k d within) (errors k d within)

levels-most : (tris : List Tri) (before : List LevelGroup) (clusters : List LevelCluster) (levels : List
    (List LevelGroup)) (n : ℕ) →
    AreGoodClusters tris before clusters → AreLevels full_sizes clusters levels →
    All (λ cluster. maker_error cluster.maker ≤ n * MOST) clusters →
    All (λ group. group.error ≤ (n + length levels) * MOST) (groups_in levels)
unfolding AreLevels groups_in
levels-most tris before clusters [] n are levels below = All-nil (λ (group : LevelGroup). group.error ≤ (n + 0) * MOST)
levels-most tris before clusters (groups ∷ rest) n are levels below =
    let here = level-most tris before clusters groups (n * MOST) are levels.1.0 below in
    let on : LeadsOn tris before groups = level-good tris before clusters groups are levels.1.0 in
    let next : All (λ group. group.error ≤ (n + 1) * MOST) groups =
    All-weaker (λ (group : LevelGroup). group.error ≤ n * MOST + MOST) (λ group. group.error ≤ (n + 1) * MOST)
    (λ group h. omega (arith, h)) groups here in
    let later = levels-most tris groups (next_clusters groups) rest (n + 1) on.next levels.1.1 (made-most 0
    ((n + 1) * MOST) groups next) in
    let all : ℕ = (n + length (groups ∷ rest)) * MOST in
    let Q : LevelGroup → Type 0 = λ group. group.error ≤ all in
    All-append Q (groups_in rest) groups
    (All-weaker (λ (group : LevelGroup). group.error ≤ (n + 1 + length rest) * MOST) Q (λ group h. omega (arith, h))
    (groups_in rest) later)
    (All-weaker (λ (group : LevelGroup). group.error ≤ n * MOST + MOST) Q (λ group h. omega (arith, h)) groups here)

-- ---- the number of levels

-- what is left of a number of which seven eighths are taken again and again
abbrev left_after : ℕ → ℕ → ℕ
left_after zero n = n
left_after (suc steps) n = left_after steps (7 * n / 8)

left-rises : (steps m n : ℕ) → m ≤ n → left_after steps m ≤ left_after steps n
left-rises zero m n h = h
left-rises (suc steps) m n h = left-rises steps (7 * m / 8) (7 * n / 8) (omega arith)

levels-end : (tris : List Tri) (before : List LevelGroup) (clusters : List LevelCluster) (levels : List
    (List LevelGroup)) (steps : ℕ) →
    AreGoodClusters tris before clusters → AreLevels full_sizes clusters levels →
    left_after steps (length (tris_in clusters)) ≡ 0 →
    length levels ≤ steps
unfolding AreLevels
levels-end tris before clusters [] steps are levels none = omega arith
levels-end tris before clusters (groups ∷ rest) zero are levels none =
    let proper = All-weaker (IsGood tris) IsProper (λ cluster h. h.proper) clusters are.good in
    let few = clusters-few clusters proper in
    absurd (levels.0 (nothing_left clusters (omega (arith, none))))
levels-end tris before clusters (groups ∷ rest) (suc steps) are levels none =
    let proper = All-weaker (IsGood tris) IsProper (λ cluster h. h.proper) clusters are.good in
    let level = level-is clusters groups proper are.limit levels.1.0 in
    let on : LeadsOn tris before groups = level-good tris before clusters groups are levels.1.0 in
    let size : length (tris_in (next_clusters groups)) ≤ 7 * length (tris_in clusters) / 8 = omega
    (arith, level.shrinks) in
    let rises = left-rises steps (length (tris_in (next_clusters groups))) (7 * length (tris_in clusters) / 8) size in
    let later = levels-end tris groups (next_clusters groups) rest steps on.next levels.1.1 (omega
    (arith, rises, none)) in
    omega arith

none-left : left_after 93 MAX_TRIANGLES ≡ 0
none-left = refl

-- a level of so many triangles has at most 93 from it on
few-levels : (tris : List Tri) (clusters : List LevelCluster) (levels : List (List LevelGroup)) →
    AreGoodClusters tris [] clusters →
    AreLevels full_sizes clusters levels → length levels ≤ 93
few-levels tris clusters levels are grown =
    levels-end tris [] clusters levels 93 are grown (none (left_after 93 (length (tris_in clusters)))
    (left_after 93 MAX_TRIANGLES)
    (left-rises 93 (length (tris_in clusters)) MAX_TRIANGLES are.limit) none-left)
  where
    none : (m n : ℕ) → m ≤ n → n ≡ 0 → m ≡ 0
    none m n h k = omega arith

times : (error n : ℕ) → error ≤ (0 + n) * MOST → n ≤ 93 → error ≤ 93 * (2 * MAX_COORDINATE)
times error n h k = omega arith

-- a mesh has at most 93 levels, each of whose groups moves corners by at most the greatest distance
pub errors : (tris : List Tri) (dag : Dag) → AreGridTriangles tris → IsBuilt tris dag →
    All (λ group. group.error ≤ 93 * (2 * MAX_COORDINATE)) dag.heads.groups
errors tris dag mesh is =
    let all = built tris dag mesh is in
    let first : List LevelCluster = map source_cluster all.leaves in
    let good = sources-good tris all.leaves mesh all.cut in
    let none : All (λ cluster. maker_error cluster.maker ≤ 0 * MOST) first =
    All-map (λ (cluster : LevelCluster). maker_error cluster.maker ≤ 0 * MOST) source_cluster all.leaves
    (λ k d within. omega arith) in
    let most = levels-most tris [] first is.levels 0 good all.grown none in
    let count = few-levels tris first is.levels good all.grown in
    let groups = group-count is.levels dag.heads all.counts.are in
    let P : Group → Type 0 = λ group. group.error ≤ 93 * (2 * MAX_COORDINATE) in
    All-from_get_or P dag.heads.groups no_group
    (λ g below. let within : g < length (groups_in is.levels) = omega arith in
    let one = most g no_level_group within in
    subst P (sym (group-at is.levels dag.heads g all.counts.are within)) (times (group_of_level
    (groups_in is.levels) g).error (length is.levels) one count))

-- A level: its batches, what its groups make, and how much that is.
use Rattle.std.proofs.Common.{◌≡◌, ◌≤◌, ◌<◌, ◌+◌, ◌*◌, suc, zero-add, ℕ, Bool, true, false, List, [], ◌∷◌, ◌++◌, map}
use Rattle.std.proofs.Common.{flat_map, take, length, get_or, slice_index, Option, Some, All, refl, sym, ap, ◌∙◌, subst}
use Rattle.std.proofs.Common.{arith}
use Rattle.std.specs.List.{concat}
use Rattle.std.specs.List.Sorted.{IsPermutation}
use Rattle.std.proofs.lemmas.List.{append-nil, append_assoc, length-append, length-map, map-append, length-take-le}
use Rattle.std.proofs.lemmas.List.{take_all, take_more}
use Rattle.std.proofs.lemmas.List.Concat.{flat_map-append, length-flat_map}
use Rattle.std.proofs.lemmas.List.Elements.{All-append, All-cons, All-get_or, All-head, All-map, All-nil, All-push}
use Rattle.std.proofs.lemmas.List.Elements.{All-tail, All-weaker}
use Rattle.std.proofs.lemmas.List.Folds.{flat_map-map}
use Rattle.std.proofs.lemmas.List.Sorted.{length_permutation, sum_by-IsPermutation}
use Rattle.geom_core.specs.declared.limits.TheConstants.{CLUSTERS_PER_GROUP, MAX_TRIANGLES, TRIANGLES_PER_CLUSTER}
use Rattle.geom_core.specs.declared.triangles.Tagged.{Tagged}
use Rattle.rim_collapse.specs.States.{tagged_of}
use Rattle.partition.specs.declared.shapes.ClusterShape.{ClusterShape}
use Rattle.partition.specs.Batches.{pick}
use Rattle.partition.specs.Groups.{AreGroups, rim_edges, shape_key}
use Rattle.partition.specs.Neighbours.{are_neighbours}
use Rattle.partition.proofs.BatchLaws.{full_of_items, no_more_batches, numbers_below}
use Rattle.partition.proofs.Permuted.{items_permuted}
use Rattle.dag_build.specs.declared.level_clusters.LevelCluster.{LevelCluster}
use Rattle.dag_build.specs.declared.level_clusters.Maker.{Maker}
use Rattle.dag_build.specs.Built.{IsLevel}
use Rattle.dag_build.specs.Grouping.{AreCut, AreGrouped, AreShapesOf, full_sizes, no_cluster}
use Rattle.dag_build.specs.Levels.{LevelGroup, clusters_of, made_from, next_clusters, tris_in}
use Rattle.dag_build.specs.Numbers.{members_in}
use Rattle.dag_build.specs.Outcomes.{AreMade, IsOutcome}
use Rattle.dag_build.specs.Internal.Clusters.{made_cluster}
use Rattle.dag_build.specs.Internal.DoneLevels.{HasProper, IsPlaced, IsProper}
use Rattle.dag_build.specs.Internal.Groups.{unmade}
use Rattle.dag_build.specs.Internal.Taking.{AreFresh}
use Rattle.dag_build.proofs.ElementLaws.{All-mapped}
use Rattle.dag_build.proofs.OutcomeLaws.{goes_on}
use Rattle.dag_build.proofs.BatchLaws.{HasSize, cut-sizes, cut-total, fresh}

-- ---- what is made

pub joined-made : (maker : Option Maker) (made : List (List Tagged)) →
    tris_in (map (made_cluster maker) made) ≡ flat_map (λ leaf. leaf) made
joined-made maker [] = refl
joined-made maker (leaf ∷ made) = ap (λ xs. leaf ++ xs) (joined-made maker made)

-- a group makes at most seven eighths of its triangles
made-total : (size level_clusters : ℕ) (group : LevelGroup) → IsOutcome size level_clusters group →
    8 * length (flat_map (λ leaf. leaf) group.made) ≤ 7 * length (tris_in group.members)
made-total size level_clusters group is =
    let left = map tagged_of is.kept in
    go group.terminal refl
  where
    go : (b : Bool) → group.terminal ≡ b →
        8 * length (flat_map (λ (leaf : List Tagged). leaf) group.made) ≤ 7 * length (tris_in group.members)
    go true ends =
        let none : group.made ≡ [] = subst (λ b. AreMade size b (map tagged_of is.kept) group.made) ends is.made in
        let zero = ap (λ (xs : List (List Tagged)). length (flat_map (λ (leaf : List Tagged). leaf) xs)) none in
        omega arith
    go false ends =
        let cut : AreCut size (map tagged_of is.kept) group.made = subst (λ b. AreMade size b (map tagged_of is.kept)
        group.made) ends is.made in
        let total = cut-total size (map tagged_of is.kept) group.made cut in
        let len = length-map is.kept tagged_of in
        let on = goes_on level_clusters (length (tris_in group.members)) (length is.kept) _ (sym is.terminal ∙ ends) in
        omega (arith, on.few)

pub tris_in-append : (clusters more : List LevelCluster) → tris_in (clusters ++ more) ≡ tris_in clusters ++ tris_in more
tris_in-append clusters more = flat_map-append (λ (cluster : LevelCluster). cluster.tris) clusters more

pub level-total : (size level_clusters place : ℕ) (groups : List LevelGroup) → All (IsOutcome size level_clusters)
    groups →
    8 * length (tris_in (made_from place groups)) ≤ 7 * length (tris_in (members_in groups))
unfolding made_from
level-total size level_clusters place [] all = omega arith
level-total size level_clusters place (group ∷ groups) all =
    let P : LevelGroup → Type 0 = IsOutcome size level_clusters in
    let here = made-total size level_clusters group (All-head P group groups all) in
    let rest = level-total size level_clusters (place + 1) groups (All-tail P group groups all) in
    let maker : Maker = record { group = place; error = group.error; cube = group.cube } in
    let joins = ap length (joined-made (Some maker) group.made) in
    let a = ap length (tris_in-append (clusters_of place group) (made_from (place + 1) groups)) in
    let b = length-append (tris_in (clusters_of place group)) (tris_in (made_from (place + 1) groups)) in
    let d = ap length (tris_in-append group.members (members_in groups)) in
    let e = length-append (tris_in group.members) (tris_in (members_in groups)) in
    omega arith

-- ---- the members

shapes-length : (clusters : List LevelCluster) (shapes : List ClusterShape) → AreShapesOf clusters shapes →
    length shapes ≡ length clusters
unfolding AreShapesOf
shapes-length [] [] h = refl
shapes-length [] (s ∷ shapes) h = absurd h
shapes-length (c ∷ clusters) [] h = absurd h
shapes-length (c ∷ clusters) (s ∷ shapes) h = ap (λ n. suc n) (shapes-length clusters shapes h.1)

members-joined : (groups : List LevelGroup) → members_in groups ≡ flat_map (λ list. list) (map
    (λ group. group.members) groups)
members-joined groups = sym (flat_map-map (λ (list : List LevelCluster). list) (λ
    (group : LevelGroup). group.members) groups)

-- the members of the groups are the level's clusters in another order
pub members-moved : (size : ℕ) (clusters : List LevelCluster) (groups : List LevelGroup) →
    AreGrouped size clusters (map (λ group. group.members) groups) → IsPermutation clusters (members_in groups)
members-moved size clusters groups grouped =
    let keys = map shape_key grouped.shapes in
    let same : length clusters ≡ length keys =
    sym (length-map grouped.shapes shape_key ∙ shapes-length clusters grouped.shapes grouped.shaped) in
    let moved = items_permuted clusters no_cluster (length keys) same size (slice_index keys)
    (are_neighbours (map rim_edges grouped.shapes)) grouped.batches grouped.grown.grown in
    let all : flat_map (pick clusters no_cluster) grouped.batches ≡ members_in groups =
    sym (members-joined groups ∙ (ap (flat_map (λ (list : List LevelCluster). list)) grouped.picked ∙
    flat_map-map (λ (list : List LevelCluster). list) (pick clusters no_cluster) grouped.batches)) in
    subst (IsPermutation clusters) all moved

pub tris_in-moved : (clusters more : List LevelCluster) → IsPermutation clusters more → length (tris_in more) ≡ length
    (tris_in clusters)
tris_in-moved clusters more moved =
    let tris : LevelCluster → List Tagged = λ cluster. cluster.tris in
    length-flat_map tris more ∙ (sum_by-IsPermutation (λ (c : LevelCluster). length c.tris) clusters more moved ∙
    sym (length-flat_map tris clusters))

-- ---- clusters of a level

pub clusters-few : (clusters : List LevelCluster) → All IsProper clusters → length clusters ≤ length (tris_in clusters)
clusters-few [] all = omega arith
clusters-few (cluster ∷ clusters) all =
    let here = All-head IsProper cluster clusters all in
    let rest = clusters-few clusters (All-tail IsProper cluster clusters all) in
    let len = length-append cluster.tris (tris_in clusters) in
    omega (arith, here.some)

pub made-proper : (maker : Option Maker) (made : List (List Tagged)) → IsPlaced maker → All
    (HasSize TRIANGLES_PER_CLUSTER) made →
    All IsProper (map (made_cluster maker) made)
made-proper maker made placed sizes =
    All-map IsProper (made_cluster maker) made
    (All-weaker (HasSize TRIANGLES_PER_CLUSTER) (λ leaf. IsProper (made_cluster maker leaf))
    (λ leaf size. record { some = size.some; triangle_limit = size.limit; placed = placed }) made sizes)

group-proper : (level_clusters place : ℕ) (group : LevelGroup) → place < MAX_TRIANGLES →
    IsOutcome TRIANGLES_PER_CLUSTER level_clusters group → All IsProper (clusters_of place group)
group-proper level_clusters place group below is = go group.terminal refl
  where
    go : (b : Bool) → group.terminal ≡ b → All IsProper (clusters_of place group)
    go true ends =
        let none : group.made ≡ [] = subst (λ b. AreMade TRIANGLES_PER_CLUSTER b (map tagged_of is.kept) group.made)
        ends is.made in
        let maker : Maker = record { group = place; error = group.error; cube = group.cube } in
        subst (λ made. All IsProper (map (made_cluster (Some maker)) made)) (sym none) (All-nil IsProper)
    go false ends =
        let cut : AreCut TRIANGLES_PER_CLUSTER (map tagged_of is.kept) group.made =
        subst (λ b. AreMade TRIANGLES_PER_CLUSTER b (map tagged_of is.kept) group.made) ends is.made in
        let maker : Maker = record { group = place; error = group.error; cube = group.cube } in
        made-proper (Some maker) group.made below (cut-sizes TRIANGLES_PER_CLUSTER (map tagged_of is.kept)
        group.made (omega arith) cut)

pub next-proper : (level_clusters place : ℕ) (groups : List LevelGroup) → place + length groups ≤ MAX_TRIANGLES →
    All (IsOutcome TRIANGLES_PER_CLUSTER level_clusters) groups → All IsProper (made_from place groups)
unfolding made_from
next-proper level_clusters place [] limit all = All-nil IsProper
next-proper level_clusters place (group ∷ groups) limit all =
    let P : LevelGroup → Type 0 = IsOutcome TRIANGLES_PER_CLUSTER level_clusters in
    All-append IsProper (clusters_of place group) (made_from (place + 1) groups)
    (group-proper level_clusters place group (omega arith) (All-head P group groups all))
    (next-proper level_clusters (place + 1) groups (omega arith) (All-tail P group groups all))

-- clusters that are picked are some of the level
pub picked-proper : (clusters : List LevelCluster) (numbers : List ℕ) → All (λ n. n < length clusters) numbers →
    All IsProper clusters → All IsProper (pick clusters no_cluster numbers)
picked-proper clusters [] below all = All-nil IsProper
picked-proper clusters (n ∷ numbers) below all =
    let P : ℕ → Type 0 = λ k. k < length clusters in
    All-cons IsProper (get_or clusters n no_cluster) (pick clusters no_cluster numbers)
    (All-get_or IsProper clusters n no_cluster (All-head P n numbers below) all)
    (picked-proper clusters numbers (All-tail P n numbers below) all)

-- ---- one level, batch by batch

-- what is known of the batches of a level's clusters
pub record BatchesAre (clusters : List LevelCluster) (batches : List (List ℕ)) : Type 0 where
  pub few : length batches ≤ length clusters
  pub below : All (λ batch. All (λ number. number < length clusters) batch) batches
  pub not_empty : All (λ batch. 0 < length batch) batches
  pub size_limit : All (λ batch. length batch ≤ CLUSTERS_PER_GROUP) batches
  pub apart : (k : ℕ) → k < length batches → AreFresh (concat (take k batches)) (get_or batches k [])

pub batches-are : (clusters : List LevelCluster) (shapes : List ClusterShape) (batches : List (List ℕ)) →
    AreShapesOf clusters shapes → AreGroups shapes batches → BatchesAre clusters batches
batches-are clusters shapes batches shaped grown =
    let keys = map shape_key shapes in
    let edges = map rim_edges shapes in
    let same : length keys ≡ length clusters = length-map shapes shape_key ∙ shapes-length clusters shapes shaped in
    let full = full_of_items keys edges CLUSTERS_PER_GROUP batches (omega arith) grown in
    let count = no_more_batches CLUSTERS_PER_GROUP (length keys) batches (omega arith) full in
    record {
      few = omega arith;
      below = subst (λ n. All (λ batch. All (λ number. number < n) batch) batches) same
          (numbers_below keys edges CLUSTERS_PER_GROUP batches grown);
      not_empty = full.not_empty;
      size_limit = full.size_limit;
      apart = fresh keys edges CLUSTERS_PER_GROUP batches grown;
    }

-- the same of lists that are equal to those
pub batches-seen : (clusters seen : List LevelCluster) (shapes seen_shapes : List ClusterShape)
    (batches seen_batches : List (List ℕ)) →
    seen ≡ clusters → AreShapesOf seen shapes → seen_shapes ≡ shapes → AreGroups seen_shapes batches →
    seen_batches ≡ batches →
    BatchesAre clusters seen_batches
batches-seen clusters seen shapes seen_shapes batches seen_batches a shaped b grown d =
    subst (BatchesAre clusters) (sym d)
    (batches-are clusters shapes batches (subst (λ xs. AreShapesOf xs shapes) a shaped) (subst
    (λ xs. AreGroups xs batches) b grown))

pub picked-some : (clusters : List LevelCluster) (numbers : List ℕ) → All (λ n. n < length clusters) numbers →
    All IsProper clusters → 0 < length numbers → 1 ≤ length (tris_in (pick clusters no_cluster numbers))
picked-some clusters numbers below proper some =
    let named : ℕ → LevelCluster = λ n. get_or clusters n no_cluster in
    let few = clusters-few (pick clusters no_cluster numbers) (picked-proper clusters numbers below proper) in
    let len = length-map numbers named in
    omega arith

made-append : (place : ℕ) (groups more : List LevelGroup) →
    made_from place (groups ++ more) ≡ made_from place groups ++ made_from (place + length groups) more
unfolding made_from
made-append place [] more = let same : place ≡ place + 0 = omega arith in ap (λ n. made_from n more) same
made-append place (group ∷ groups) more =
    let same : place + 1 + length groups ≡ place + suc (length groups) = omega arith in
    ap (λ xs. clusters_of place group ++ xs) (made-append (place + 1) groups more ∙
    ap (λ n. made_from (place + 1) groups ++ made_from n more) same) ∙
    sym (append_assoc (clusters_of place group) (made_from (place + 1) groups) (made_from (place + suc
    (length groups)) more))

made-one : (place : ℕ) (group : LevelGroup) → made_from place (group ∷ []) ≡ clusters_of place group
unfolding made_from
made-one place group = append-nil (clusters_of place group)

pub made-none : made_from 0 [] ≡ []
unfolding made_from
made-none = refl

-- the groups so far, with their outcomes
pub record GroupsSoFar (clusters : List LevelCluster) (batches : List (List ℕ)) (k : ℕ) (held : List LevelGroup)
    (made : List LevelCluster) : Type 0 where
  pub groups : List LevelGroup
  pub outcomes : All (IsOutcome TRIANGLES_PER_CLUSTER (length clusters)) groups
  pub picked : map (λ group. group.members) groups ≡ map (pick clusters no_cluster) (take k batches)
  pub held_are : held ≡ map unmade groups
  pub made_are : made ≡ next_clusters groups

pub groups-none : (clusters : List LevelCluster) (batches : List (List ℕ)) → GroupsSoFar clusters batches 0 [] []
groups-none clusters batches = record {
  groups = [];
  outcomes = All-nil (IsOutcome TRIANGLES_PER_CLUSTER (length clusters));
  picked = refl;
  held_are = refl;
  made_are = sym made-none;
}

-- one more group
pub groups-more : (clusters : List LevelCluster) (batches : List (List ℕ)) (k : ℕ) (held next_held : List LevelGroup)
    (made next_made : List LevelCluster) (group one : LevelGroup) (count : ℕ) → k < length batches →
    GroupsSoFar clusters batches k held made → count ≡ length clusters → IsOutcome TRIANGLES_PER_CLUSTER count group →
    group.members ≡ pick clusters no_cluster (get_or batches k []) → one ≡ unmade group → next_held ≡ held ++ one ∷ [] →
    next_made ≡ made ++ clusters_of k group → GroupsSoFar clusters batches (k + 1) next_held next_made
groups-more clusters batches k held next_held made next_made group one count within so_far is outcome members same
    grown more =
    let gs = so_far.groups in
    let P : LevelGroup → Type 0 = IsOutcome TRIANGLES_PER_CLUSTER (length clusters) in
    let members_of : LevelGroup → List LevelCluster = λ g. g.members in
    let picks : List ℕ → List LevelCluster = pick clusters no_cluster in
    let size : length gs ≡ k =
    sym (length-map gs members_of) ∙ (ap length so_far.picked ∙ (length-map (take k batches) picks ∙
    length-take-le k batches (omega arith))) in
    let place : 0 + length gs ≡ k = zero-add (length gs) ∙ size in
    record {
      groups = gs ++ group ∷ [];
      outcomes = All-push P gs group so_far.outcomes (subst (λ n. IsOutcome TRIANGLES_PER_CLUSTER n group) is outcome);
      picked = map-append members_of gs (group ∷ []) ∙ (ap (λ xs. xs ++ group.members ∷ []) so_far.picked ∙
          (ap (λ list. map picks (take k batches) ++ list ∷ []) members ∙
          (sym (map-append picks (take k batches) (get_or batches k [] ∷ [])) ∙ ap (map picks) (sym
          (take_more batches k [] within)))));
      held_are = grown ∙ (ap (λ xs. xs ++ one ∷ []) so_far.held_are ∙
          (ap (λ g. map unmade gs ++ g ∷ []) same ∙ sym (map-append unmade gs (group ∷ []))));
      made_are = more ∙ (ap (λ xs. xs ++ clusters_of k group) so_far.made_are ∙
          (ap (λ xs. made_from 0 gs ++ xs) (sym (made-one k group)) ∙
          (ap (λ n. made_from 0 gs ++ made_from n (group ∷ [])) (sym place) ∙ sym (made-append 0 gs (group ∷ [])))));
    }

-- all groups
pub groups-all : (clusters : List LevelCluster) (shapes : List ClusterShape) (batches : List (List ℕ)) (k : ℕ)
    (held : List LevelGroup) (made : List LevelCluster) → AreShapesOf clusters shapes → AreGroups shapes batches →
    length batches ≤ k → (so_far : GroupsSoFar clusters batches k held made) → IsLevel full_sizes clusters so_far.groups
groups-all clusters shapes batches k held made shaped grown end so_far = record {
  grouped = record {
    shapes = shapes;
    shaped = shaped;
    batches = batches;
    grown = grown;
    picked = so_far.picked ∙ ap (map (pick clusters no_cluster)) (take_all k batches end);
  };
  outcomes = so_far.outcomes;
}

-- ---- what a level leads to

-- what a level leads to
pub record LevelIs (clusters : List LevelCluster) (groups : List LevelGroup) : Type 0 where
  pub few_groups : length groups ≤ length clusters
  pub same_count : length (members_in groups) ≡ length clusters
  pub shrinks : 8 * length (tris_in (next_clusters groups)) ≤ 7 * length (tris_in clusters)
  pub members : All HasProper groups
  pub next : All IsProper (next_clusters groups)

pub level-is : (clusters : List LevelCluster) (groups : List LevelGroup) → All IsProper clusters →
    length (tris_in clusters) ≤ MAX_TRIANGLES → IsLevel full_sizes clusters groups → LevelIs clusters groups
level-is clusters groups proper limit is =
    let g = is.grouped in
    let keys = map shape_key g.shapes in
    let edges = map rim_edges g.shapes in
    let members : LevelGroup → List LevelCluster = λ group. group.members in
    let same : length keys ≡ length clusters = length-map g.shapes shape_key ∙
    shapes-length clusters g.shapes g.shaped in
    let full = full_of_items keys edges CLUSTERS_PER_GROUP g.batches (omega arith) g.grown in
    let few = no_more_batches CLUSTERS_PER_GROUP (length keys) g.batches (omega arith) full in
    let count : length groups ≡ length g.batches =
    sym (length-map groups members) ∙ (ap length g.picked ∙ length-map g.batches (pick clusters no_cluster)) in
    let moved = members-moved CLUSTERS_PER_GROUP clusters groups g in
    let tris = tris_in-moved clusters (members_in groups) moved in
    let total = level-total TRIANGLES_PER_CLUSTER (length clusters) 0 groups is.outcomes in
    let some = clusters-few clusters proper in
    let below : All (λ batch. All (λ number. number < length clusters) batch) g.batches =
    subst (λ n. All (λ batch. All (λ number. number < n) batch) g.batches) same
    (numbers_below keys edges CLUSTERS_PER_GROUP g.batches g.grown) in
    let each : All (λ batch. All IsProper (pick clusters no_cluster batch)) g.batches =
    All-weaker (λ batch. All (λ number. number < length clusters) batch) (λ batch. All IsProper
    (pick clusters no_cluster batch))
    (λ batch b. picked-proper clusters batch b proper) g.batches below in
    let lists : All (All IsProper) (map members groups) =
    subst (All (All IsProper)) (sym g.picked) (All-map (All IsProper) (pick clusters no_cluster) g.batches each) in
    record {
      few_groups = omega arith;
      same_count = length_permutation clusters (members_in groups) moved;
      shrinks = omega arith;
      members = All-mapped (All IsProper) members groups lists;
      next = next-proper (length clusters) 0 groups (omega arith) is.outcomes;
    }

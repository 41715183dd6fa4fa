-- What a group makes: clusters of the next level, near to their source triangles.
use Rattle.std.proofs.Common.{◌≡◌, ◌∙◌, ◌<◌, ◌≤◌, ◌+◌, inl, inr, ℕ, Bool, true, false, List, [], ◌∷◌, ◌++◌, length, map}
use Rattle.std.proofs.Common.{get_or, All, Some, refl, sym, ap, subst, arith}
use Rattle.std.proofs.Math.Seq.{get_or-append_seam}
use Rattle.std.proofs.lemmas.List.{append_assoc, length-append}
use Rattle.std.proofs.lemmas.List.Elements.{All-append, All-cons, All-head, All-map, All-nil, All-tail, All-weaker}
use Rattle.geom_core.specs.declared.limits.TheConstants.{TRIANGLES_PER_CLUSTER}
use Rattle.geom_core.specs.declared.triangles.Tri.{Tri}
use Rattle.geom_core.specs.declared.triangles.Tagged.{Tagged}
use Rattle.geom_core.specs.Limits.{IsGridTriangle}
use Rattle.geom_core.specs.Shift.{shift_of}
use Rattle.geom_core.specs.TaggedLists.{tris_of}
use Rattle.geom_core.proofs.DistanceLaws.{shift_of-triangle}
use Rattle.rim_collapse.specs.Moved.{moved_of}
use Rattle.rim_collapse.specs.Sound.{AreMoved, IsMoved, IsSound}
use Rattle.rim_collapse.specs.States.{tagged_of}
use Rattle.rim_collapse.proofs.Following.{simplified-sound}
use Rattle.dag_core.specs.Ranges.{is_group_box}
use Rattle.dag_build.specs.declared.level_clusters.LevelCluster.{LevelCluster}
use Rattle.dag_build.specs.declared.level_clusters.Maker.{Maker}
use Rattle.dag_build.specs.Grouping.{AreCut, no_triangle}
use Rattle.dag_build.specs.Levels.{LevelGroup, clusters_of, made_from, next_clusters, tris_in}
use Rattle.dag_build.specs.Outcomes.{AreMade, IsOutcome, greatest_error, maker_error}
use Rattle.dag_build.specs.Internal.Clusters.{made_cluster}
use Rattle.dag_build.specs.Internal.DoneLevels.{IsProper}
use Rattle.dag_build.proofs.ElementLaws.{All-joined, All-mapped, cut-each}
use Rattle.dag_build.proofs.OutcomeLaws.{goes_on}
use Rattle.dag_build.proofs.GoodClusters.{no_level_group, group_of_level, IsMakerIn, HasMaker, IsNear, IsGood}
use Rattle.dag_build.proofs.GroupBounds.{grid_tris, greatest, full_error}

-- ---- makers

made-have : (size level_clusters : ℕ) (groups front rest : List LevelGroup) (group : LevelGroup) →
    groups ≡ front ++ group ∷ rest →
    IsOutcome size level_clusters group → All (λ cluster. HasMaker groups cluster.maker) (clusters_of
    (length front) group)
made-have size level_clusters groups front rest group is outcome = go group.terminal refl
  where
    maker : Maker
    maker = record { group = length front; error = group.error; cube = group.cube }

    go : (b : Bool) → group.terminal ≡ b → All (λ cluster. HasMaker groups cluster.maker) (clusters_of
        (length front) group)
    go true ends =
        let none : group.made ≡ [] = subst (λ b. AreMade size b
        (map tagged_of outcome.kept) group.made) ends outcome.made in
        subst (λ made. All (λ cluster. HasMaker groups cluster.maker) (map (made_cluster (Some maker)) made)) (sym none)
        (All-nil (λ (cluster : LevelCluster). HasMaker groups cluster.maker))
    go false goes_on =
        let here : group_of_level groups (length front) ≡ group =
        ap (λ list. group_of_level list (length front)) is ∙ get_or-append_seam front group rest no_level_group in
        let count = ap length is in
        let parts = length-append front (group ∷ rest) in
        let has : IsMakerIn groups maker = record {
          within = omega arith;
          goes_on = ap (λ (g : LevelGroup). g.terminal) here ∙ goes_on;
          error = ap (λ (g : LevelGroup). g.error) here;
          cube = ap (λ (g : LevelGroup). g.cube) here;
        } in
        All-map (λ (cluster : LevelCluster). HasMaker groups cluster.maker) (made_cluster (Some maker)) group.made
        (λ k d within. has)

all-have : (size level_clusters : ℕ) (groups front rest : List LevelGroup) → groups ≡ front ++ rest →
    All (IsOutcome size level_clusters) rest → All (λ cluster. HasMaker groups cluster.maker) (made_from
    (length front) rest)
unfolding made_from
all-have size level_clusters groups front [] is all = All-nil (λ
    (cluster : LevelCluster). HasMaker groups cluster.maker)
all-have size level_clusters groups front (group ∷ rest) is all =
    let P : LevelGroup → Type 0 = IsOutcome size level_clusters in
    let Q : LevelCluster → Type 0 = λ cluster. HasMaker groups cluster.maker in
    let len : length (front ++ group ∷ []) ≡ length front + 1 = length-append front (group ∷ []) in
    All-append Q (clusters_of (length front) group) (made_from (length front + 1) rest)
    (made-have size level_clusters groups front rest group is (All-head P group rest all))
    (subst (λ n. All Q (made_from n rest)) len
    (all-have size level_clusters groups (front ++ group ∷ []) rest (is ∙ sym (append_assoc front (group ∷ []) rest))
    (All-tail P group rest all)))

-- each cluster of the next level has one of the groups as its maker
pub next-have : (size level_clusters : ℕ) (groups : List LevelGroup) → All (IsOutcome size level_clusters) groups →
    All (λ cluster. HasMaker groups cluster.maker) (next_clusters groups)
next-have size level_clusters groups all = all-have size level_clusters groups [] groups refl all

-- ---- triangles

moved-near : (tris : List Tri) (moved error : ℕ) (from to : Tagged) → IsMoved moved from to → IsGridTriangle to.tri →
    IsNear tris error from → IsNear tris (moved + error) to
moved-near tris moved error from to is grid near =
    let source : ℕ → Tri = λ s. get_or tris s no_triangle.tri in
    let far : shift_of from.tri (source to.source) ≤ error = subst (λ s. shift_of from.tri (source s) ≤ error)
    (sym is.source) near.near in
    let sum = shift_of-triangle to.tri from.tri (source to.source) in
    record {
      grid = grid;
      within = subst (λ s. s < length tris) (sym is.source) near.within;
      near = omega (arith, sum, is.within, far);
    }

all-moved : (tris : List Tri) (moved error : ℕ) (froms tos : List Tagged) → AreMoved moved froms tos →
    All IsGridTriangle (tris_of tos) →
    All (IsNear tris error) froms → All (IsNear tris (moved + error)) tos
unfolding AreMoved
all-moved tris moved error froms [] are grid near = All-nil (IsNear tris (moved + error))
all-moved tris moved error [] (to ∷ tos) are grid near = absurd are
all-moved tris moved error (from ∷ froms) (to ∷ tos) (inl both) grid near =
    let P = IsNear tris error in
    All-cons (IsNear tris (moved + error)) to tos
    (moved-near tris moved error from to both.0 (All-head IsGridTriangle to.tri (tris_of tos) grid)
    (All-head P from froms near))
    (all-moved tris moved error froms tos both.1 (All-tail IsGridTriangle to.tri (tris_of tos) grid)
    (All-tail P from froms near))
all-moved tris moved error (from ∷ froms) (to ∷ tos) (inr later) grid near =
    all-moved tris moved error froms (to ∷ tos) later grid (All-tail (IsNear tris error) from froms near)

near-more : (tris : List Tri) (error greater : ℕ) (list : List Tagged) → error ≤ greater →
    All (IsNear tris error) list →
    All (IsNear tris greater) list
near-more tris error greater list below all =
    All-weaker (IsNear tris error) (IsNear tris greater)
    (λ t near. record { grid = near.grid; within = near.within; near = omega (arith, below, near.near) }) list all

pub members-near : (tris : List Tri) (members : List LevelCluster) → All (IsGood tris) members →
    All (IsNear tris (greatest_error members)) (tris_in members)
members-near tris members all =
    let most = greatest members in
    All-joined (IsNear tris (greatest_error members)) (λ (cluster : LevelCluster). cluster.tris) members
    (λ k d within. let member = get_or members k d in
    let good : IsGood tris member = all k d within in
    near-more tris (maker_error member.maker) (greatest_error members) member.tris (most k d within) good.near)

-- what a group makes is good
pub made-good : (tris : List Tri) (level_clusters place : ℕ) (group : LevelGroup) →
    IsOutcome TRIANGLES_PER_CLUSTER level_clusters group →
    is_group_box group.cube ≡ true → All (IsGood tris) group.members → All IsProper (clusters_of place group) →
    All (IsGood tris) (clusters_of place group)
made-good tris level_clusters place group is box good proper = go group.terminal refl
  where
    maker : Maker
    maker = record { group = place; error = group.error; cube = group.cube }

    go : (b : Bool) → group.terminal ≡ b → All (IsGood tris) (clusters_of place group)
    go true ends =
        let none : group.made ≡ [] = subst (λ b. AreMade TRIANGLES_PER_CLUSTER b
        (map tagged_of is.kept) group.made) ends is.made in
        subst (λ made. All (IsGood tris) (map (made_cluster (Some maker)) made)) (sym none) (All-nil (IsGood tris))
    go false off =
        let cut : AreCut TRIANGLES_PER_CLUSTER (map tagged_of is.kept) group.made =
        subst (λ b. AreMade TRIANGLES_PER_CLUSTER b (map tagged_of is.kept) group.made) off is.made in
        let near = members-near tris group.members good in
        let grid = grid_tris tris (greatest_error group.members) (tris_in group.members) near in
        let sound : IsSound (tris_in group.members) (map tagged_of is.kept) (moved_of is.kept) =
        simplified-sound (tris_in group.members) is.locked is.kept grid is.simplified in
        let left = all-moved tris (moved_of is.kept) (greatest_error group.members) (tris_in group.members)
        (map tagged_of is.kept)
        sound.from sound.triangles near in
        let same : moved_of is.kept + greatest_error group.members ≡ group.error =
        sym (is.error ∙ full_error group.terminal (moved_of is.kept + greatest_error group.members) off) in
        let each : All (All (IsNear tris group.error)) group.made =
        cut-each (IsNear tris group.error) TRIANGLES_PER_CLUSTER (map tagged_of is.kept) group.made cut
        (subst (λ n. All (IsNear tris n) (map tagged_of is.kept)) same left) in
        let all_proper = All-mapped IsProper (made_cluster (Some maker)) group.made proper in
        All-map (IsGood tris) (made_cluster (Some maker)) group.made
        (λ k d within. record { proper = all_proper k d within; near = each k d within; maker = box })

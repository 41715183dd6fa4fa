-- The numbers of groups and clusters, level by level.
use Rattle.std.proofs.Common.{zero-add, suc, ◌≡◌, ◌≤◌, ◌+◌, ℕ, List, [], ◌∷◌, ◌++◌, map, length, All, refl, sym, ap}
use Rattle.std.proofs.Common.{◌∙◌, subst, arith}
use Rattle.std.proofs.lemmas.List.{append-nil, append_assoc, length-append, length-map, map-append}
use Rattle.std.proofs.lemmas.List.Concat.{flat_map-append}
use Rattle.std.proofs.lemmas.List.Elements.{All-head}
use Rattle.geom_core.specs.declared.limits.TheConstants.{MAX_CLUSTERS, MAX_GROUPS}
use Rattle.geom_core.specs.declared.triangles.Tagged.{Tagged}
use Rattle.dag_core.specs.declared.cluster_heads.ClusterHead.{ClusterHead}
use Rattle.dag_core.specs.declared.groups.Group.{Group}
use Rattle.dag_build.specs.declared.level_clusters.LevelCluster.{LevelCluster}
use Rattle.dag_build.specs.Levels.{LevelGroup}
use Rattle.dag_build.specs.Numbers.{clusters_in, dag_from, dag_of, group_head, groups_in, head_of, heads_from}
use Rattle.dag_build.specs.Numbers.{members_in}
use Rattle.dag_build.proofs.ElementLaws.{All-second}
use Rattle.dag_build.specs.Internal.DoneLevels.{AreFewLevels, HasProper}
use Rattle.dag_build.specs.Internal.Groups.{unmade}

pub members_in-append : (groups more : List LevelGroup) → members_in (groups ++ more)
    ≡ members_in groups ++ members_in more
members_in-append groups more = flat_map-append (λ (group : LevelGroup). group.members) groups more

pub members_in-one : (group : LevelGroup) → members_in (group ∷ []) ≡ group.members
members_in-one group = append-nil group.members

pub heads-none : (first : ℕ) → heads_from first [] ≡ []
unfolding heads_from
heads-none first = refl

pub heads-append : (first : ℕ) (groups more : List LevelGroup) →
    heads_from first (groups ++ more) ≡ heads_from first groups ++ heads_from (first + length (members_in groups)) more
unfolding heads_from
heads-append first [] more =
    let same : first ≡ first + 0 = omega arith in
    ap (λ n. heads_from n more) same
heads-append first (group ∷ groups) more =
    let here : Group = group_head first group in
    let next : ℕ = first + length group.members in
    let len = length-append group.members (members_in groups) in
    let same : next + length (members_in groups) ≡ first + length (group.members ++ members_in groups) = omega arith in
    ap (λ heads. here ∷ heads)
    (heads-append next groups more ∙ ap (λ n. heads_from next groups ++ heads_from n more) same)

pub heads-one : (first : ℕ) (group : LevelGroup) → heads_from first (group ∷ []) ≡ group_head first group ∷ []
unfolding heads_from
heads-one first group = refl

-- one more group
pub heads-push : (first n : ℕ) (groups : List LevelGroup) (group : LevelGroup) → n ≡ first + length
    (members_in groups) →
    heads_from first groups ++ group_head n group ∷ [] ≡ heads_from first (groups ++ group ∷ [])
heads-push first n groups group at =
    ap (λ k. heads_from first groups ++ group_head k group ∷ []) at ∙
    (ap (λ heads. heads_from first groups ++ heads) (sym (heads-one (first + length (members_in groups)) group)) ∙
    sym (heads-append first groups (group ∷ [])))

pub heads-length : (first : ℕ) (groups : List LevelGroup) → length (heads_from first groups) ≡ length groups
unfolding heads_from
heads-length first [] = refl
heads-length first (group ∷ groups) = ap (λ n. suc n) (heads-length (first + length group.members) groups)

pub groups_in-none : groups_in [] ≡ []
unfolding groups_in
groups_in-none = refl

pub groups_in-cons : (groups : List LevelGroup) (levels : List (List LevelGroup)) → groups_in (groups ∷ levels)
    ≡ groups_in levels ++ groups
unfolding groups_in
groups_in-cons groups levels = refl

pub clusters_in-none : clusters_in [] ≡ []
unfolding clusters_in
clusters_in-none = refl

pub clusters_in-cons : (groups : List LevelGroup) (levels : List (List LevelGroup)) →
    clusters_in (groups ∷ levels) ≡ clusters_in levels ++ map (head_of (length (groups_in (groups ∷ levels))))
    (members_in groups)
unfolding clusters_in
clusters_in-cons groups levels = refl

pub clusters_in-length : (levels : List (List LevelGroup)) → length (clusters_in levels) ≡ length (members_in
    (groups_in levels))
unfolding clusters_in groups_in
clusters_in-length [] = refl
clusters_in-length (groups ∷ levels) =
    let rest = clusters_in-length levels in
    let head : LevelCluster → ClusterHead = head_of (length (groups_in levels ++ groups)) in
    let one = length-append (clusters_in levels) (map head (members_in groups)) in
    let mapped = length-map (members_in groups) head in
    let both = ap length (members_in-append (groups_in levels) groups) in
    let two = length-append (members_in (groups_in levels)) (members_in groups) in
    omega arith

-- the groups of levels that follow others come first
pub groups_in-append : (levels more : List (List LevelGroup)) → groups_in (levels ++ more)
    ≡ groups_in more ++ groups_in levels
unfolding groups_in
groups_in-append [] more = sym (append-nil (groups_in more))
groups_in-append (groups ∷ levels) more =
    ap (λ xs. xs ++ groups) (groups_in-append levels more) ∙ append_assoc (groups_in more) (groups_in levels) groups

-- the levels done have these groups, clusters and triangles in a DAG
pub record AreNumbered (done : List (List LevelGroup)) (groups : List Group) (clusters : List ClusterHead)
    (tris : List (List Tagged)) : Type 0 where
  pub groups_are : groups ≡ heads_from 0 (groups_in done)
  pub clusters_are : clusters ≡ clusters_in done
  pub tris_are : tris ≡ map (λ cluster. cluster.tris) (members_in (groups_in done))

pub numbered-none : AreNumbered [] [] [] []
unfolding heads_from groups_in clusters_in
numbered-none = record { groups_are = refl; clusters_are = refl; tris_are = refl }

pub numbered-groups : (done : List (List LevelGroup)) (groups : List Group) (clusters : List ClusterHead)
    (tris : List (List Tagged)) → AreNumbered done groups clusters tris → length groups ≡ length (groups_in done)
numbered-groups done groups clusters tris is = ap length is.groups_are ∙ heads-length 0 (groups_in done)

pub numbered-clusters : (done : List (List LevelGroup)) (groups : List Group) (clusters : List ClusterHead)
    (tris : List (List Tagged)) → AreNumbered done groups clusters tris → length clusters ≡ length (members_in
    (groups_in done))
numbered-clusters done groups clusters tris is = ap length is.clusters_are ∙ clusters_in-length done

-- one more level
pub numbered-more : (done : List (List LevelGroup)) (level : List LevelGroup) (groups next_groups : List Group)
    (clusters next_clusters : List ClusterHead) (tris next_tris : List (List Tagged)) →
    AreNumbered done groups clusters tris → next_groups ≡ groups ++ heads_from (length clusters) level →
    next_clusters ≡ clusters ++ map (head_of (length groups + length level)) (members_in level) →
    next_tris ≡ tris ++ map (λ cluster. cluster.tris) (members_in level) →
    AreNumbered (level ∷ done) next_groups next_clusters next_tris
unfolding groups_in clusters_in
numbered-more done level groups next_groups clusters next_clusters tris next_tris is more_groups more_clusters
    more_tris =
    let tris_of_cluster : LevelCluster → List Tagged = λ cluster. cluster.tris in
    let count = numbered-groups done groups clusters tris is in
    let size = numbered-clusters done groups clusters tris is in
    let base : length groups + length level ≡ length (groups_in done ++ level) =
    ap (λ n. n + length level) count ∙ sym (length-append (groups_in done) level) in
    record {
      groups_are = more_groups ∙ (ap (λ xs. xs ++ heads_from (length clusters) level) is.groups_are ∙
          (ap (λ n. heads_from 0 (groups_in done) ++ heads_from n level) size ∙
          (ap (λ n. heads_from 0 (groups_in done) ++ heads_from n level) (sym (zero-add (length (members_in
          (groups_in done))))) ∙
          sym (heads-append 0 (groups_in done) level))));
      clusters_are = more_clusters ∙ (ap (λ xs. xs ++ map (head_of (length groups + length level))
          (members_in level)) is.clusters_are ∙
          ap (λ n. clusters_in done ++ map (head_of n) (members_in level)) base);
      tris_are = more_tris ∙ (ap (λ xs. xs ++ map tris_of_cluster (members_in level)) is.tris_are ∙
          (sym (map-append tris_of_cluster (members_in (groups_in done)) (members_in level)) ∙
          ap (map tris_of_cluster) (sym (members_in-append (groups_in done) level))));
    }

pub numbered-dag : (sources : ℕ) (levels : List (List LevelGroup)) (groups : List Group) (clusters : List ClusterHead)
    (tris : List (List Tagged)) → AreNumbered levels groups clusters tris →
    dag_from sources groups clusters tris ≡ dag_of sources levels
unfolding dag_of
numbered-dag sources levels groups clusters tris is = rw (is.groups_are, is.clusters_are, is.tris_are) refl

pub nothing_left : {X : Type 0} (xs : List X) → length xs ≡ 0 → xs ≡ []
nothing_left [] h = refl
nothing_left (x ∷ xs) h = absurd (omega arith)

-- the last of the levels that are left is next
pub popped : {A B : Type 0} (f : A → B) (all : List B) (items rest : List A) (x : A) (done : List B) →
    all ≡ map f items ++ done → items ≡ rest ++ x ∷ [] → all ≡ map f rest ++ (f x ∷ done)
popped f all items rest x done is grown =
    is ∙ (ap (λ xs. map f xs ++ done) grown ∙
    (ap (λ ys. ys ++ done) (map-append f rest (x ∷ [])) ∙ append_assoc (map f rest) (f x ∷ []) done))

pub none_left : {A B : Type 0} (f : A → B) (all : List B) (items : List A) (done : List B) →
    all ≡ map f items ++ done → length items ≡ 0 → all ≡ done
none_left f all items done is none = is ∙ ap (λ xs. map f xs ++ done) (nothing_left items none)

-- what the next level to number may have
pub record HasRoom (done : List (List LevelGroup)) (level : List LevelGroup) : Type 0 where
  pub groups : length (groups_in done) + length level ≤ MAX_GROUPS
  pub clusters : length (members_in (groups_in done)) + length (members_in level) ≤ MAX_CLUSTERS
  pub members : All HasProper level

pub room : (levels left : List (List LevelGroup)) (level : List LevelGroup) (done : List (List LevelGroup)) →
    levels ≡ left ++ (level ∷ done) → AreFewLevels levels → HasRoom done level
unfolding groups_in
room levels left level done is few =
    let order : groups_in levels ≡ (groups_in done ++ level) ++ groups_in left = ap groups_in is ∙
    groups_in-append left (level ∷ done) in
    let a = ap length order in
    let b = length-append (groups_in done ++ level) (groups_in left) in
    let d = length-append (groups_in done) level in
    let e = ap (λ xs. length (members_in xs)) order in
    let f = ap length (members_in-append (groups_in done ++ level) (groups_in left)) in
    let g = length-append (members_in (groups_in done ++ level)) (members_in (groups_in left)) in
    let h = ap length (members_in-append (groups_in done) level) in
    let i = length-append (members_in (groups_in done)) (members_in level) in
    record {
      groups = omega (arith, few.groups);
      clusters = omega (arith, few.clusters);
      members = All-head (All HasProper) level done (All-second (All HasProper) left (level ∷ done)
          (subst (All (All HasProper)) is few.members));
    }

-- what groups made has no part in the numbers
pub members_in-unmade : (groups : List LevelGroup) → members_in (map unmade groups) ≡ members_in groups
members_in-unmade [] = refl
members_in-unmade (group ∷ groups) = ap (λ xs. group.members ++ xs) (members_in-unmade groups)

heads-unmade : (first : ℕ) (groups : List LevelGroup) → heads_from first (map unmade groups) ≡ heads_from first groups
unfolding heads_from
heads-unmade first [] = refl
heads-unmade first (group ∷ groups) =
    ap (λ heads. group_head first group ∷ heads) (heads-unmade (first + length group.members) groups)

groups_in-unmade : (levels : List (List LevelGroup)) → groups_in (map (map unmade) levels) ≡ map unmade
    (groups_in levels)
unfolding groups_in
groups_in-unmade [] = refl
groups_in-unmade (groups ∷ levels) =
    ap (λ xs. xs ++ map unmade groups) (groups_in-unmade levels) ∙ sym (map-append unmade (groups_in levels) groups)

clusters_in-unmade : (levels : List (List LevelGroup)) → clusters_in (map (map unmade) levels) ≡ clusters_in levels
unfolding clusters_in
clusters_in-unmade [] = refl
clusters_in-unmade (groups ∷ levels) =
    let count : length (groups_in (map (map unmade) (groups ∷ levels))) ≡ length (groups_in (groups ∷ levels)) =
    ap length (groups_in-unmade (groups ∷ levels)) ∙ length-map (groups_in (groups ∷ levels)) unmade in
    ap (λ xs. xs ++ map (head_of (length (groups_in (map (map unmade) (groups ∷ levels))))) (members_in
    (map unmade groups)))
    (clusters_in-unmade levels) ∙
    (ap (λ n. clusters_in levels ++ map (head_of n) (members_in (map unmade groups))) count ∙
    ap (λ xs. clusters_in levels ++ map (head_of (length (groups_in (groups ∷ levels)))) xs) (members_in-unmade groups))

pub dag-unmade : (sources : ℕ) (levels : List (List LevelGroup)) → dag_of sources (map (map unmade) levels)
    ≡ dag_of sources levels
unfolding dag_of
dag-unmade sources levels =
    rw (
      groups_in-unmade levels,
      heads-unmade 0 (groups_in levels),
      clusters_in-unmade levels,
      members_in-unmade
          (groups_in levels),
    ) refl

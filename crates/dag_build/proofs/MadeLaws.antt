-- A group that isn't terminal made a cluster of the next level.
use Rattle.std.proofs.Common.{◌≡◌, ◌∙◌, ◌<◌, ◌≤◌, ◌+◌, ◌*◌, ◌-◌, ◌==◌, ◌||◌, nat_lt, inl, inr, zero-add, ℕ, zero, suc}
use Rattle.std.proofs.Common.{Bool, true, false, List, [], ◌∷◌, ◌++◌, length, map, flat_map, All, Option, None, Some}
use Rattle.std.proofs.Common.{refl, sym, ap, subst, arith}
use Rattle.std.specs.List.{list_any}
use Rattle.std.proofs.lemmas.Bool.{cases_lt, eq-eqb, false≢true, or_left, or_parts, or_right}
use Rattle.std.proofs.lemmas.Bool.Decides.{nat_tests}
use Rattle.std.proofs.lemmas.List.{get_or-append-add, get_or_append_left, length-append, length-map}
use Rattle.std.proofs.lemmas.List.Elements.{All-head, All-tail}
use Rattle.std.proofs.lemmas.List.Folds.{list_any-append, list_any_at}
use Rattle.std.proofs.lemmas.List.Sorted.{Contains-permutation}
use Rattle.std.specs.List.Sorted.{IsPermutation}
use Rattle.geom_core.specs.declared.limits.TheConstants.{MAX_ERROR}
use Rattle.geom_core.specs.declared.triangles.Tagged.{Tagged}
use Rattle.rim_collapse.specs.Moved.{moved_of}
use Rattle.rim_collapse.specs.States.{tagged_of}
use Rattle.partition.proofs.Members.{Passes, list_any-true}
use Rattle.dag_core.specs.declared.cluster_heads.ClusterHead.{ClusterHead}
use Rattle.dag_core.specs.Members.{is_made_by, is_maker}
use Rattle.dag_build.specs.declared.level_clusters.LevelCluster.{LevelCluster}
use Rattle.dag_build.specs.declared.level_clusters.Maker.{Maker}
use Rattle.dag_build.specs.Built.{AreLevels}
use Rattle.dag_build.specs.Grouping.{AreCut, Sizes}
use Rattle.dag_build.specs.Levels.{LevelGroup, clusters_of, made_from, next_clusters, tris_in}
use Rattle.dag_build.specs.Numbers.{clusters_in, groups_in, head_of, maker_number, members_in}
use Rattle.dag_build.specs.Outcomes.{AreMade, IsOutcome, greatest_error, is_terminal}
use Rattle.dag_build.proofs.GoodClusters.{group_of_level, no_level_group}
use Rattle.dag_build.proofs.BatchLaws.{cut-total}
use Rattle.dag_build.proofs.LevelLaws.{members-moved}

-- the cluster was made by the group at this place of the level before
abbrev pub is_from : ℕ → LevelCluster → Bool
is_from place cluster = is_maker place (maker_number 0 cluster.maker)

some_left : (level_clusters tris left error : ℕ) → is_terminal level_clusters tris left error ≡ false → 1 ≤ left
unfolding is_terminal
some_left level_clusters tris left error h =
    let last = or_parts (nat_lt level_clusters 2 || nat_lt left 1 || nat_lt (7 * tris) (8 * left))
    (nat_lt MAX_ERROR error) h in
    let third = or_parts (nat_lt level_clusters 2 || nat_lt left 1) (nat_lt (7 * tris) (8 * left)) last.0 in
    let second = or_parts (nat_lt level_clusters 2) (nat_lt left 1) third.0 in
    not_none left second.1
  where
    not_none : (n : ℕ) → nat_lt n 1 ≡ false → 1 ≤ n
    not_none n h = grind (arith, nat_tests)

some_list : {X : Type 0} (lists : List (List X)) → 1 ≤ length (flat_map (λ list. list) lists) → 1 ≤ length lists
some_list [] h = absurd (omega arith)
some_list (list ∷ lists) h = omega arith

-- what isn't terminal made a cluster
pub made-some : (size level_clusters : ℕ) (group : LevelGroup) → IsOutcome size level_clusters group →
    group.terminal ≡ false →
    1 ≤ length group.made
made-some size level_clusters group is off =
    let left : List Tagged = map tagged_of is.kept in
    let cut : AreCut size left group.made = subst (λ b. AreMade size b left group.made) off is.made in
    let total = cut-total size left group.made cut in
    let len = length-map is.kept tagged_of in
    let some = some_left level_clusters (length (tris_in group.members)) (length is.kept)
    (moved_of is.kept + greatest_error group.members)
    (sym is.terminal ∙ off) in
    some_list group.made (omega arith)

first-from : (place : ℕ) (maker : Maker) (made : List (List Tagged)) (rest : List LevelCluster) → maker.group ≡ place →
    1 ≤ length made → list_any (is_from place) (map (λ tris. record { tris = tris; maker = Some maker }) made ++ rest)
    ≡ true
first-from place maker [] rest same h = absurd (omega arith)
first-from place maker (leaf ∷ made) rest same h =
    or_left (0 + maker.group == place) (list_any (is_from place) (map
    (λ tris. record { tris = tris; maker = Some maker }) made ++ rest))
    (eq-eqb (0 + maker.group) place (zero-add maker.group ∙ same))

pub from-made : (size level_clusters place p : ℕ) (groups : List LevelGroup) →
    All (IsOutcome size level_clusters) groups → p < length groups →
    (group_of_level groups p).terminal ≡ false → list_any (is_from (place + p)) (made_from place groups) ≡ true
unfolding made_from
from-made size level_clusters place p [] all below off = absurd (omega arith)
from-made size level_clusters place zero (group ∷ groups) all below off =
    let P : LevelGroup → Type 0 = IsOutcome size level_clusters in
    let maker : Maker = record { group = place; error = group.error; cube = group.cube } in
    first-from (place + 0) maker group.made (made_from (place + 1) groups) (omega arith)
    (made-some size level_clusters group (All-head P group groups all) off)
from-made size level_clusters place (suc p) (group ∷ groups) all below off =
    let P : LevelGroup → Type 0 = IsOutcome size level_clusters in
    let same : place + 1 + p ≡ place + suc p = omega arith in
    let rest = from-made size level_clusters (place + 1) p groups (All-tail P group groups all) (omega arith) off in
    list_any-append (is_from (place + suc p)) (clusters_of place group) (made_from (place + 1) groups)
    ∙ or_right (list_any (is_from (place + suc p)) (clusters_of place group)) (list_any (is_from (place + suc p))
    (made_from (place + 1) groups))
    (subst (λ n. list_any (is_from n) (made_from (place + 1) groups) ≡ true) same rest)

-- the head's maker is the group of that number
pub head-made : (base place : ℕ) (cluster : LevelCluster) → is_made_by (base + place)
    (head_of base cluster) ≡ is_from place cluster
head-made base place cluster = go cluster.maker
  where
    same_tests : (a b : ℕ) → (base + a == base + b) ≡ (0 + a == b)
    same_tests a b = grind (arith, nat_tests)

    go : (maker : Option Maker) → is_maker (base + place) (maker_number base maker) ≡ is_maker place
        (maker_number 0 maker)
    go None = refl
    go (Some maker) = same_tests maker.group place

any-mapped : {X Y : Type 0} (test : Y → Bool) (f : X → Y) (xs : List X) →
    list_any test (map f xs) ≡ list_any (λ x. test (f x)) xs
any-mapped test f [] = refl
any-mapped test f (x ∷ xs) = ap (λ b. test (f x) || b) (any-mapped test f xs)

any-alike : {X : Type 0} (test other : X → Bool) (xs : List X) → ((x : X) → test x ≡ other x) →
    list_any test xs ≡ list_any other xs
any-alike test other [] same = refl
any-alike test other (x ∷ xs) same = ap (λ b. b || list_any test xs) (same x) ∙ ap (λ b. other x || b)
    (any-alike test other xs same)

any-moved : {X : Type 0} (test : X → Bool) (xs ys : List X) → IsPermutation xs ys → list_any test xs ≡ true →
    list_any test ys ≡ true
any-moved test xs ys moved any =
    let found : Passes test xs = list_any-true test xs any in
    let there = Contains-permutation xs ys found.item moved found.among in
    list_any_at test ys there.0 found.item there.1 (ap test there.2 ∙ found.passes)

pub any-none : {X : Type 0} (test : X → Bool) (xs : List X) → xs ≡ [] → list_any test xs ≡ true → ⊥
any-none test xs none any = false≢true (sym (ap (list_any test) none) ∙ any)

next-made : (sizes : Sizes) (level_clusters p : ℕ) (groups : List LevelGroup) (levels : List (List LevelGroup)) →
    All (IsOutcome sizes.cluster level_clusters) groups → AreLevels sizes (next_clusters groups) levels →
    p < length groups →
    (group_of_level groups p).terminal ≡ false → list_any (is_made_by (length (groups_in levels) + p))
    (clusters_in levels) ≡ true
unfolding AreLevels clusters_in
next-made sizes level_clusters p groups [] all levels below off =
    absurd (any-none (is_from (0 + p)) (next_clusters groups) levels
    (from-made sizes.cluster level_clusters 0 p groups all below off))
next-made sizes level_clusters p groups (next ∷ rest) all levels below off =
    let from = subst (λ n. list_any (is_from n) (next_clusters groups) ≡ true) (zero-add p)
    (from-made sizes.cluster level_clusters 0 p groups all below off) in
    let moved = members-moved sizes.group (next_clusters groups) next levels.1.0.grouped in
    let there = any-moved (is_from p) (next_clusters groups) (members_in next) moved from in
    let base : ℕ = length (groups_in (next ∷ rest)) in
    let test : ClusterHead → Bool = is_made_by (base + p) in
    list_any-append test (clusters_in rest) (map (head_of base) (members_in next))
    ∙ or_right (list_any test (clusters_in rest)) (list_any test (map (head_of base) (members_in next)))
    (any-mapped test (head_of base) (members_in next)
    ∙ (any-alike (λ cluster. test (head_of base cluster)) (is_from p) (members_in next) (head-made base p) ∙ there))

-- each group that isn't terminal made a cluster
pub has-made : (sizes : Sizes) (clusters : List LevelCluster) (levels : List (List LevelGroup)) (g : ℕ) →
    AreLevels sizes clusters levels →
    g < length (groups_in levels) → (group_of_level (groups_in levels) g).terminal ≡ false →
    list_any (is_made_by g) (clusters_in levels) ≡ true
unfolding AreLevels clusters_in groups_in
has-made sizes clusters [] g levels below off = absurd (omega arith)
has-made sizes clusters (groups ∷ rest) g levels below off =
    let later : List LevelGroup = groups_in rest in
    let heads : List ClusterHead = map (head_of (length (later ++ groups))) (members_in groups) in
    let len = length-append later groups in
    list_any-append (is_made_by g) (clusters_in rest) heads
    ∙ or_left (list_any (is_made_by g) (clusters_in rest)) (list_any (is_made_by g) heads)
    (elim (cases_lt g (length later)) [
      | inl there ↦
          has-made sizes (next_clusters groups) rest g levels.1.1 there
          (sym (ap (λ (group : LevelGroup). group.terminal) (get_or_append_left later groups no_level_group g there))
          ∙ off)
      | inr here ↦
          let p : ℕ = g - length later in
          let same : length later + p ≡ g = omega arith in
          let at : group_of_level (later ++ groups) g ≡ group_of_level groups p =
          ap (group_of_level (later ++ groups)) (sym same) ∙ get_or-append-add later groups p no_level_group in
          subst (λ n. list_any (is_made_by n) (clusters_in rest) ≡ true) same
          (next-made sizes (length clusters) p groups rest levels.1.0.outcomes levels.1.1 (omega arith)
          (sym (ap (λ (group : LevelGroup). group.terminal) at) ∙ off))
    ])

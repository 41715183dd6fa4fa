-- The numbers of groups and of their members; a DAG of levels keeps rule 1.
use Rattle.std.proofs.Common.{◌≡◌, ◌∙◌, ◌<◌, ◌≤◌, ◌+◌, ◌-◌, inl, inr, zero-add, ℕ, zero, suc, List, [], ◌∷◌, ◌++◌}
use Rattle.std.proofs.Common.{length, take, get_or, sum_by, refl, sym, ap, arith}
use Rattle.std.proofs.lemmas.Bool.{cases_lt}
use Rattle.std.proofs.lemmas.List.{length-append}
use Rattle.std.proofs.lemmas.List.Concat.{get_or-flat_map}
use Rattle.std.proofs.lemmas.List.Sums.{sum_by-cons}
use Rattle.dag_core.specs.declared.groups.Group.{Group}
use Rattle.dag_core.specs.declared.heads.Heads.{Heads}
use Rattle.dag_core.specs.Members.{group_at, home, no_group}
use Rattle.dag_core.specs.Rules.{breaks_members, members_before}
use Rattle.dag_core.proofs.MemberLaws.{AreMembersInTurn, home_is}
use Rattle.dag_core.proofs.PlaceLaws.{none_at_all}
use Rattle.dag_core.proofs.RuleLaws.{members_at, members_from}
use Rattle.dag_build.specs.declared.level_clusters.LevelCluster.{LevelCluster}
use Rattle.dag_build.specs.Grouping.{no_cluster}
use Rattle.dag_build.specs.Levels.{LevelGroup}
use Rattle.dag_build.specs.Numbers.{clusters_in, group_head, groups_in, heads_from, members_in}
use Rattle.dag_build.proofs.GoodClusters.{group_of_level, no_level_group}
use Rattle.dag_build.proofs.NumberLaws.{clusters_in-length, heads-length}

-- ---- groups

members_of_group : LevelGroup → List LevelCluster
members_of_group group = group.members

-- the number of the first member of the group at this place, where the first group's is 0
abbrev pub first_at : List LevelGroup → ℕ → ℕ
first_at groups g = length (members_in (take g groups))

pub head-at : (first : ℕ) (groups : List LevelGroup) (g : ℕ) → g < length groups →
    get_or (heads_from first groups) g no_group ≡ group_head (first + first_at groups g) (group_of_level groups g)
unfolding heads_from
head-at first [] g below = absurd (omega arith)
head-at first (group ∷ groups) zero below =
    let same : first ≡ first + 0 = omega arith in
    ap (λ n. group_head n group) same
head-at first (group ∷ groups) (suc g) below =
    let len = length-append group.members (members_in (take g groups)) in
    let same : first + length group.members + first_at groups g ≡ first + length (group.members ++ members_in
    (take g groups)) = omega arith in
    head-at (first + length group.members) groups g (omega arith)
    ∙ ap (λ n. group_head n (group_of_level groups g)) same

counts-before : (first : ℕ) (groups : List LevelGroup) (g : ℕ) →
    sum_by (λ group. group.count) (take g (heads_from first groups)) ≡ first_at groups g
unfolding heads_from
counts-before first [] zero = refl
counts-before first [] (suc g) = refl
counts-before first (group ∷ groups) zero = refl
counts-before first (group ∷ groups) (suc g) =
    let next : ℕ = first + length group.members in
    sum_by-cons (λ (one : Group). one.count) (group_head first group) (take g (heads_from next groups))
    ∙ (ap (λ n. length group.members + n) (counts-before next groups g)
    ∙ sym (length-append group.members (members_in (take g groups))))

first_at-all : (groups : List LevelGroup) (g : ℕ) → length groups ≤ g → first_at groups g ≡ length (members_in groups)
first_at-all [] zero beyond = refl
first_at-all [] (suc g) beyond = refl
first_at-all (group ∷ groups) zero beyond = absurd (omega arith)
first_at-all (group ∷ groups) (suc g) beyond =
    length-append group.members (members_in (take g groups))
    ∙ (ap (λ n. length group.members + n) (first_at-all groups g (omega arith))
    ∙ sym (length-append group.members (members_in groups)))

-- heads with the groups and clusters of these levels
pub record AreHeadsOf (levels : List (List LevelGroup)) (heads : Heads) : Type 0 where
  pub groups : heads.groups ≡ heads_from 0 (groups_in levels)
  pub clusters : heads.clusters ≡ clusters_in levels

pub group-at : (levels : List (List LevelGroup)) (heads : Heads) (g : ℕ) → AreHeadsOf levels heads →
    g < length (groups_in levels) →
    group_at heads g ≡ group_head (first_at (groups_in levels) g) (group_of_level (groups_in levels) g)
group-at levels heads g are below =
    let gs = groups_in levels in
    ap (λ list. get_or list g no_group) are.groups
    ∙ (head-at 0 gs g below ∙ ap (λ n. group_head n (group_of_level gs g)) (zero-add (first_at gs g)))

pub group-count : (levels : List (List LevelGroup)) (heads : Heads) → AreHeadsOf levels heads →
    length heads.groups ≡ length (groups_in levels)
group-count levels heads are = ap length are.groups ∙ heads-length 0 (groups_in levels)

pub cluster-count : (levels : List (List LevelGroup)) (heads : Heads) → AreHeadsOf levels heads →
    length heads.clusters ≡ length (members_in (groups_in levels))
cluster-count levels heads are = ap length are.clusters ∙ clusters_in-length levels

before-is : (levels : List (List LevelGroup)) (heads : Heads) (g : ℕ) → AreHeadsOf levels heads →
    members_before heads g ≡ first_at (groups_in levels) g
unfolding members_before
before-is levels heads g are =
    ap (λ list. sum_by (λ (group : Group). group.count) (take g list)) are.groups ∙ counts-before 0 (groups_in levels) g

-- rule 1
pub in-turn : (levels : List (List LevelGroup)) (heads : Heads) → AreHeadsOf levels heads → AreMembersInTurn heads
in-turn levels heads are =
    let gs = groups_in levels in
    let count = group-count levels heads are in
    let all : members_before heads (length heads.groups) ≡ length heads.clusters =
    before-is levels heads (length heads.groups) are ∙ (first_at-all gs (length heads.groups) (omega arith) ∙ sym
    (cluster-count levels heads are)) in
    none_at_all (breaks_members heads) (length heads.groups)
    (λ g below. members_at heads g below
    (ap (λ (group : Group). group.first) (group-at levels heads g are (omega arith)) ∙ sym
    (before-is levels heads g are)))
    (λ g beyond. members_from heads g all beyond)

-- ---- members

-- the group and the place in it of the k-th member
pub record IsMemberAt (groups : List LevelGroup) (k : ℕ) : Type 0 where
  pub group : ℕ
  pub item : ℕ
  pub within : group < length groups
  pub item_within : item < length (group_of_level groups group).members
  pub number : k ≡ first_at groups group + item

pub member-at : (groups : List LevelGroup) (k : ℕ) → k < length (members_in groups) → IsMemberAt groups k
member-at [] k below = absurd (omega arith)
member-at (group ∷ groups) k below =
    let len = length-append group.members (members_in groups) in
    elim (cases_lt k (length group.members)) [
      | inl here ↦ record {
        group = 0;
        item = k;
        within = omega arith;
        item_within = here;
        number = omega arith;
      }
      | inr later ↦
          let rest = member-at groups (k - length group.members) (omega arith) in
          let parts = length-append group.members (members_in (take rest.group groups)) in
          record {
            group = suc rest.group;
            item = rest.item;
            within = omega (arith, rest.within);
            item_within = rest.item_within;
            number = omega (arith, rest.number);
          }
    ]

-- the member is the cluster of its number
pub member-is : (groups : List LevelGroup) (g i : ℕ) → g < length groups →
    i < length (group_of_level groups g).members →
    get_or (members_in groups) (first_at groups g + i) no_cluster ≡ get_or
    (group_of_level groups g).members i no_cluster
member-is groups g i within inside =
    get_or-flat_map (λ (group : LevelGroup). group.members) groups g i no_level_group no_cluster within inside

-- a member's number is that of a cluster
pub member-below : (groups : List LevelGroup) (g i : ℕ) → g < length groups →
    i < length (group_of_level groups g).members →
    first_at groups g + i < length (members_in groups)
member-below [] g i within inside = absurd (omega arith)
member-below (group ∷ groups) zero i within inside =
    let len = length-append group.members (members_in groups) in omega arith
member-below (group ∷ groups) (suc g) i within inside =
    let len = length-append group.members (members_in groups) in
    let parts = length-append group.members (members_in (take g groups)) in
    let rest = member-below groups g i (omega arith) inside in
    omega arith

-- the home of a member
pub home-at : (levels : List (List LevelGroup)) (heads : Heads) (g i : ℕ) → AreHeadsOf levels heads →
    g < length (groups_in levels) →
    i < length (group_of_level (groups_in levels) g).members → home heads (first_at (groups_in levels) g + i) ≡ g
home-at levels heads g i are within inside =
    let gs = groups_in levels in
    let here = group-at levels heads g are within in
    let first : (group_at heads g).first ≡ first_at gs g = ap (λ (group : Group). group.first) here in
    let count : (group_at heads g).count ≡ length (group_of_level gs g).members = ap (λ
    (group : Group). group.count) here in
    let groups = group-count levels heads are in
    home_is heads g (first_at gs g + i) (in-turn levels heads are) (omega arith) (omega arith) (omega arith)

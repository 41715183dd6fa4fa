-- The number of a group's triangles: at least one, and at most those of eight full clusters.
use Rattle.std.proofs.Common.{◌≡◌, ℕ, zero, suc, ◌+◌, ◌*◌, ◌<◌, ◌≤◌, List, [], ◌∷◌, length, get_or, IsTrue, sym, ap}
use Rattle.std.proofs.Common.{◌∙◌, arith, add-one}
use Rattle.std.specs.List.{range_with_len, sum_by}
use Rattle.std.proofs.lemmas.Bool.Decides.{nat_tests}
use Rattle.std.proofs.lemmas.List.Elements.{All-get_or}
use Rattle.std.proofs.lemmas.List.Sums.{sum_by-append}
use Rattle.dag_core.specs.declared.groups.Group.{Group}
use Rattle.dag_core.specs.declared.heads.Heads.{Heads}
use Rattle.dag_core.specs.Members.{group_at, cluster_at, no_cluster, no_group}
use Rattle.dag_core.specs.Ranges.{IsInRange, IsClusterInRange, counts_of, is_count_to}
use Rattle.dag_core.specs.Rules.{KeepsRulesBelow}
use Rattle.dag_core.proofs.MemberLaws.{in_turn, first_is, members_more, members_rise_to, members_are_all}
use Rattle.dag_core.proofs.RangeLaws.{group_bounds}
use Rattle.page_codec.proofs.Homes.{range-append}
use Rattle.page_file.specs.PagesRule.{group_size}

pub fewer : (heads : Heads) (n m : ℕ) → m ≤ n → KeepsRulesBelow n heads → KeepsRulesBelow m heads
fewer heads n m less kept = λ rule index below. kept rule index (omega arith)

-- a group's members are clusters of the heads
pub members_within : (heads : Heads) → KeepsRulesBelow 5 heads → (g : ℕ) → g < length heads.groups →
    (group_at heads g).first + (group_at heads g).count ≤ length heads.clusters
members_within heads kept g below =
    let turn = in_turn heads (fewer heads 5 2 (omega arith) kept) in
    omega (
      arith,
      first_is heads g turn below,
      members_more heads g below,
      members_rise_to heads (g + 1) (length heads.groups) (omega arith) (omega arith),
      members_are_all heads turn,
    )

-- the triangles of clusters that follow one another
abbrev pub tris_from : Heads → ℕ → ℕ → ℕ
tris_from heads first count = sum_by (λ c. (cluster_at heads c).tris) (range_with_len first count)

pub tris_from-more : (heads : Heads) (first count : ℕ) →
    tris_from heads first (count + 1) ≡ tris_from heads first count + (cluster_at heads (first + count)).tris
tris_from-more heads first count =
    let f : ℕ → ℕ = λ c. (cluster_at heads c).tris in
    ap (sum_by f) (range-append first count 1)
    ∙ sum_by-append f (range_with_len first count) ((first + count) ∷ [])
    ∙ ap (λ n. tris_from heads first count + n) (omega arith)

count_parts : (most n : ℕ) → IsTrue (is_count_to most n) → (1 ≤ n) × (n ≤ most)
count_parts most n is = (grind (arith, nat_tests), grind (arith, nat_tests))

-- a cluster has 1 to 128 triangles
pub cluster_size : (heads : Heads) (c : ℕ) → IsInRange heads → c < length heads.clusters →
    (1 ≤ (cluster_at heads c).tris) × ((cluster_at heads c).tris ≤ 128)
cluster_size heads c range below =
    count_parts 128 (cluster_at heads c).tris
    (All-get_or (IsClusterInRange (counts_of heads)) heads.clusters c no_cluster below range.clusters).size

pub tris_from-bounds : (heads : Heads) → IsInRange heads → (first count : ℕ) → first + count ≤ length heads.clusters →
    (count ≤ tris_from heads first count) × (tris_from heads first count ≤ 128 * count)
tris_from-bounds heads range first zero within = (omega arith, omega arith)
tris_from-bounds heads range first (suc count) within =
    let before = tris_from-bounds heads range first count (omega arith) in
    let size = cluster_size heads (first + count) range (omega arith) in
    let more : tris_from heads first (suc count) ≡ tris_from heads first count +
    (cluster_at heads (first + count)).tris =
    ap (tris_from heads first) (sym (add-one count)) ∙ tris_from-more heads first count in
    (omega (arith, before.0, size.0, more), omega (arith, before.1, size.1, more))

-- a group has 1 to 1,024 triangles
pub group_size-bounds : (heads : Heads) → IsInRange heads → KeepsRulesBelow 5 heads → (g : ℕ) →
    g < length heads.groups →
    (1 ≤ group_size heads g) × (group_size heads g ≤ 1024)
unfolding group_size
group_size-bounds heads range kept g below =
    let bounds = group_bounds heads g range below in
    let sums =
    tris_from-bounds heads range (group_at heads g).first (group_at heads g).count
    (members_within heads kept g below) in
    (omega (arith, sums.0, bounds.some_member), omega (arith, sums.1, bounds.count))

-- a group's size, counted by its members
pub group_size-is : (heads : Heads) (groups : List Group) (g size : ℕ) → groups ≡ heads.groups →
    size ≡ tris_from heads (get_or groups g no_group).first (get_or groups g no_group).count → size ≡ group_size heads g
unfolding group_size
group_size-is heads groups g size same counted =
    counted ∙ ap (λ gs. tris_from heads (get_or gs g no_group).first (get_or gs g no_group).count) same

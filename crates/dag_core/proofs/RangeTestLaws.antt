-- The tests of ranges are true exactly where the numbers keep their ranges.
use Rattle.std.proofs.Common.{◌≡◌, Bool, true, false, ◌&&◌, List, [], ◌∷◌, All, IsTrue, refl, arith, ap, sym, ◌∙◌}
use Rattle.std.proofs.lemmas.Bool.{and_parts, and_from, false≢true}
use Rattle.std.proofs.lemmas.Bool.Decides.{nat_tests}
use Rattle.std.proofs.lemmas.List.Elements.{All-nil, All-cons, All-head, All-tail}
use Rattle.std.specs.List.{list_all}
use Rattle.dag_core.specs.declared.groups.Group.{Group}
use Rattle.dag_core.specs.declared.cluster_heads.ClusterHead.{ClusterHead}
use Rattle.dag_core.specs.declared.counts.Counts.{Counts}
use Rattle.dag_core.specs.declared.heads.Heads.{Heads}
use Rattle.dag_core.specs.Ranges.{AreCountsInRange, IsClusterInRange, IsGroupInRange, IsInRange, are_members, counts_of}
use Rattle.dag_core.specs.Ranges.{is_cluster_size, is_count_in_range, is_error, is_group_box, is_group_or_none, is_page}
use Rattle.dag_core.specs.Internal.RangeTests.{are_counts_in_range, is_cluster_in_range, is_group_in_range}

-- the parts of a test of four and of five
pub record Five (a b c d e : Bool) : Type 0 where
  pub first : a ≡ true
  pub second : b ≡ true
  pub third : c ≡ true
  pub fourth : d ≡ true
  pub fifth : e ≡ true

five : (a b c d e : Bool) → (a && b && c && d && e) ≡ true → Five a b c d e
five true true true true true is = record { first = refl; second = refl; third = refl; fourth = refl; fifth = refl }
five false b c d e is = absurd (false≢true (grind (arith, nat_tests)))
five true false c d e is = absurd (false≢true (grind (arith, nat_tests)))
five true true false d e is = absurd (false≢true (grind (arith, nat_tests)))
five true true true false e is = absurd (false≢true (grind (arith, nat_tests)))
five true true true true false is = absurd (false≢true is)

counts_from : (counts : Counts) → are_counts_in_range counts ≡ true → AreCountsInRange counts
unfolding are_counts_in_range
counts_from counts is =
    let parts =
    five (is_count_in_range counts 0) (is_count_in_range counts 1) (is_count_in_range counts 2)
    (is_count_in_range counts 3) (is_count_in_range counts 4) is in
    record {
      groups = parts.first;
      clusters = parts.second;
      pages = parts.third;
      roots = parts.fourth;
      sources = parts.fifth;
    }

counts_to : (counts : Counts) → AreCountsInRange counts → are_counts_in_range counts ≡ true
unfolding are_counts_in_range
counts_to counts range = rw (range.groups, range.clusters, range.pages, range.roots, range.sources) refl

four : (a b c d : Bool) → (a && b && c && d) ≡ true → Five a b c d true
four true true true true is = record { first = refl; second = refl; third = refl; fourth = refl; fifth = refl }
four false b c d is = absurd (false≢true (grind (arith, nat_tests)))
four true false c d is = absurd (false≢true (grind (arith, nat_tests)))
four true true false d is = absurd (false≢true (grind (arith, nat_tests)))
four true true true false is = absurd (false≢true is)

group_from : (counts : Counts) (group : Group) → is_group_in_range counts group ≡ true → IsGroupInRange counts group
unfolding is_group_in_range
group_from counts group is =
    let parts =
    four (is_error group.error) (is_group_box group.cube) (is_page counts group.page)
    (are_members counts group.first group.count) is in
    record { error = parts.first; box = parts.second; page = parts.third; members = parts.fourth }

group_to : (counts : Counts) (group : Group) → IsGroupInRange counts group → is_group_in_range counts group ≡ true
unfolding is_group_in_range
group_to counts group range = rw (range.error, range.box, range.page, range.members) refl

cluster_from : (counts : Counts) (cluster : ClusterHead) → is_cluster_in_range counts cluster ≡ true →
    IsClusterInRange counts cluster
unfolding is_cluster_in_range
cluster_from counts cluster is =
    let parts = and_parts (is_cluster_size cluster.tris) (is_group_or_none counts cluster.made) is in
    record { maker = parts.1; size = parts.0 }

cluster_to : (counts : Counts) (cluster : ClusterHead) → IsClusterInRange counts cluster →
    is_cluster_in_range counts cluster ≡ true
unfolding is_cluster_in_range
cluster_to counts cluster range =
    and_from (is_cluster_size cluster.tris) (is_group_or_none counts cluster.made) range.size range.maker

pub all_from : {X : Type 0} (P : X → Type 0) (test : X → Bool) (xs : List X) → ((x : X) → test x ≡ true → P x) →
    list_all test xs ≡ true → All P xs
all_from {X} P test [] each all = All-nil P
all_from {X} P test (x ∷ xs) each all =
    let parts = and_parts (test x) (list_all test xs) all in
    All-cons P x xs (each x parts.0) (all_from P test xs each parts.1)

all_to : {X : Type 0} (P : X → Type 0) (test : X → Bool) (xs : List X) → ((x : X) → P x → test x ≡ true) → All P xs →
    list_all test xs ≡ true
all_to {X} P test [] each all = refl
all_to {X} P test (x ∷ xs) each all =
    and_from (test x) (list_all test xs) (each x (All-head P x xs all)) (all_to P test xs each (All-tail P x xs all))

-- the three tests of heads
pub record InRange (heads : Heads) : Type 0 where
  pub counts : are_counts_in_range (counts_of heads) ≡ true
  pub groups : list_all (is_group_in_range (counts_of heads)) heads.groups ≡ true
  pub clusters : list_all (is_cluster_in_range (counts_of heads)) heads.clusters ≡ true

pub range_from : (heads : Heads) → InRange heads → IsInRange heads
range_from heads tests = record {
  counts = counts_from (counts_of heads) tests.counts;
  groups =
      all_from (IsGroupInRange (counts_of heads)) (is_group_in_range (counts_of heads)) heads.groups
      (group_from (counts_of heads)) tests.groups;
  clusters =
      all_from (IsClusterInRange (counts_of heads)) (is_cluster_in_range (counts_of heads)) heads.clusters
      (cluster_from (counts_of heads)) tests.clusters;
}

pub range_to : (heads : Heads) → IsInRange heads → InRange heads
range_to heads range = record {
  counts = counts_to (counts_of heads) range.counts;
  groups =
      all_to (IsGroupInRange (counts_of heads)) (is_group_in_range (counts_of heads)) heads.groups
      (group_to (counts_of heads)) range.groups;
  clusters =
      all_to (IsClusterInRange (counts_of heads)) (is_cluster_in_range (counts_of heads)) heads.clusters
      (cluster_to (counts_of heads)) range.clusters;
}

pub not_counted : (heads : Heads) (counts : Counts) → counts ≡ counts_of heads → false ≡ are_counts_in_range counts →
    IsInRange heads → ⊥
not_counted heads counts same told range =
    false≢true (told ∙ (ap are_counts_in_range same ∙ (range_to heads range).counts))

pub not_grouped : (heads : Heads) (counts : Counts) (groups : List Group) → counts ≡ counts_of heads →
    groups ≡ heads.groups →
    false ≡ list_all (is_group_in_range counts) groups → IsInRange heads → ⊥
not_grouped heads counts groups same listed told range =
    false≢true (told ∙ (ap (λ (gs : List Group). list_all (is_group_in_range counts) gs) listed
    ∙ (ap (λ (k : Counts). list_all (is_group_in_range k) heads.groups) same ∙ (range_to heads range).groups)))

clustered : (heads : Heads) (counts : Counts) (clusters : List ClusterHead) (result : Bool) → counts ≡ counts_of heads →
    clusters ≡ heads.clusters →
    result ≡ list_all (is_cluster_in_range counts) clusters →
    result ≡ list_all (is_cluster_in_range (counts_of heads)) heads.clusters
clustered heads counts clusters result same listed told =
    told ∙ (ap (λ (cs : List ClusterHead). list_all (is_cluster_in_range counts) cs) listed
    ∙ ap (λ (k : Counts). list_all (is_cluster_in_range k) heads.clusters) same)

pub all_in_range : (heads : Heads) (counts : Counts) (groups : List Group) (clusters : List ClusterHead)
    (result : Bool) → counts ≡ counts_of heads →
    groups ≡ heads.groups → clusters ≡ heads.clusters → true ≡ are_counts_in_range counts →
    true ≡ list_all (is_group_in_range counts) groups →
    result ≡ list_all (is_cluster_in_range counts) clusters → (IsTrue result → IsInRange heads) ×
    (IsInRange heads → IsTrue result)
all_in_range heads counts groups clusters result same grouped listed counts_told groups_told told = (
  λ is. range_from heads (record {
    counts = sym (counts_told ∙ ap are_counts_in_range same);
    groups = sym (groups_told ∙ (ap (λ (gs : List Group). list_all (is_group_in_range counts) gs) grouped
        ∙ ap (λ (k : Counts). list_all (is_group_in_range k) heads.groups) same));
    clusters = sym (clustered heads counts clusters result same listed told) ∙ is;
  }),
  λ range. clustered heads counts clusters result same listed told ∙ (range_to heads range).clusters,
)

-- The ranges of heads as plain facts on numbers.
use Rattle.std.proofs.Common.{◌≡◌, ◌<◌, ◌≤◌, ℕ, length, IsTrue, Some, arith, subst}
use Rattle.std.proofs.lemmas.Bool.Decides.{nat_tests}
use Rattle.std.proofs.lemmas.List.Elements.{All-get_or}
use Rattle.geom_core.specs.declared.limits.TheConstants.{CLUSTERS_PER_GROUP, MAX_CLUSTERS, MAX_GROUPS, MAX_PAGES}
use Rattle.geom_core.specs.declared.limits.TheConstants.{TRIANGLES_PER_CLUSTER}
use Rattle.dag_core.specs.declared.groups.Group.{Group}
use Rattle.dag_core.specs.declared.heads.Heads.{Heads}
use Rattle.dag_core.specs.Members.{no_group, no_cluster, group_at, cluster_at}
use Rattle.dag_core.specs.Ranges.{IsClusterInRange, IsGroupInRange, IsInRange, counts_of, is_count_to, is_group_or_none}

-- the counts of heads, as bounds
pub record Sizes (heads : Heads) : Type 0 where
  pub groups : length heads.groups ≤ MAX_GROUPS
  pub some_group : 1 ≤ length heads.groups
  pub clusters : length heads.clusters ≤ MAX_CLUSTERS
  pub some_cluster : 1 ≤ length heads.clusters
  pub pages : heads.pages ≤ MAX_PAGES
  pub roots : heads.roots ≤ heads.pages

count_to : (most n : ℕ) → IsTrue (is_count_to most n) → n ≤ most
count_to most n is = grind (arith, nat_tests)

count_from : (most n : ℕ) → IsTrue (is_count_to most n) → 1 ≤ n
count_from most n is = grind (arith, nat_tests)

pub sizes_of : (heads : Heads) → IsInRange heads → Sizes heads
sizes_of heads range = record {
  groups = count_to MAX_GROUPS (length heads.groups) range.counts.groups;
  some_group = count_from MAX_GROUPS (length heads.groups) range.counts.groups;
  clusters = count_to MAX_CLUSTERS (length heads.clusters) range.counts.clusters;
  some_cluster = count_from MAX_CLUSTERS (length heads.clusters) range.counts.clusters;
  pages = count_to MAX_PAGES heads.pages range.counts.pages;
  roots = count_to heads.pages heads.roots range.counts.roots;
}

-- a group's numbers, as bounds
pub record GroupBounds (heads : Heads) (group : Group) : Type 0 where
  pub page : group.page < heads.pages
  pub first : group.first ≤ length heads.clusters
  pub some_member : 1 ≤ group.count
  pub count : group.count ≤ CLUSTERS_PER_GROUP

bounds_from : (heads : Heads) (group : Group) → IsGroupInRange (counts_of heads) group → GroupBounds heads group
bounds_from heads group range =
    let page : IsTrue _ = range.page in
    let members : IsTrue _ = range.members in
    record {
      page = grind (arith, nat_tests);
      first = grind (arith, nat_tests);
      some_member = grind (arith, nat_tests);
      count = grind (arith, nat_tests);
    }

pub group_bounds : (heads : Heads) (g : ℕ) → IsInRange heads → g < length heads.groups →
    GroupBounds heads (group_at heads g)
group_bounds heads g range below =
    bounds_from heads (group_at heads g) (All-get_or
    (IsGroupInRange (counts_of heads)) heads.groups g no_group below range.groups)

cluster_range : (heads : Heads) (c : ℕ) → IsInRange heads → c < length heads.clusters →
    IsClusterInRange (counts_of heads) (cluster_at heads c)
cluster_range heads c range below =
    All-get_or (IsClusterInRange (counts_of heads)) heads.clusters c no_cluster below range.clusters

pub tris_limit : (heads : Heads) (c : ℕ) → IsInRange heads → c < length heads.clusters →
    (cluster_at heads c).tris ≤ TRIANGLES_PER_CLUSTER
tris_limit heads c range below =
    count_to TRIANGLES_PER_CLUSTER (cluster_at heads c).tris (cluster_range heads c range below).size

maker_range : (heads : Heads) (m : ℕ) → IsTrue (is_group_or_none (counts_of heads) (Some m)) → m < length heads.groups
maker_range heads m is = grind (arith, nat_tests)

pub maker_below : (heads : Heads) (c m : ℕ) → IsInRange heads → c < length heads.clusters →
    (cluster_at heads c).made ≡ Some m → m < length heads.groups
maker_below heads c m range below made =
    maker_range heads m (subst (λ maker. IsTrue (is_group_or_none (counts_of heads) maker)) made
    (cluster_range heads c range below).maker)

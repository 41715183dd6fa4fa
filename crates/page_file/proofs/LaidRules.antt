-- Laid-out heads keep all their rules and ranges, so a laid-out DAG is laid out.
use Rattle.std.proofs.Common.{◌≡◌, ◌==◌, ℕ, zero, suc, ◌<◌, ◌≤◌, Bool, true, false, not, ◌&&◌, ◌||◌, cond, List, []}
use Rattle.std.proofs.Common.{◌∷◌, length, map, get_or, Option, None, Some, IsTrue, refl, sym, ap, ◌∙◌, subst, inl, inr}
use Rattle.std.proofs.Common.{arith, nat_lt}
use Rattle.std.specs.List.{All, list_any, range_with_len}
use Rattle.std.proofs.lemmas.Bool.{cases_lt, and_parts, true≢false, false≢true}
use Rattle.std.proofs.lemmas.Bool.Decides.{nat_tests}
use Rattle.std.proofs.lemmas.List.Elements.{All-get_or}
use Rattle.std.proofs.lemmas.List.Folds.{list_any_at}
use Rattle.dag_core.specs.declared.groups.Group.{Group}
use Rattle.dag_core.specs.declared.cluster_heads.ClusterHead.{ClusterHead}
use Rattle.dag_core.specs.declared.heads.Heads.{Heads}
use Rattle.dag_core.specs.declared.dags.Dag.{Dag}
use Rattle.dag_core.specs.Members.{no_group, no_cluster, group_at, cluster_at, home, is_maker, is_made_by}
use Rattle.dag_core.specs.Pages.{has_terminal_on, is_maker_on, page_of_cluster, tris_on, uppers_of}
use Rattle.dag_core.specs.Ranges.{AreCountsInRange, IsClusterInRange, IsGroupInRange, IsInRange, counts_of, is_count_to}
use Rattle.dag_core.specs.Rules.{Checked, KeepsRulesBelow, breaks_page, has_made, is_maker_at_most}
use Rattle.dag_core.specs.TriangleRules.{CanBeLaidOut, IsLaidOut, IsSourcedTriangle}
use Rattle.dag_core.specs.Internal.Tables.{has_later_upper, is_bad_page}
use Rattle.dag_core.proofs.ListSteps.{range_found}
use Rattle.dag_core.proofs.MemberLaws.{in_turn, home_below}
use Rattle.dag_core.proofs.RangeLaws.{sizes_of, maker_below}
use Rattle.dag_core.proofs.RuleLaws.{maker_at, page_at, page_beyond, terminal_at}
use Rattle.dag_core.proofs.TableLaws.{has_later_upper-is, is_made_for_later}
use Rattle.dag_core.proofs.TwoSquaresLaws.{checked_from}
use Rattle.dag_core.proofs.UpperLaws.{later_upper}
use Rattle.page_file.specs.PagesRule.{is_terminal, root_count, page_count, page_of_group, laid_group, laid_heads}
use Rattle.page_file.specs.PagesRule.{laid_out}
use Rattle.page_file.proofs.GroupSizes.{fewer, group_size-bounds}
use Rattle.page_file.proofs.LaidHeads.{laid_at, laid_bound, laid_clusters, laid_count, laid_in_turn, laid_maker}
use Rattle.page_file.proofs.LaidHeads.{laid_terminal, same_cluster, same_home}
use Rattle.page_file.proofs.LaidPages.{other-from, other-order, page-below, page-fits, page_count-le, root-below}
use Rattle.page_file.proofs.LaidPages.{roots-first}

-- ---- makers

-- the group that a maker on page p is
record MadeBy (heads : Heads) (p : ℕ) (made : Option ℕ) : Type 0 where
  group : ℕ
  is : made ≡ Some group
  page : (group_at heads group).page ≡ p

made_on : (heads : Heads) (p : ℕ) (made : Option ℕ) → is_maker_on heads p made ≡ true → MadeBy heads p made
made_on heads p None is = absurd (false≢true is)
made_on heads p (Some m) is = record { group = m; is = refl; page = grind (arith, nat_tests) }

-- a maker has made a cluster
maker_made : (heads : Heads) (c m : ℕ) → c < length heads.clusters → (cluster_at heads c).made ≡ Some m →
    has_made heads m ≡ true
unfolding has_made
maker_made heads c m below made =
    list_any_at (is_made_by m) heads.clusters c no_cluster below (ap (is_maker m) made ∙ self)
  where
    self : (m == m) ≡ true
    self = grind (arith, nat_tests)

-- so it is not terminal
maker_inner : (heads : Heads) → KeepsRulesBelow 5 heads → (m : ℕ) → m < length heads.groups → has_made heads m ≡ true →
    is_terminal heads m ≡ false
maker_inner heads kept m below made =
    by (is_terminal heads m) (sym (ap (λ b. cond (is_terminal heads m) b (not b)) made) ∙
    sym (terminal_at heads m below) ∙ kept 3 m (omega arith))
  where
    by : (b : Bool) → cond b true false ≡ false → b ≡ false
    by true rule = absurd (true≢false rule)
    by false rule = refl

-- and it comes after the home of what it made
home_before : (heads : Heads) → KeepsRulesBelow 5 heads → (c m : ℕ) → c < length heads.clusters →
    (cluster_at heads c).made ≡ Some m → home heads c < m
home_before heads kept c m below made =
    let rule : is_maker_at_most (home heads c) (Some m) ≡ false =
    sym (ap (is_maker_at_most (home heads c)) made) ∙ sym (maker_at heads c below) ∙ kept 2 c (omega arith) in
    grind (arith, nat_tests)

-- ---- group 0 is terminal

-- a cluster that passes a test
record Found (test : ClusterHead → Bool) (clusters : List ClusterHead) : Type 0 where
  place : ℕ
  below : place < length clusters
  passes : test (get_or clusters place no_cluster) ≡ true

found_in : (test : ClusterHead → Bool) (clusters : List ClusterHead) → list_any test clusters ≡ true →
    Found test clusters
found_in test [] any = absurd (false≢true any)
found_in test (cluster ∷ clusters) any = by (test cluster) refl (found_in test clusters)
  where
    by : (b : Bool) → test cluster ≡ b → (list_any test clusters ≡ true → Found test clusters) →
        Found test (cluster ∷ clusters)
    by true is rest = record { place = 0; below = omega arith; passes = is }
    by false is rest =
        let found = rest (sym (ap (λ b. b || list_any test clusters) is) ∙ any) in
        record { place = suc found.place; below = omega (arith, found.below); passes = found.passes }

made_by_group : (m : ℕ) (made : Option ℕ) → is_maker m made ≡ true → made ≡ Some m
made_by_group m None is = absurd (false≢true is)
made_by_group m (Some k) is = let same : k ≡ m = grind (arith, nat_tests) in ap Some same

first_made : (heads : Heads) → KeepsRulesBelow 5 heads → has_made heads 0 ≡ true → ⊥
unfolding has_made
first_made heads kept made =
    let found = found_in (is_made_by 0) heads.clusters made in
    let before =
    home_before heads kept found.place 0 found.below
    (made_by_group 0 (cluster_at heads found.place).made found.passes) in
    omega (arith, before)

first_terminal : (heads : Heads) → KeepsRulesBelow 5 heads → 0 < length heads.groups → is_terminal heads 0 ≡ true
first_terminal heads kept some =
    by (is_terminal heads 0) (has_made heads 0) (sym (terminal_at heads 0 some) ∙ kept 3 0 (omega arith))
    (first_made heads kept)
  where
    by : (terminal made : Bool) → cond terminal made (not made) ≡ false → (made ≡ true → ⊥) → terminal ≡ true
    by true made rule none = refl
    by false true rule none = absurd (none refl)
    by false false rule none = absurd (true≢false rule)

pub some_root : (heads : Heads) → IsInRange heads → KeepsRulesBelow 5 heads → 1 ≤ root_count heads
some_root heads range kept =
    let sizes = sizes_of heads range in
    let below : 0 < length heads.groups = omega (arith, sizes.some_group) in
    omega (
      arith,
      root-below heads 0 below (first_terminal heads kept below)
          (group_size-bounds heads range kept 0 below).0,
    )

-- ---- terminal groups stand on root pages

none_of : (test : Group → Bool) (groups : List Group) →
    ((g : ℕ) → g < length groups → test (get_or groups g no_group) ≡ false) → list_any test groups ≡ false
none_of test [] fails = refl
none_of test (group ∷ groups) fails =
    rw (fails 0 (omega arith)) (none_of test groups (λ g below. fails (suc g) (omega (arith, below))))

root_only : (heads : Heads) → IsInRange heads → KeepsRulesBelow 5 heads → (p : ℕ) → root_count heads ≤ p →
    has_terminal_on (laid_heads heads) p ≡ false
unfolding has_terminal_on
root_only heads range kept p beyond =
    none_of (λ group. group.terminal && group.page == p) (laid_heads heads).groups (λ g within.
    let below : g < length heads.groups = omega (arith, within, laid_count heads) in
    ap (λ (group : Group). group.terminal && group.page == p) (laid_at heads g below)
    ∙ by (is_terminal heads g) (page_of_group heads g)
    (λ is. root-below heads g below is (group_size-bounds heads range kept g below).0))
  where
    by : (b : Bool) (page : ℕ) → (b ≡ true → page < root_count heads) → (b && page == p) ≡ false
    by true page lower = let less = lower refl in grind (arith, nat_tests)
    by false page lower = refl

-- ---- no page depends on a later one

-- a maker's page is no lesser than that of the home of what it made
maker_page : (heads : Heads) → IsInRange heads → KeepsRulesBelow 5 heads → (c m : ℕ) → c < length heads.clusters →
    (cluster_at heads c).made ≡ Some m →
    page_of_group heads (home heads c) ≤ page_of_group heads m
maker_page heads range kept c m below made =
    let turn = in_turn heads (fewer heads 5 2 (omega arith) kept) in
    let group = maker_below heads c m range below made in
    let inner = maker_inner heads kept m group (maker_made heads c m below made) in
    let before = home_before heads kept c m below made in
    let within = home_below heads c turn below in
    by (is_terminal heads (home heads c)) refl inner group before within
  where
    by : (b : Bool) → is_terminal heads (home heads c) ≡ b → is_terminal heads m ≡ false → m < length heads.groups →
        home heads c < m → home heads c < length heads.groups →
        page_of_group heads (home heads c) ≤ page_of_group heads m
    by true is inner group before within =
        omega (
          arith,
          root-below heads (home heads c) within is (group_size-bounds heads range kept (home heads c) within).0,
          other-from heads m inner (group_size-bounds heads range kept m group).0,
        )
    by false is inner group before within = other-order heads (home heads c) m (omega (arith, before)) is inner

later_is : (p q : ℕ) → nat_lt p q ≡ true → p < q
later_is p q is = grind (arith, nat_tests)

none_later : (heads : Heads) → IsInRange heads → KeepsRulesBelow 5 heads → (p : ℕ) →
    has_later_upper (laid_heads heads) p ≡ false
none_later heads range kept p = by (has_later_upper (laid_heads heads) p) refl
  where
    by : (b : Bool) → has_later_upper (laid_heads heads) p ≡ b → b ≡ false
    by false is = refl
    by true is =
        let laid = laid_heads heads in
        let turn = in_turn heads (fewer heads 5 2 (omega arith) kept) in
        let found =
        range_found (is_made_for_later laid p) (length laid.clusters) (sym (has_later_upper-is laid p) ∙ is) in
        let c = found.number in
        let below : c < length heads.clusters = omega (arith, found.below, ap length (laid_clusters heads)) in
        let parts =
        and_parts (is_maker_on laid p (cluster_at laid c).made) (nat_lt p (page_of_cluster laid c)) found.passes in
        let by_group = made_on laid p (cluster_at laid c).made parts.0 in
        let made : (cluster_at heads c).made ≡ Some by_group.group =
        sym (ap (λ (cluster : ClusterHead). cluster.made) (same_cluster heads c)) ∙ by_group.is in
        let m_below = maker_below heads c by_group.group range below made in
        let order = maker_page heads range kept c by_group.group below made in
        let h_below = home_below heads c turn below in
        let upper : page_of_cluster laid c ≡ page_of_group heads (home heads c) =
        ap (λ h. (group_at laid h).page) (same_home heads c turn below) ∙
        ap (λ (group : Group). group.page) (laid_at heads (home heads c) h_below) in
        let lower : page_of_group heads by_group.group ≡ p =
        sym (ap (λ (group : Group). group.page) (laid_at heads by_group.group m_below)) ∙ by_group.page in
        let later : p < page_of_cluster laid c = later_is p (page_of_cluster laid c) parts.1 in
        absurd (omega (arith, order, upper, lower, later))

-- ---- the ranges

in_count : (most n : ℕ) → 1 ≤ n → n ≤ most → IsTrue (is_count_to most n)
in_count most n some less = grind (arith, nat_tests)

moved_range : (heads : Heads) (group : Group) (pages roots page : ℕ) → IsGroupInRange (counts_of heads) group →
    page < pages →
    IsGroupInRange (record (counts_of heads) { pages = pages; roots = roots }) (record group { page = page })
moved_range heads group pages roots page range below = record {
  error = range.error;
  box = range.box;
  page = lesser page pages below;
  members = range.members;
}
  where
    lesser : (n m : ℕ) → n < m → nat_lt n m ≡ true
    lesser n m less = grind (arith, nat_tests)

-- the counts of laid-out heads
laid_counts : (heads : Heads) → counts_of (laid_heads heads) ≡ record
    (counts_of heads) { pages = page_count heads; roots = root_count heads }
unfolding laid_heads
laid_counts heads =
    ap (λ n. record (counts_of heads) { groups = n; pages = page_count heads; roots = root_count heads })
    (laid_count heads)

counts_in_range : (heads : Heads) → IsInRange heads → KeepsRulesBelow 5 heads →
    AreCountsInRange (record (counts_of heads) { pages = page_count heads; roots = root_count heads })
counts_in_range heads range kept =
    let sizes = sizes_of heads range in
    let root = some_root heads range kept in
    record {
      groups = range.counts.groups;
      clusters = range.counts.clusters;
      pages =
          in_count 8388608 (page_count heads) (omega (arith, root, roots-first heads))
          (omega (arith, page_count-le heads, sizes.groups));
      roots = in_count (page_count heads) (root_count heads) root (roots-first heads);
      sources = range.counts.sources;
    }

groups_in_range : (heads : Heads) → IsInRange heads → KeepsRulesBelow 5 heads →
    All (IsGroupInRange (record (counts_of heads) { pages = page_count heads; roots = root_count heads }))
    (laid_heads heads).groups
groups_in_range heads range kept g d within =
    let below : g < length heads.groups = omega (arith, within, laid_count heads) in
    let counts = record (counts_of heads) { pages = page_count heads; roots = root_count heads } in
    subst (IsGroupInRange counts) (sym (any_default (laid_heads heads).groups g d within ∙ laid_at heads g below))
    (moved_range heads (group_at heads g) (page_count heads) (root_count heads) (page_of_group heads g)
    (All-get_or (IsGroupInRange (counts_of heads)) heads.groups g no_group below range.groups)
    (page-below heads g below (group_size-bounds heads range kept g below).0))
  where
    any_default : (groups : List Group) (k : ℕ) (d : Group) → k < length groups →
        get_or groups k d ≡ get_or groups k no_group
    any_default [] k d below = absurd (omega (arith, below))
    any_default (group ∷ groups) zero d below = refl
    any_default (group ∷ groups) (suc k) d below = any_default groups k d (omega (arith, below))

clusters_in_range : (heads : Heads) → IsInRange heads →
    All (IsClusterInRange (record (counts_of heads) { pages = page_count heads; roots = root_count heads }))
    heads.clusters
clusters_in_range heads range c d below =
    let known = range.clusters c d below in record { maker = known.maker; size = known.size }

pub laid_range : (heads : Heads) → IsInRange heads → KeepsRulesBelow 5 heads → IsInRange (laid_heads heads)
laid_range heads range kept = record {
  counts = subst AreCountsInRange (sym (laid_counts heads)) (counts_in_range heads range kept);
  groups =
      subst (λ counts. All (IsGroupInRange counts) (laid_heads heads).groups) (sym (laid_counts heads))
      (groups_in_range heads range kept);
  clusters = subst (λ counts. All (IsClusterInRange counts) (laid_heads heads).clusters) (sym (laid_counts heads))
      (subst (All (IsClusterInRange (record (counts_of heads) { pages = page_count heads; roots = root_count heads })))
      (sym (laid_clusters heads)) (clusters_in_range heads range));
}

-- ---- rule 5

counts_of_pages : (heads : Heads) → ((laid_heads heads).pages ≡ page_count heads) ×
    ((laid_heads heads).roots ≡ root_count heads)
unfolding laid_heads
counts_of_pages heads = (refl, refl)

good_page : (roots p tris : ℕ) (terminal later : Bool) → 1 ≤ tris → tris ≤ 1638 → (roots ≤ p → terminal ≡ false) →
    later ≡ false → is_bad_page roots p tris terminal later ≡ false
unfolding is_bad_page
good_page roots p tris terminal later some most only none = elim (cases_lt p roots) [
  | inl below ↦ grind (arith, nat_tests, none)
  | inr from ↦ let strays = only from in grind (arith, nat_tests, none, strays)
]

pub laid_page : (heads : Heads) → IsInRange heads → KeepsRulesBelow 5 heads → (p : ℕ) →
    breaks_page (laid_heads heads) p ≡ false
laid_page heads range kept p =
    let laid = laid_heads heads in
    let counts = counts_of_pages heads in
    let turn = laid_in_turn heads (in_turn heads (fewer heads 5 2 (omega arith) kept)) in
    elim (cases_lt p (page_count heads)) [
      | inl below ↦
          let fits = page-fits heads range kept p below in
          page_at laid p (omega (arith, below, counts.0))
          ∙ good_page laid.roots p (tris_on laid p) (has_terminal_on laid p)
          (list_any (nat_lt p) (uppers_of laid p)) fits.0 fits.1
          (λ from. root_only heads range kept p (omega (arith, from, counts.1)))
          (sym (later_upper laid p (laid_range heads range kept) turn) ∙ none_later heads range kept p)
      | inr beyond ↦ page_beyond laid p (omega (arith, beyond, counts.0))
    ]

pub laid_checked : (heads : Heads) → IsInRange heads → KeepsRulesBelow 5 heads → Checked (laid_heads heads)
laid_checked heads range kept =
    checked_from (laid_heads heads) (laid_in_turn heads (in_turn heads (fewer heads 5 2 (omega arith) kept)))
    (laid_maker heads kept) (laid_terminal heads kept) (laid_bound heads kept)
    (laid_page heads range kept)

-- ---- the DAG

same_sources : (heads : Heads) → (laid_heads heads).sources ≡ heads.sources
unfolding laid_heads
same_sources heads = refl

pub laid_dag : (dag : Dag) → CanBeLaidOut dag → IsLaidOut (laid_out dag)
laid_dag dag can = record {
  range = laid_range dag.heads can.range can.rules;
  rules = laid_checked dag.heads can.range can.rules;
  counts =
      can.counts ∙ ap (λ clusters. map (λ (cluster : ClusterHead). cluster.tris) clusters)
      (sym (laid_clusters dag.heads));
  triangles =
      subst (λ sources. All (All (IsSourcedTriangle sources)) dag.tris) (sym (same_sources dag.heads)) can.triangles;
}

-- a laid-out DAG by its parts
pub laid_parts : (dag : Dag) (groups : List Group) (pages roots : ℕ) →
    groups ≡ map (laid_group dag.heads) (range_with_len 0 (length dag.heads.groups)) →
    pages ≡ page_count dag.heads → roots ≡ root_count dag.heads →
    record {
      heads = record {
        groups = groups;
        clusters = dag.heads.clusters;
        pages = pages;
        roots = roots;
        sources = dag.heads.sources;
      };
      tris = dag.tris;
    } ≡ laid_out dag
unfolding laid_heads
laid_parts dag groups pages roots groups_are pages_are roots_are = rw (groups_are, pages_are, roots_are) refl

-- a laid-out DAG can be laid out again
pub can_again : (dag : Dag) → IsLaidOut dag → CanBeLaidOut dag
can_again dag laid =
    record {
      range = laid.range;
      rules = λ rule index _. laid.rules rule index;
      counts = laid.counts;
      triangles = laid.triangles;
    }

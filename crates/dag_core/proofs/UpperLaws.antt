-- Rule 5: a page has a later upper exactly where a group of it made a cluster on a later page.
use Rattle.std.proofs.Common.{◌≡◌, ◌==◌, ◌<◌, ℕ, Bool, true, false, not, ◌&&◌, List, length, get_or, ap, sym, ◌∙◌, refl}
use Rattle.std.proofs.Common.{arith, nat_lt}
use Rattle.std.specs.List.{list_any, range_with_len}
use Rattle.std.proofs.lemmas.Bool.{and_parts, and_from}
use Rattle.std.proofs.lemmas.Bool.Decides.{nat_tests}
use Rattle.dag_core.specs.declared.heads.Heads.{Heads}
use Rattle.dag_core.specs.Members.{cluster_at, home}
use Rattle.dag_core.specs.Pages.{has_terminal_on, is_maker_on, is_upper, page_of_cluster, tris_on, uppers_of}
use Rattle.dag_core.specs.Ranges.{IsInRange}
use Rattle.dag_core.specs.Rules.{breaks_page}
use Rattle.dag_core.specs.Internal.Tables.{has_later_upper, is_bad_page, later_uppers_of, page_tris_of}
use Rattle.dag_core.specs.Internal.Tables.{terminal_pages_of}
use Rattle.dag_core.proofs.ListSteps.{list_any-filter, range_any, range_found, same_bools}
use Rattle.dag_core.proofs.MemberLaws.{AreMembersInTurn, home_below}
use Rattle.dag_core.proofs.RangeLaws.{group_bounds}
use Rattle.dag_core.proofs.RuleLaws.{page_at}
use Rattle.dag_core.proofs.TableLaws.{has_later_upper-is, is_made_for_later, table_at}

-- a cluster's page is a page
pub cluster_page : (heads : Heads) (c : ℕ) → IsInRange heads → AreMembersInTurn heads → c < length heads.clusters →
    page_of_cluster heads c < heads.pages
cluster_page heads c range turn below =
    let bounds = group_bounds heads (home heads c) range (home_below heads c turn below) in
    bounds.page

-- an upper by a cluster that a group of the page made on it
pub upper_from : (heads : Heads) (p q c : ℕ) → c < length heads.clusters →
    is_maker_on heads p (cluster_at heads c).made ≡ true →
    page_of_cluster heads c ≡ q → (q ≡ p → ⊥) → is_upper heads p q ≡ true
unfolding is_upper
upper_from heads p q c below maker page other =
    and_from (not (q == p)) (list_any (λ k. is_maker_on heads p
    (cluster_at heads k).made && page_of_cluster heads k == q) (range_with_len 0 (length heads.clusters)))
    (grind (arith, nat_tests))
    (range_any (λ k. is_maker_on heads p (cluster_at heads k).made && page_of_cluster heads k == q)
    (length heads.clusters) c below
    (and_from (is_maker_on heads p (cluster_at heads c).made) (page_of_cluster heads c == q) maker
    (grind (arith, nat_tests))))

-- the cluster that makes a page an upper
pub record MadeOn (heads : Heads) (p q : ℕ) : Type 0 where
  pub cluster : ℕ
  pub below : cluster < length heads.clusters
  pub maker : is_maker_on heads p (cluster_at heads cluster).made ≡ true
  pub page : page_of_cluster heads cluster ≡ q

same_page : (n q : ℕ) → (n == q) ≡ true → n ≡ q
same_page n q same = grind (arith, nat_tests)

pub made_on : (heads : Heads) (p q : ℕ) → is_upper heads p q ≡ true → MadeOn heads p q
unfolding is_upper
made_on heads p q upper =
    let test : ℕ → Bool = λ k. is_maker_on heads p (cluster_at heads k).made && page_of_cluster heads k == q in
    let parts = and_parts (not (q == p)) (list_any test (range_with_len 0 (length heads.clusters))) upper in
    let found = range_found test (length heads.clusters) parts.1 in
    let both =
    and_parts (is_maker_on heads p (cluster_at heads found.number).made)
    (page_of_cluster heads found.number == q) found.passes in
    record {
      cluster = found.number;
      below = found.below;
      maker = both.0;
      page = same_page (page_of_cluster heads found.number) q both.1;
    }

later_test : (p q : ℕ) → nat_lt p q ≡ true → p < q
later_test p q is = grind (arith, nat_tests)

test_later : (p q : ℕ) → p < q → nat_lt p q ≡ true
test_later p q is = grind (arith, nat_tests)

to_upper : (heads : Heads) (p : ℕ) → IsInRange heads → AreMembersInTurn heads → has_later_upper heads p ≡ true →
    list_any (nat_lt p) (uppers_of heads p) ≡ true
to_upper heads p range turn any =
    let found =
    range_found (is_made_for_later heads p) (length heads.clusters) (sym (has_later_upper-is heads p) ∙ any) in
    let q = page_of_cluster heads found.number in
    let both =
    and_parts (is_maker_on heads p (cluster_at heads found.number).made)
    (nat_lt p (page_of_cluster heads found.number)) found.passes in
    let later = later_test p (page_of_cluster heads found.number) both.1 in
    let below = cluster_page heads found.number range turn found.below in
    list_any-filter (nat_lt p) (is_upper heads p) (range_with_len 0 heads.pages)
    ∙ range_any (λ k. is_upper heads p k && nat_lt p k) heads.pages (page_of_cluster heads found.number) below
    (and_from (is_upper heads p (page_of_cluster heads found.number)) (nat_lt p (page_of_cluster heads found.number))
    (upper_from heads p (page_of_cluster heads found.number) found.number found.below both.0 refl (λ same. omega arith))
    both.1)

from_upper : (heads : Heads) (p : ℕ) → list_any (nat_lt p) (uppers_of heads p) ≡ true → has_later_upper heads p ≡ true
from_upper heads p any =
    let found = range_found (λ k. is_upper heads p k && nat_lt p k) heads.pages
    (sym (list_any-filter (nat_lt p) (is_upper heads p) (range_with_len 0 heads.pages)) ∙ any) in
    let both = and_parts (is_upper heads p found.number) (nat_lt p found.number) found.passes in
    let made = made_on heads p found.number both.0 in
    let later = later_test p found.number both.1 in
    has_later_upper-is heads p
    ∙ range_any (is_made_for_later heads p) (length heads.clusters) made.cluster made.below
    (and_from (is_maker_on heads p (cluster_at heads made.cluster).made)
    (nat_lt p (page_of_cluster heads made.cluster)) made.maker
    (test_later p (page_of_cluster heads made.cluster) (omega (arith, made.page))))

pub later_upper : (heads : Heads) (p : ℕ) → IsInRange heads → AreMembersInTurn heads →
    has_later_upper heads p ≡ list_any (nat_lt p) (uppers_of heads p)
later_upper heads p range turn =
    same_bools (has_later_upper heads p) (list_any (nat_lt p) (uppers_of heads p)) (to_upper heads p range turn)
    (from_upper heads p)

-- rule 5 at a page, as the tables tell
pub page_by : (heads : Heads) (tris : List ℕ) (terminal later : List Bool) (p : ℕ) (told : Bool) → IsInRange heads →
    AreMembersInTurn heads →
    tris ≡ page_tris_of heads → terminal ≡ terminal_pages_of heads → later ≡ later_uppers_of heads → p < heads.pages →
    told ≡ is_bad_page heads.roots p (get_or tris p 0) (get_or terminal p false) (get_or later p false) →
    breaks_page heads p ≡ told
page_by heads tris terminal later p told range turn tris_table terminal_table later_table below tells =
    page_at heads p below
    ∙ (ap (λ b. is_bad_page heads.roots p (tris_on heads p) (has_terminal_on heads p) b)
    (sym (later_upper heads p range turn) ∙ sym
    (table_at (has_later_upper heads) heads.pages later p false later_table below))
    ∙ (ap (λ b. is_bad_page heads.roots p (tris_on heads p) b (get_or later p false))
    (sym (table_at (has_terminal_on heads) heads.pages terminal p false terminal_table below))
    ∙ (ap (λ n. is_bad_page heads.roots p n (get_or terminal p false) (get_or later p false))
    (sym (table_at (tris_on heads) heads.pages tris p 0 tris_table below))
    ∙ sym tells)))

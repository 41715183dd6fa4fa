-- Sets of pages: what is in one, and that the set of all pages is closed.
use Rattle.std.proofs.Common.{◌≡◌, ◌==◌, ◌<◌, ℕ, true, arith}
use Rattle.std.specs.List.{range_with_len}
use Rattle.std.proofs.lemmas.Bool.Decides.{nat_tests}
use Rattle.dag_core.specs.declared.heads.Heads.{Heads}
use Rattle.dag_core.specs.PageSets.{IsClosed, has_page}
use Rattle.dag_core.specs.Pages.{is_upper}
use Rattle.dag_core.specs.Ranges.{IsInRange}
use Rattle.dag_core.proofs.ListSteps.{range_any, range_found}
use Rattle.dag_core.proofs.MemberLaws.{AreMembersInTurn}
use Rattle.dag_core.proofs.RangeLaws.{sizes_of}
use Rattle.dag_core.proofs.UpperLaws.{cluster_page, made_on}

same_number : (p : ℕ) → (p == p) ≡ true
same_number p = grind (arith, nat_tests)

is_same : (q p : ℕ) → (q == p) ≡ true → q ≡ p
is_same q p same = grind (arith, nat_tests)

-- a page below n is in the set of all pages below n, and no other is
pub in_all : (n p : ℕ) → p < n → has_page (range_with_len 0 n) p ≡ true
in_all n p below = range_any (λ q. q == p) n p below (same_number p)

pub below_all : (n p : ℕ) → has_page (range_with_len 0 n) p ≡ true → p < n
below_all n p has =
    let found = range_found (λ q. q == p) n has in
    let same = is_same found.number p found.passes in
    let below = found.below in
    omega arith

-- an upper is a page
pub upper_page : (heads : Heads) (p q : ℕ) → IsInRange heads → AreMembersInTurn heads → is_upper heads p q ≡ true →
    q < heads.pages
upper_page heads p q range turn upper =
    let made = made_on heads p q upper in
    let page = cluster_page heads made.cluster range turn made.below in
    let same = made.page in
    omega arith

-- the set of all pages is closed
pub all_pages_closed : (heads : Heads) → IsInRange heads → AreMembersInTurn heads →
    IsClosed heads (range_with_len 0 heads.pages)
all_pages_closed heads range turn =
    let sizes = sizes_of heads range in
    let roots = sizes.roots in
    record {
      roots = λ p below. in_all heads.pages p (omega arith);
      uppers = λ p q has upper. in_all heads.pages q (upper_page heads p q range turn upper);
    }

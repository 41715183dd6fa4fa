use Rattle.std.proofs.Common.{◌≡◌, ◌++◌, [], ◌∷◌, ℕ, suc, List, length, Option, IfSome, sym, subst, ◌∙◌, add-one, arith}
use Rattle.geom_core.specs.declared.limits.TheConstants.{PAGE_BYTES}
use Rattle.dag_core.specs.Ranges.{counts_of}
use Rattle.page_codec.specs.declared.pages.Page.{Page}
use Rattle.page_codec.specs.Spelling.{page_at}
use Rattle.page_file.specs.Internal.Seen.{StandsAt, DecidesPages, PageRefused, StepRefused}
use Rattle.page_file.specs.Judging.{page_judged}
use Rattle.page_file.specs.Opening.{pages_opened}
use Rattle.page_file.proofs.Steps.{pages-refused, pages-more, pages-decided, pages-spelt, pages-checked}
use Rattle.page_file.specs.IsOpened.{ArePagesOf}
use Rattle.page_file.proofs.Texts.{handed}
use Rattle.page_file.proofs.pages.open_first_pages.Goals as goal

pub returns-in_err-opened-clause-refused : goal.returns-in_err-opened-clause-refused
returns-in_err-opened-clause-refused g c =
    let known = g.P.PageSource.holds c.args.src.now in
    let fault = c.in_err-opened.field-0.0 in
    let now = g.P.PageSource.faults c.open_page.new.src in
    let before = g.P.PageSource.faults c.args.src.now in
    let directory = c.args.directory.now in
    let p = c.pages.page in
    let text = c.open_page.new.buffer in
    let at = page_at (counts_of directory.heads) p in
    let size : length text ≡ PAGE_BYTES =
    omega (arith, c.open_page.auto.buffer, c.deref_mut.ensures.len, c.pages.invariant.size) in
    let first : PageRefused known at (page_judged directory p) text (g.P.PageSource.faults c.pages.src) now fault =
    subst (λ (known : Option (List ℕ)). PageRefused known at (page_judged directory p) text
    (g.P.PageSource.faults c.pages.src) now fault) c.pages.invariant.same c.in_err-opened.ensures.refused in
    let second : PageRefused known at (page_judged directory p) text before now fault =
    subst (λ (n : ℕ). PageRefused known at (page_judged directory p) text n now fault) c.pages.invariant.no_fault
    first in
    handed c.from_residual-in_err-opened.result
    (StepRefused known (page_at (counts_of directory.heads) 0) (pages_opened directory c.args.count) before now)
    fault c.from_residual-in_err-opened.ensures
    (pages-refused known directory p c.args.count c.pages.pages.items text before now fault c.pages.invariant.decided
    c.pages-test.true size second)

pub pages-preserved : goal.pages-preserved
pages-preserved g c =
    let known = g.P.PageSource.holds c.args.src.now in
    let directory = c.args.directory.now in
    let p = c.pages.page in
    let text = c.open_page.new.buffer in
    let page = c.in_ok-opened.opened in
    let before = c.pages.pages.items in
    let size : length text ≡ PAGE_BYTES =
    omega (arith, c.open_page.auto.buffer, c.deref_mut.ensures.len, c.pages.invariant.size) in
    let told : IfSome known (StandsAt (page_at (counts_of directory.heads) p) text) =
    subst (λ (known : Option (List ℕ)). IfSome known (StandsAt (page_at (counts_of directory.heads) p) text))
    c.pages.invariant.same c.in_ok-opened.ensures.read in
    let more : DecidesPages known directory (suc p) (before ++ page ∷ []) =
    pages-more known directory p before page text c.pages.invariant.decided size told c.in_ok-opened.ensures.page
    c.in_ok-opened.ensures.spelling in
    record {
      decided = subst (λ (n : ℕ). DecidesPages known directory n c.push_page.new.pages.items) (sym (add-one p))
          (subst (λ (pages : List Page). DecidesPages known directory (suc p) pages)
          (sym c.in_ok-push_page.ensures.pushed) more);
      checked = subst (λ (n : ℕ). ArePagesOf directory n c.push_page.new.pages.items) (sym (add-one p))
          (subst (λ (pages : List Page). ArePagesOf directory (suc p) pages) (sym c.in_ok-push_page.ensures.pushed)
          (pages-checked directory p before page c.pages.invariant.checked c.in_ok-opened.ensures.checked));
      same = c.in_ok-opened.ensures.unchanged ∙ c.pages.invariant.same;
      no_fault = c.in_ok-opened.ensures.no_fault ∙ c.pages.invariant.no_fault;
      size = c.pages.invariant.size;
    }

pub returns-clause-pages : goal.returns-clause-pages
returns-clause-pages g c =
    let known = g.P.PageSource.holds c.args.src.now in
    let all : c.pages.page ≡ c.args.count = omega (arith, c.pages-test.false, c.pages.auto.page-end) in
    pages-decided known c.args.directory.now c.args.count c.pages.pages.items
    (subst (λ (n : ℕ). DecidesPages known c.args.directory.now n c.pages.pages.items) all c.pages.invariant.decided)

pub returns-clause-spelling : goal.returns-clause-spelling
returns-clause-spelling g c =
    pages-spelt (g.P.PageSource.holds c.args.src.now) c.args.directory.now c.pages.page c.pages.pages.items
    c.pages.invariant.decided

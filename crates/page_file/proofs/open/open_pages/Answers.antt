use Rattle.std.proofs.Common.{ℕ, List, Option, Ok, Err, sym, subst}
use Rattle.dag_core.specs.Ranges.{counts_of}
use Rattle.page_codec.specs.declared.pages.Page.{Page}
use Rattle.page_codec.specs.Spelling.{page_at}
use Rattle.page_file.specs.Internal.Seen.{Answers, StepRefused}
use Rattle.page_file.specs.Opening.{directory_opened, pages_opened, root_pages}
use Rattle.page_file.specs.Refusals.{Opens, Refuses}
use Rattle.page_file.proofs.StepRefusals.{step-opening, step-same}
use Rattle.page_file.proofs.Steps.{opening-stops, opening-goes-on, complete-from}
use Rattle.page_file.proofs.Texts.{handed}
use Rattle.page_file.proofs.open.open_pages.Goals as goal

pub returns-in_err-directory-clause-refused : goal.returns-in_err-directory-clause-refused
returns-in_err-directory-clause-refused g c =
    let known = g.P.PageSource.holds c.args.src.now in
    let before = g.P.PageSource.faults c.args.src.now in
    let now = g.P.PageSource.faults c.open_directory.new.src in
    let fault = c.in_err-directory.field-0.0 in
    handed c.from_residual.result (Refuses root_pages known before now) fault c.from_residual.ensures
    (step-opening known 0 directory_opened root_pages before now fault
    (opening-stops known root_pages fault) c.in_err-directory.ensures.refused)

pub returns-in_err-roots-clause-refused : goal.returns-in_err-roots-clause-refused
returns-in_err-roots-clause-refused g c =
    let known = g.P.PageSource.holds c.args.src.now in
    let before = g.P.PageSource.faults c.args.src.now in
    let now = g.P.PageSource.faults c.open_first_pages.new.src in
    let fault = c.in_err-roots.field-0.0 in
    let directory = c.in_ok-directory.directory in
    let at = page_at (counts_of directory.heads) 0 in
    let step = pages_opened directory directory.heads.roots in
    let refused : StepRefused known at step before now fault =
    step-same known (g.P.PageSource.holds c.open_directory.new.src) at step before
    (g.P.PageSource.faults c.open_directory.new.src) now fault
    c.in_ok-directory.ensures.unchanged c.in_ok-directory.ensures.no_fault c.in_err-roots.ensures.refused in
    handed c.from_residual-in_err-roots.result
    (Refuses root_pages known before now) fault c.from_residual-in_err-roots.ensures
    (step-opening known at step root_pages before now fault
    (λ answers. opening-goes-on known root_pages directory (Err fault) c.in_ok-directory.ensures.directory answers)
    refused)

pub returns-clause-opened : goal.returns-clause-opened
returns-clause-opened g c =
    let known = g.P.PageSource.holds c.args.src.now in
    let directory = c.in_ok-directory.directory in
    let at = page_at (counts_of directory.heads) 0 in
    let step = pages_opened directory directory.heads.roots in
    let answers : Answers known at step (Ok c.in_ok-roots.roots.items) =
    subst (λ (known : Option (List ℕ)). Answers known at step (Ok c.in_ok-roots.roots.items))
    c.in_ok-directory.ensures.unchanged c.in_ok-roots.ensures.pages in
    subst (λ (pages : List Page). Opens root_pages known (Ok (record { directory = directory; roots = pages })))
    (sym c.of.ensures)
    (opening-goes-on known root_pages directory
    (Ok c.in_ok-roots.roots.items) c.in_ok-directory.ensures.directory answers)

pub returns-in_err-directory-clause-complete : goal.returns-in_err-directory-clause-complete
returns-in_err-directory-clause-complete g c = λ bytes opened told is quiet.
    complete-from root_pages _ (g.P.PageSource.holds c.args.src.now) (g.P.PageSource.faults c.args.src.now)
    (g.P.PageSource.faults c.open_directory.new.src) bytes opened told is quiet
    (returns-in_err-directory-clause-refused g c)

pub returns-in_err-roots-clause-complete : goal.returns-in_err-roots-clause-complete
returns-in_err-roots-clause-complete g c = λ bytes opened told is quiet.
    complete-from root_pages _ (g.P.PageSource.holds c.args.src.now) (g.P.PageSource.faults c.args.src.now)
    (g.P.PageSource.faults c.open_first_pages.new.src) bytes opened told is quiet
    (returns-in_err-roots-clause-refused g c)

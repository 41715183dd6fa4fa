use Rattle.std.proofs.Common.{ℕ, List, Option, None, IfSome, Ok, Err, sym, ap, ◌∙◌, subst, flat_map}
use Rattle.dag_core.specs.declared.counts.Counts.{Counts}
use Rattle.dag_core.specs.declared.dags.Dag.{Dag}
use Rattle.dag_core.specs.Ranges.{counts_of}
use Rattle.dag_core.specs.TriangleRules.{IsLaidOut}
use Rattle.dag_soundness.specs.FirstBreaks.{Refuses, first_dag_break}
use Rattle.page_codec.specs.Spelling.{page_at, page_bytes}
use Rattle.page_file.specs.declared.opened.Opened.{Opened}
use Rattle.page_file.specs.declared.verify_faults.VerifyFault.TheVariants.{Open}
use Rattle.page_file.specs.Internal.Seen.{StandsAt, StepRefused}
use Rattle.page_file.specs.Opening.{directory_opened, pages_opened}
use Rattle.page_file.specs.SoundFiles.{HoldsSound}
use Rattle.page_file.specs.VerifyAnswers.{Verifies, VerifyRefuses}
use Rattle.page_file.specs.VerifyFaults.{fault_of}
use Rattle.page_file.specs.Verifying.{all_pages}
use Rattle.page_file.proofs.FrontTexts.{front-length}
use Rattle.page_file.proofs.SoundBytes.{holds-sound}
use Rattle.page_file.proofs.StepRefusals.{step-opening, step-same}
use Rattle.page_file.proofs.Steps.{opening-stops, opening-goes-on}
use Rattle.page_file.proofs.Texts.{handed}
use Rattle.page_file.proofs.Verified.{all-opened, dag-is, verifies, triangles-refused, verify-complete}
use Rattle.page_file.proofs.WholeFiles.{is-laid-out}
use Rattle.page_file.proofs.verify.verify_pages.Goals as goal

pub returns-clause-verified : goal.returns-clause-verified
returns-clause-verified g c =
    let known = g.P.PageSource.holds c.args.src.now in
    let directory = c.in_ok-directory.directory in
    let pages = c.in_ok-pages.pages.items in
    let opened : Opened = record { directory = directory; roots = pages } in
    let dag = dag-is directory.heads pages c.in_ok-tris.tris c.in_ok-tris.ensures.triangles in
    subst (λ (counts : Counts). Verifies known (Ok counts)) (sym c.counts.ensures.counts)
    (verifies known opened None
    (all-opened known (g.P.PageSource.holds c.open_directory.new.src) directory pages
    c.in_ok-directory.ensures.unchanged c.in_ok-directory.ensures.directory c.in_ok-pages.ensures.pages)
    (ap first_dag_break dag ∙ c.in_ok-check_triangles.ensures.kept))

pub returns-clause-sound : goal.returns-clause-sound
returns-clause-sound g c =
    let known = g.P.PageSource.holds c.args.src.now in
    let directory = c.in_ok-directory.directory in
    let pages = c.in_ok-pages.pages.items in
    let dag = dag-is directory.heads pages c.in_ok-tris.tris c.in_ok-tris.ensures.triangles in
    let at = page_at (counts_of directory.heads) 0 in
    let rest : IfSome known (StandsAt at (flat_map page_bytes pages)) =
    subst (λ (known : Option (List ℕ)). IfSome known (StandsAt at (flat_map page_bytes pages)))
    c.in_ok-directory.ensures.unchanged c.in_ok-pages.ensures.spelling in
    subst (HoldsSound known) (sym c.counts.ensures.counts)
    (holds-sound known directory pages c.in_ok-directory.ensures.fits c.in_ok-directory.ensures.rules
    c.in_ok-pages.ensures.checked (ap first_dag_break dag ∙ c.in_ok-check_triangles.ensures.kept)
    (front-length directory c.in_ok-directory.ensures.fits) c.in_ok-directory.ensures.spelling rest)

pub returns-in_err-directory-clause-refused : goal.returns-in_err-directory-clause-refused
returns-in_err-directory-clause-refused g c =
    let known = g.P.PageSource.holds c.args.src.now in
    let before = g.P.PageSource.faults c.args.src.now in
    let now = g.P.PageSource.faults c.open_directory.new.src in
    let fault = c.in_err-directory.field-0.0 in
    handed c.from_residual.result (VerifyRefuses known before now) (Open fault) c.from_residual.ensures
    (step-opening known 0 directory_opened all_pages before now fault
    (opening-stops known all_pages fault) c.in_err-directory.ensures.refused)

pub returns-in_err-pages-clause-refused : goal.returns-in_err-pages-clause-refused
returns-in_err-pages-clause-refused g c =
    let known = g.P.PageSource.holds c.args.src.now in
    let before = g.P.PageSource.faults c.args.src.now in
    let now = g.P.PageSource.faults c.open_first_pages.new.src in
    let fault = c.in_err-pages.field-0.0 in
    let directory = c.in_ok-directory.directory in
    let at = page_at (counts_of directory.heads) 0 in
    let step = pages_opened directory directory.heads.pages in
    let refused : StepRefused known at step before now fault =
    step-same known (g.P.PageSource.holds c.open_directory.new.src) at step before
    (g.P.PageSource.faults c.open_directory.new.src) now fault
    c.in_ok-directory.ensures.unchanged c.in_ok-directory.ensures.no_fault c.in_err-pages.ensures.refused in
    handed c.from_residual-in_err-pages.result (VerifyRefuses known before now) (Open fault)
    c.from_residual-in_err-pages.ensures
    (step-opening known at step all_pages before now fault
    (λ answers. opening-goes-on known all_pages directory (Err fault) c.in_ok-directory.ensures.directory answers)
    refused)

pub check_triangles-requires : goal.check_triangles-requires
check_triangles-requires g c =
    let directory = c.in_ok-directory.directory in
    let pages = c.in_ok-pages.pages.items in
    record {
      laid_out = subst IsLaidOut (dag-is directory.heads pages c.in_ok-tris.tris c.in_ok-tris.ensures.triangles)
          (is-laid-out directory pages c.in_ok-directory.ensures.fits c.in_ok-directory.ensures.rules
          c.in_ok-pages.ensures.checked);
    }

pub returns-in_err-check_triangles-clause-refused : goal.returns-in_err-check_triangles-clause-refused
returns-in_err-check_triangles-clause-refused g c =
    let known = g.P.PageSource.holds c.args.src.now in
    let before = g.P.PageSource.faults c.args.src.now in
    let now = g.P.PageSource.faults c.open_first_pages.new.src in
    let fault = c.in_err-check_triangles.field-0.0 in
    let directory = c.in_ok-directory.directory in
    let pages = c.in_ok-pages.pages.items in
    let opened : Opened = record { directory = directory; roots = pages } in
    let dag = dag-is directory.heads pages c.in_ok-tris.tris c.in_ok-tris.ensures.triangles in
    handed c.from_residual-in_err-check_triangles.result (VerifyRefuses known before now) (fault_of fault)
    c.from_residual-in_err-check_triangles.ensures
    (triangles-refused known opened before now fault
    (all-opened known (g.P.PageSource.holds c.open_directory.new.src) directory pages
    c.in_ok-directory.ensures.unchanged c.in_ok-directory.ensures.directory c.in_ok-pages.ensures.pages)
    (subst (λ (dag : Dag). Refuses (first_dag_break dag) fault) (sym dag)
    c.in_err-check_triangles.ensures.refused))

pub returns-in_err-directory-clause-complete : goal.returns-in_err-directory-clause-complete
returns-in_err-directory-clause-complete g c = λ bytes counts told file quiet.
    verify-complete c.from_residual.result (g.P.PageSource.holds c.args.src.now)
    (g.P.PageSource.faults c.args.src.now) (g.P.PageSource.faults c.open_directory.new.src) bytes counts told
    file quiet (returns-in_err-directory-clause-refused g c)

pub returns-in_err-pages-clause-complete : goal.returns-in_err-pages-clause-complete
returns-in_err-pages-clause-complete g c = λ bytes counts told file quiet.
    verify-complete c.from_residual-in_err-pages.result (g.P.PageSource.holds c.args.src.now)
    (g.P.PageSource.faults c.args.src.now) (g.P.PageSource.faults c.open_first_pages.new.src) bytes counts told
    file quiet (returns-in_err-pages-clause-refused g c)

pub returns-in_err-check_triangles-clause-complete : goal.returns-in_err-check_triangles-clause-complete
returns-in_err-check_triangles-clause-complete g c = λ bytes counts told file quiet.
    verify-complete c.from_residual-in_err-check_triangles.result (g.P.PageSource.holds c.args.src.now)
    (g.P.PageSource.faults c.args.src.now) (g.P.PageSource.faults c.open_first_pages.new.src) bytes counts told
    file quiet (returns-in_err-check_triangles-clause-refused g c)

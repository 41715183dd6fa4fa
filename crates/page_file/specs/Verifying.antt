-- The verifying of a page file, over its bytes: it is opened with all its pages, and then rules 6 to 8 are asked of the
-- DAG that they spell. The answer is the first fault, or the counts.
use Rattle.std.specs.Prelude.{ℕ, List, [], map, Option, Some, None, Result, Ok, Err, slice_index_or}
use Rattle.std.specs.Option.{unwrap_or}
use Rattle.geom_core.specs.declared.triangles.Tagged.{Tagged}
use Rattle.dag_core.specs.declared.counts.Counts.{Counts}
use Rattle.dag_core.specs.declared.heads.Heads.{Heads}
use Rattle.dag_core.specs.declared.dags.Dag.{Dag}
use Rattle.dag_core.specs.Members.{all_clusters}
use Rattle.dag_core.specs.Pages.{page_of_cluster}
use Rattle.dag_core.specs.Ranges.{counts_of}
use Rattle.dag_soundness.specs.declared.faults.RuleBreak.{RuleBreak}
use Rattle.dag_soundness.specs.FirstBreaks.{first_dag_break}
use Rattle.page_codec.specs.declared.pages.Page.{Page}
use Rattle.page_codec.specs.Lookups.{tris_with}
use Rattle.page_file.specs.declared.opened.Opened.{Opened}
use Rattle.page_file.specs.declared.open_faults.OpenFault.{OpenFault}
use Rattle.page_file.specs.declared.verify_faults.VerifyFault.{VerifyFault}
use Rattle.page_file.specs.declared.verify_faults.VerifyFault.TheVariants.{Open, Broken}
use Rattle.page_file.specs.Opening.{opening}

-- which pages are judged: all of them
abbrev pub all_pages : Counts → ℕ
all_pages counts = counts.pages

-- ---- the DAG that a file spells

-- a page without clusters, in the place of one that isn't there
abbrev pub no_page : Page
no_page = record { number = 0; clusters = [] }

-- the triangles of a cluster: those that the page of its home has for it
abbrev pub stored_tris : Heads → List Page → ℕ → List Tagged
stored_tris heads pages c =
    unwrap_or (tris_with c (slice_index_or pages (page_of_cluster heads c) no_page).clusters) []

-- the DAG of these heads, whose pages these are, all of them
unfoldable pub dag_on : Heads → List Page → Dag
dag_on heads pages = record { heads = heads; tris = map (stored_tris heads pages) (all_clusters heads) }

-- ---- the answer

-- the counts, or the first break
abbrev pub counted : Option RuleBreak → Counts → Result Counts VerifyFault
counted None counts = Ok counts
counted (Some broken) counts = Err (Broken broken.rule broken.index)

-- the answer, once all pages were opened
abbrev pub opened_verified : Result Opened OpenFault → Result Counts VerifyFault
opened_verified (Err fault) = Err (Open fault)
opened_verified (Ok opened) = counted (first_dag_break (dag_on opened.directory.heads opened.roots))
    (counts_of opened.directory.heads)

-- the header, the directory, all pages, and then the rules of the DAG that they spell
unfoldable pub verifying : List ℕ → Result Counts VerifyFault
verifying bytes = opened_verified (opening all_pages bytes)

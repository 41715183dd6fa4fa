-- What an opening of all pages and the rules of the triangles decide of a file.
use Rattle.std.proofs.Common.{◌≡◌, ℕ, List, Option, Some, IfSome, Result, Ok, Err, IfErr, map, sym, ap, ◌∙◌}
use Rattle.std.proofs.Common.{subst, arith}
use Rattle.std.specs.List.{range_with_len}
use Rattle.geom_core.specs.declared.triangles.Tagged.{Tagged}
use Rattle.dag_core.specs.declared.counts.Counts.{Counts}
use Rattle.dag_core.specs.declared.heads.Heads.{Heads}
use Rattle.dag_core.specs.Members.{all_clusters}
use Rattle.dag_core.specs.Ranges.{counts_of}
use Rattle.dag_soundness.specs.declared.faults.RuleBreak.{RuleBreak}
use Rattle.dag_soundness.specs.declared.faults.TriangleFault.{TriangleFault}
use Rattle.dag_soundness.specs.declared.faults.TriangleFault.TheVariants as triangles
use Rattle.dag_soundness.specs.FirstBreaks.{first_dag_break}
use Rattle.dag_soundness.specs.FirstBreaks as breaks
use Rattle.page_codec.specs.declared.directories.Directory.{Directory}
use Rattle.page_codec.specs.declared.pages.Page.{Page}
use Rattle.page_codec.specs.Spelling.{directory_in, page_at, page_in}
use Rattle.span_io.specs.Faults.{Rose}
use Rattle.page_file.specs.declared.open_faults.OpenFault.TheVariants.{Memory}
use Rattle.page_file.specs.declared.opened.Opened.{Opened}
use Rattle.page_file.specs.declared.verify_faults.VerifyFault.{VerifyFault}
use Rattle.page_file.specs.declared.verify_faults.VerifyFault.TheVariants.{Open, Broken}
use Rattle.page_file.specs.Internal.Seen.{Answers, Decides}
use Rattle.page_file.specs.Opening.{directory_opened, opening, pages_opened}
use Rattle.page_file.specs.Refusals.{Opens}
use Rattle.page_file.specs.SoundFiles.{IsSoundFile}
use Rattle.page_file.specs.VerifyAnswers.{Verifies, VerifyRefuses}
use Rattle.page_file.specs.VerifyFaults.{fault_of}
use Rattle.page_file.specs.Verifying.{all_pages, counted, dag_on, opened_verified, stored_tris, verifying}
use Rattle.page_file.proofs.Steps.{complete-from, opening-goes-on}
use Rattle.page_file.proofs.StoredDags.{verifying-sound}
use Rattle.page_file.proofs.Written.{opening-written-by}

-- the opening of all pages, whose first reads decide the directory and whose others the pages
pub all-opened : (known other : Option (List ℕ)) (directory : Directory) (pages : List Page) → other ≡ known →
    Decides known directory_opened directory (page_at (counts_of directory.heads) 0) →
    Answers other (page_at (counts_of directory.heads) 0) (pages_opened directory directory.heads.pages) (Ok pages) →
    Opens all_pages known (Ok (record { directory = directory; roots = pages }))
all-opened known other directory pages same decides answers =
    opening-goes-on known all_pages directory (Ok pages) decides
    (subst (λ (known : Option (List ℕ)). Answers known (page_at (counts_of directory.heads) 0)
    (pages_opened directory directory.heads.pages) (Ok pages)) same answers)

-- the DAG of the heads, with the triangles that the pages have
pub dag-is : (heads : Heads) (pages : List Page) (tris : List (List Tagged)) →
    tris ≡ map (stored_tris heads pages) (all_clusters heads) →
    dag_on heads pages ≡ record { heads = heads; tris = tris }
unfolding dag_on
dag-is heads pages tris is = ap (λ (tris : List (List Tagged)). record { heads = heads; tris = tris }) (sym is)

-- the answer, once all pages were opened and the first break is known
pub verifies : (known : Option (List ℕ)) (opened : Opened) (broken : Option RuleBreak) →
    Opens all_pages known (Ok opened) → first_dag_break (dag_on opened.directory.heads opened.roots) ≡ broken →
    Verifies known (counted broken (counts_of opened.directory.heads))
unfolding verifying
verifies known opened broken opens is = record {
  bytes = opens.bytes;
  told = opens.told;
  answer = ap opened_verified opens.answer
      ∙ ap (λ (found : Option RuleBreak). counted found (counts_of opened.directory.heads)) is;
}

-- triangles are refused at the first break
pub triangles-refused : (known : Option (List ℕ)) (opened : Opened) (faults new_faults : ℕ) (fault : TriangleFault) →
    Opens all_pages known (Ok opened) →
    breaks.Refuses (first_dag_break (dag_on opened.directory.heads opened.roots)) fault →
    VerifyRefuses known faults new_faults (fault_of fault)
triangles-refused known opened faults new_faults (triangles.Broken broken) opens is =
    verifies known opened (Some broken) opens is
triangles-refused known opened faults new_faults triangles.Memory opens is = tt

-- ---- completeness

-- the file of a sound DAG opens with all its pages
sound-opens : (counts : Counts) (bytes : List ℕ) → (file : IsSoundFile counts bytes) →
    opening all_pages bytes ≡ Ok (record {
      directory = directory_in file.dag;
      roots = map (page_in file.dag) (range_with_len 0 file.dag.heads.pages);
    })
sound-opens counts bytes file =
    ap (opening all_pages) file.spelt
    ∙ opening-written-by all_pages file.dag file.more file.sound.laid_out (omega arith)

sound-verifies : (counts : Counts) (bytes : List ℕ) → IsSoundFile counts bytes → verifying bytes ≡ Ok counts
sound-verifies counts bytes file =
    ap verifying file.spelt ∙ verifying-sound file.dag file.more file.sound
    ∙ ap (λ (found : Counts). Ok found) file.counted

never-broken : (known : Option (List ℕ)) (bytes : List ℕ) (counts : Counts) (fault : VerifyFault) →
    known ≡ Some bytes → IsSoundFile counts bytes → Verifies known (Err fault) → ⊥
never-broken known bytes counts fault told file found =
    let same : bytes ≡ found.bytes =
    subst (λ (known : Option (List ℕ)). IfSome known (λ told. told ≡ found.bytes)) told found.told in
    let other : verifying bytes ≡ Err fault = ap verifying same ∙ found.answer in
    let differ : Ok counts ≡ Err fault = sym (sound-verifies counts bytes file) ∙ other in
    cc

pub verify-complete : (r : Result Counts VerifyFault) (known : Option (List ℕ)) (faults new_faults : ℕ)
    (bytes : List ℕ) (counts : Counts) → known ≡ Some bytes → IsSoundFile counts bytes →
    (Rose faults new_faults → ⊥) → IfErr r (VerifyRefuses known faults new_faults) →
    IfErr r (λ fault. fault ≡ Open Memory)
verify-complete (Ok found) known faults new_faults bytes counts told file quiet refused = tt
verify-complete (Err (Open fault)) known faults new_faults bytes counts told file quiet refused =
    ap Open (complete-from all_pages (Err fault) known faults new_faults bytes _ told (sound-opens counts bytes file)
    quiet refused)
verify-complete (Err (Broken rule index)) known faults new_faults bytes counts told file quiet refused =
    absurd (never-broken known bytes counts (Broken rule index) told file refused)

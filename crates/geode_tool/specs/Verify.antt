-- `verify`: its verdict on the first page source, what a success is, and what it leaves of the inputs.
use Rattle.std.specs.Prelude.{◌≡◌, ℕ, zero, suc, List, [], ◌∷◌, ◌++◌, codes, Option, Result, Ok, Err, true}
use Rattle.std.specs.Fmt.{decimal}
use Rattle.dag_core.specs.declared.counts.Counts.{Counts}
use Rattle.span_io.specs.Puts.{Appended}
use Rattle.page_file.specs.declared.open_faults.OpenFault.{OpenFault}
use Rattle.page_file.specs.declared.open_faults.OpenFault.TheVariants.{PageFault, Memory}
use Rattle.page_file.specs.declared.verify_faults.VerifyFault.{VerifyFault}
use Rattle.page_file.specs.Refusals.{DigestsDiffer}
use Rattle.page_file.specs.SoundFiles.{HoldsSound}
use Rattle.page_file.specs.Verifying.{verifying}
use Rattle.geode_tool.specs.declared.faults.Done.{Done}
use Rattle.geode_tool.specs.declared.faults.Done.TheVariants.{Verified}
use Rattle.geode_tool.specs.declared.faults.Fault.{Fault}
use Rattle.geode_tool.specs.declared.faults.Fault.TheVariants.{NoSource}
use Rattle.geode_tool.specs.Faults.{fault_of_verify}
use Rattle.geode_tool.specs.Inputs.{Inputs, Streams}
use Rattle.geode_tool.specs.Verdicts.{Verdict, verdict_from, verdict_on}
use Rattle.geode_tool.specs.Verdicts.Verdict.{Refuses}

-- the counts of a file that was verified, or the fault of the command
abbrev pub counts_or_fault : Result Counts VerifyFault → Result Counts Fault
counts_or_fault (Ok counts) = Ok counts
counts_or_fault (Err fault) = Err (fault_of_verify fault)

-- the counts of the page file that the bytes are, or the first fault
unfoldable pub verify_answer : List ℕ → Result Counts Fault
verify_answer bytes = counts_or_fault (verifying bytes)

-- no source is refused; the bytes of the first of any number of sources decide
abbrev pub verdict_on_first : ℕ → Option (List ℕ) → Verdict
verdict_on_first zero bytes = Refuses (NoSource 1 0)
verdict_on_first (suc more) bytes = verdict_on (λ told. verdict_from (verify_answer told)) bytes

-- the file of a sound DAG is accepted
abbrev pub verify_verdict : Inputs → Verdict
verify_verdict inputs = verdict_on_first inputs.sources inputs.pages

-- a text, then a word, then a count in decimal
abbrev pub then_count : List ℕ → List ℕ → ℕ → List ℕ
then_count text word count = (text ++ word) ++ decimal count

-- what `verify` writes: `sound groups G clusters C pages P roots R sources N` and a line feed
unfoldable pub sound_text : Counts → List ℕ
sound_text counts =
    let groups = then_count [] (codes "sound groups ") counts.groups in
    let clusters = then_count groups (codes " clusters ") counts.clusters in
    let pages = then_count clusters (codes " pages ") counts.pages in
    let roots = then_count pages (codes " roots ") counts.roots in
    then_count roots (codes " sources ") counts.sources ++ 10 ∷ []

-- What a success is, and the text that it writes: the counts are those of a sound DAG whose file the first source
-- holds. If the source does not tell its bytes, some bytes are that file.
pub record DoesVerify (inputs : Inputs) (done : Done) (text : List ℕ) : Type 0 where
  pub counts : Counts
  pub sound : HoldsSound inputs.pages counts
  pub told : done ≡ Verified counts
  pub shown : text ≡ sound_text counts

-- What a success says: the first page source holds the file of a sound DAG with these counts, or some bytes are that
-- file if it does not tell its own; and the line, exactly, was appended and flushed.
pub record IsVerified {K : Type 0} (counts : Counts) (before after : Streams K) : Type 0 where
  pub sound : HoldsSound before.inputs.pages counts
  pub line : Appended before.written after.written (sound_text counts)
  pub flushed : after.flushed ≡ true

-- the input has the bytes that it had; the page sources are as many, and the first one tells the same bytes
abbrev pub KeepsInputs : Inputs → Inputs → Type 0
KeepsInputs before after = after ≡ before

-- a refusal of the bytes: no failed read, no want of memory, and digests that differ if one is refused
abbrev pub IsOfBytes : OpenFault → Type 0
IsOfBytes PageFault = ⊥
IsOfBytes Memory = ⊥
IsOfBytes fault = DigestsDiffer fault

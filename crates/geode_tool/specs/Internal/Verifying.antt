-- What the first page source says of the answer of `verify`, before anything is written.
use Rattle.std.specs.Prelude.{◌≡◌, ◌≤◌, ◌<◌, ℕ, List, Option, Ok, Err}
use Rattle.dag_core.specs.declared.counts.Counts.{Counts}
use Rattle.page_file.specs.SoundFiles.{HoldsSound}
use Rattle.page_file.specs.VerifyAnswers.{Verifies}
use Rattle.geode_tool.specs.declared.commands.Command.TheVariants.{Verify}
use Rattle.geode_tool.specs.declared.faults.Fault.{Fault}
use Rattle.geode_tool.specs.Inputs.{inputs_of, inputs_with, Sources}
use Rattle.geode_tool.specs.Internal.Unwritten.{SourcesCause, StopsUnwritten}

-- the sources are as many as before, the first one tells the same bytes, and its count of failures has not fallen
pub record KeepsSources (before after : Sources) : Type 0 where
  pub bytes : after.bytes ≡ before.bytes
  pub count : after.count ≡ before.count
  pub never_falls : before.faults ≤ after.faults

-- there is a source, and what it holds is the file of a sound DAG with these counts
pub record AcceptsPages (sources : Sources) (counts : Counts) : Type 0 where
  pub given : 0 < sources.count
  pub verified : Verifies sources.bytes (Ok counts)
  pub sound : HoldsSound sources.bytes counts

-- a refusal, with any input that is left as it was
pub record RefusesPages (left : Option (List ℕ)) (faults : ℕ) (sources new_sources : Sources) (fault : Fault) : Type 0
  where
    pub stops : StopsUnwritten Verify (inputs_with sources (inputs_of left)) (inputs_with new_sources (inputs_of left))
        faults faults fault
    pub cause : SourcesCause Verify sources new_sources fault

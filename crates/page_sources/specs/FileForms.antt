-- A page source over a file of the standard library.
use Rattle.std.specs.Prelude.{◌<◌, ℕ, Option}
use Rattle.page_sources.specs.declared.page_sources.PageGot.{PageGot}
use Rattle.page_sources.specs.declared.page_sources.PageGot.TheVariants.{All, Short, Failed}
use Rattle.span_io.specs.Faults.{raised}

-- the file, `None` if it couldn't be opened, and how often a read failed
pub record FileState (F : Type 0) : Type 0 where
  pub file : Option F
  pub faults : ℕ

-- each read that failed counts once, and nothing else does
abbrev pub faults_after : ℕ → PageGot → ℕ
faults_after faults All = faults
faults_after faults (Short n) = faults
faults_after faults Failed = raised faults

-- a short answer has fewer bytes than the buffer
abbrev pub IsShorter : ℕ → PageGot → Type 0
IsShorter room All = Unit {0}
IsShorter room (Short n) = n < room
IsShorter room Failed = Unit {0}

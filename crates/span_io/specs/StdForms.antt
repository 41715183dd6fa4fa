-- Sources and sinks over the readers and writers of the standard library.
use Rattle.std.specs.Prelude.{ℕ, ◌==◌, List, [], take, Bool, true, false, if◌then◌else◌, Option, Result, Ok, Err}
use Rattle.std.specs.Io.KnownBytes.{Keeps, Appends, Consumes, IsAtEnd}
use Rattle.span_io.specs.declared.sources.Got.{Got}
use Rattle.span_io.specs.declared.sources.Got.TheVariants as got
use Rattle.span_io.specs.declared.sinks.Took.{Took}
use Rattle.span_io.specs.declared.sinks.Took.TheVariants as took
use Rattle.span_io.specs.Faults.{raised}

-- a reader, and how often it failed
pub record ReaderState (R : Type 0) : Type 0 where
  pub reader : R
  pub faults : ℕ

-- a writer, whether it was flushed since it last took a byte, and how often it failed
pub record WriterState (W : Type 0) : Type 0 where
  pub writer : W
  pub flushed : Bool
  pub faults : ℕ

-- A reader's answer to a buffer with room, as a source's answer: no bytes are the end.
abbrev pub got_from : {E : Type 0} → Result ℕ E → Got
got_from (Ok count) = if count == 0 then got.End else got.Bytes count
got_from (Err error) = got.Failed

-- A writer's answer to at least one byte, as a sink's answer: to take nothing is to fail.
abbrev pub took_from : {E : Type 0} → Result ℕ E → Took
took_from (Ok count) = if count == 0 then took.Failed else took.Bytes count
took_from (Err error) = took.Failed

-- each failure counts once, and nothing else does
abbrev pub faults_after_read : ℕ → Got → ℕ
faults_after_read faults got.Failed = raised faults
faults_after_read faults _ = faults

abbrev pub faults_after_write : ℕ → Took → ℕ
faults_after_write faults took.Failed = raised faults
faults_after_write faults _ = faults

abbrev pub faults_after_finish : ℕ → Bool → ℕ
faults_after_finish faults false = raised faults
faults_after_finish faults true = faults

-- where a reader knows its bytes, those that it gave are the next of them, and at the end none is left
abbrev pub Gave : Option (List ℕ) → Option (List ℕ) → List ℕ → Got → Type 0
Gave known new_known buffer (got.Bytes n) = Consumes known new_known (take n buffer)
Gave known new_known buffer got.End = Consumes known new_known [] × IsAtEnd new_known
Gave known new_known buffer got.Failed = Keeps known new_known

-- where a writer knows its bytes, those that it took stand at their end
abbrev pub Holds : Option (List ℕ) → Option (List ℕ) → List ℕ → Took → Type 0
Holds known new_known from (took.Bytes n) = Appends known new_known (take n from)
Holds known new_known from took.Failed = Keeps known new_known

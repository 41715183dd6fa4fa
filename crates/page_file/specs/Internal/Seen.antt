-- What reads showed of a file: bytes at a place, or that the file ends; and what it decides.
use Rattle.std.specs.Prelude.{◌≡◌, ◌≤◌, ◌<◌, ◌+◌, ◌*◌, ℕ, List, length, take, drop, flat_map, Option, Some, IfSome}
use Rattle.std.specs.Prelude.{Result, Ok, Err}
use Rattle.geom_core.specs.declared.limits.TheConstants.{PAGE_BYTES}
use Rattle.dag_core.specs.declared.heads.Heads.{Heads}
use Rattle.dag_core.specs.Ranges.{counts_of}
use Rattle.page_codec.specs.declared.directories.Directory.{Directory}
use Rattle.page_codec.specs.declared.pages.Page.{Page}
use Rattle.page_codec.specs.Spelling.{page_at, page_bytes}
use Rattle.span_io.specs.Faults.{Rose}
use Rattle.page_file.specs.declared.open_faults.OpenFault.{OpenFault}
use Rattle.page_file.specs.declared.open_faults.OpenFault.TheVariants.{Rule, Truncated, PageFault, Memory}
use Rattle.page_file.specs.Judging.{rules_fault}
use Rattle.page_file.specs.Opening.{pages_opened}

-- this text stands in the bytes, from a place on
abbrev pub StandsAt : ℕ → List ℕ → List ℕ → Type 0
StandsAt at text bytes = take (length text) (drop at bytes) ≡ text

-- fewer than `len` bytes stand from a place on, and `count` bytes in all
pub record EndsWithin (known : Option (List ℕ)) (at len count : ℕ) : Type 0 where
  pub rest : List ℕ
  pub fewer : length rest < len
  pub count_is : count ≡ at + length rest
  pub bytes : IfSome known (λ bytes. drop at bytes ≡ rest)

-- why `len` bytes from a place on weren't read
abbrev pub ReadRefused : Option (List ℕ) → ℕ → ℕ → ℕ → ℕ → OpenFault → Type 0
ReadRefused known at len faults new_faults (Truncated count) = EndsWithin known at len count
ReadRefused known at len faults new_faults PageFault = Rose faults new_faults
ReadRefused known at len faults new_faults Memory = Unit {0}
ReadRefused known at len faults new_faults fault = ⊥

-- why the rules of heads refuse them: memory may run out at any time
abbrev pub RulesRefused : Heads → OpenFault → Type 0
RulesRefused heads (Rule number index) = rules_fault heads ≡ Some (Rule number index)
RulesRefused heads Memory = Unit {0}
RulesRefused heads fault = ⊥

-- a judge's refusal: memory may run out at any time; no judge reads
abbrev pub JudgedTo : {X : Type 0} → Result X OpenFault → OpenFault → Type 0
JudgedTo answer (Truncated count) = ⊥
JudgedTo answer PageFault = ⊥
JudgedTo answer Memory = Unit {0}
JudgedTo answer fault = answer ≡ Err fault

-- why a page, whose text a buffer would have, wasn't opened
abbrev pub PageRefused : {X : Type 0} → Option (List ℕ) → ℕ → (List ℕ → Result X OpenFault) → List ℕ → ℕ → ℕ →
    OpenFault → Type 0
PageRefused known at judge text faults new_faults (Truncated count) = EndsWithin known at PAGE_BYTES count
PageRefused known at judge text faults new_faults PageFault = Rose faults new_faults
PageRefused known at judge text faults new_faults Memory = Unit {0}
PageRefused known at judge text faults new_faults fault = IfSome known (StandsAt at text) × (judge text ≡ Err fault)

-- the first `len` bytes of the file, which decide what a step found
pub record Decides {X : Type 0} (known : Option (List ℕ)) (step : List ℕ → Result X OpenFault) (found : X)
    (len : ℕ) : Type 0 where
  pub seen : List ℕ
  pub size : length seen ≡ len
  pub told : IfSome known (StandsAt 0 seen)
  pub answer : (bytes : List ℕ) → StandsAt 0 seen bytes → step bytes ≡ Ok found

-- the bytes of the first n pages, which decide what they are
pub record DecidesPages (known : Option (List ℕ)) (directory : Directory) (n : ℕ) (pages : List Page) : Type 0 where
  pub seen : List ℕ
  pub size : length seen ≡ PAGE_BYTES * n
  pub told : IfSome known (StandsAt (page_at (counts_of directory.heads) 0) seen)
  pub answer : (bytes : List ℕ) → StandsAt (page_at (counts_of directory.heads) 0) seen bytes →
      pages_opened directory n bytes ≡ Ok pages
  pub spelt : seen ≡ flat_map page_bytes pages

-- the bytes from a place on, all of them, which decide a step's answer: those that are told, or some
pub record Answers {X : Type 0} (known : Option (List ℕ)) (at : ℕ) (step : List ℕ → Result X OpenFault)
    (found : Result X OpenFault) : Type 0 where
  pub rest : List ℕ
  pub told : IfSome known (λ bytes. drop at bytes ≡ rest)
  pub answer : (bytes : List ℕ) → at ≤ length bytes → drop at bytes ≡ rest → step bytes ≡ found

-- why a step over the bytes from a place on was refused
abbrev pub StepRefused : {X : Type 0} → Option (List ℕ) → ℕ → (List ℕ → Result X OpenFault) → ℕ → ℕ → OpenFault → Type 0
StepRefused known at step faults new_faults PageFault = Rose faults new_faults
StepRefused known at step faults new_faults Memory = Unit {0}
StepRefused known at step faults new_faults fault = Answers known at step (Err fault)

-- A plan of failures: which calls of a source or a sink in memory are to fail.
use Rattle.std.specs.Prelude.{ℕ, List, Bool, if◌then◌else◌, ◌==◌}
use Rattle.std.specs.List.{list_any}
use Rattle.span_io.specs.Faults.{raised}

-- `failing` are the numbers, from 1, of the calls that are to fail; `made` counts the calls so far, and
-- `faults` those of them that failed
pub record Plan : Type 0 where
  pub failing : List ℕ
  pub made : ℕ
  pub faults : ℕ

-- nothing was called yet
abbrev pub plan_of : List ℕ → Plan
plan_of failing = record { failing = failing; made = 0; faults = 0 }

-- the next call is one of those that are to fail
abbrev pub next_fails : Plan → Bool
next_fails plan = list_any (λ number. number == raised plan.made) plan.failing

-- one more call was made, and it failed or it didn't
abbrev pub called : Plan → Bool → Plan
called plan fails = record plan {
  made = raised plan.made;
  faults = if fails then raised plan.faults else plan.faults;
}

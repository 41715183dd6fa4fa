-- A sink in memory, and what its calls come to.
use Rattle.std.specs.Prelude.{ℕ, ◌-◌, List, ◌++◌, length, take, min, Bool, true, false, ◌||◌, if◌then◌else◌, ◌==◌}
use Rattle.span_io.specs.declared.sinks.Took.{Took}
use Rattle.span_io.specs.declared.sinks.Took.TheVariants.{Bytes, Failed}
use Rattle.span_io.specs.Plans.{Plan, next_fails, called}

-- the bytes written, whether they are flushed, how many more there is room for, the most that one write
-- takes, and which calls fail
pub record SinkState : Type 0 where
  pub written : List ℕ
  pub flushed : Bool
  pub room : ℕ
  pub most : ℕ
  pub plan : Plan

-- a write fails exactly where the plan says so or all of the room is used
abbrev pub write_fails : SinkState → Bool
write_fails sink = next_fails sink.plan || (sink.room == 0)

-- how many of so many bytes a write takes, if it doesn't fail
abbrev pub write_count : SinkState → ℕ → ℕ
write_count sink offered = min (min offered sink.most) sink.room

abbrev pub write_answer : SinkState → List ℕ → Took
write_answer sink from = if write_fails sink then Failed else Bytes (write_count sink (length from))

-- these bytes were taken
abbrev pub with_taken : SinkState → List ℕ → SinkState
with_taken sink bytes = record sink {
  written = sink.written ++ bytes;
  flushed = false;
  room = sink.room - length bytes;
  plan = called sink.plan false;
}

abbrev pub after_write : SinkState → List ℕ → SinkState
after_write sink from =
    if write_fails sink then record sink { plan = called sink.plan true }
    else with_taken sink (take (write_count sink (length from)) from)

-- a finish fails exactly where the plan says so
abbrev pub after_finish : SinkState → SinkState
after_finish sink = record sink {
  flushed = if next_fails sink.plan then sink.flushed else true;
  plan = called sink.plan (next_fails sink.plan);
}

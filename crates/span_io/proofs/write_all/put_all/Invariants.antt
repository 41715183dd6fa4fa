use Rattle.std.proofs.Common.{◌≡◌, ◌-◌, ◌≤◌, length, take}
use Rattle.span_io.specs.Puts.{Appends}
use Rattle.span_io.proofs.write_all.put_all.Given as goal

-- the first `at` bytes were put, and no fault was counted
abbrev pub invariant-loop-at : goal.invariant-loop-at
invariant-loop-at g l = record {
  within : l.at ≤ length l.bytes;
  appended : Appends (g.K.Sink.written l.fn.out) (g.K.Sink.written l.out) (g.K.Sink.flushed l.fn.out)
      (g.K.Sink.flushed l.out) (take l.at l.bytes);
  no_fault : g.K.Sink.faults l.out ≡ g.K.Sink.faults l.fn.out;
}

abbrev pub decreases-loop-at : goal.decreases-loop-at
decreases-loop-at g l = length l.bytes - l.at

use Rattle.std.proofs.Common.{◌+◌, ◌-◌, ◌≡◌, ◌≤◌, vec_len}
use Rattle.geom_core.specs.declared.limits.TheConstants.{READ_BYTES}
use Rattle.span_io.proofs.Feeding.{FedSoFar}
use Rattle.span_io.proofs.read_loop.read_into.Given as goal

-- the bytes so far were read and, within the limit, fed; no fault was counted
abbrev pub invariant-pieces : goal.invariant-pieces
invariant-pieces g l = record {
  fed : FedSoFar (g.C.Consumer.has_fed l.fn.consumer) l.limit (g.S.Source.left l.fn.src)
      (g.S.Source.left l.src) l.count l.consumer;
  no_fault : g.S.Source.faults l.src ≡ g.S.Source.faults l.fn.src;
  within : l.count ≤ l.limit + 1;
  buffer_len : vec_len l.buffer ≡ READ_BYTES;
}

abbrev pub decreases-pieces : goal.decreases-pieces
decreases-pieces g l = l.limit + 1 - l.count

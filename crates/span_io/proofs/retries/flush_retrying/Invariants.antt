use Rattle.std.specs.Io.KnownBytes.{Keeps}
use Rattle.span_io.proofs.retries.flush_retrying.Given as goal

-- the calls so far kept the known bytes
abbrev pub invariant-loop : goal.invariant-loop
invariant-loop g l = Keeps (g.W.Write.contents l.fn.writer) (g.W.Write.contents l.writer)

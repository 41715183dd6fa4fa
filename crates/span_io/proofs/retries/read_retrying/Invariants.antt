use Rattle.std.specs.Io.KnownBytes.{Keeps}
use Rattle.span_io.proofs.retries.read_retrying.Given as goal

-- the calls so far kept the known bytes
abbrev pub invariant-loop : goal.invariant-loop
invariant-loop g l = Keeps (g.R.Read.remaining l.fn.reader) (g.R.Read.remaining l.reader)

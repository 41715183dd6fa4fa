use Rattle.std.proofs.Common.{sym, ap, ◌∙◌}
use Rattle.std.specs.Ordering.{is_lt}
use Rattle.rim_collapse.specs.Internal.Bests.{beats}
use Rattle.rim_collapse.proofs.least.beats.Goals as goal

pub returns-in-Some : goal.returns-in-Some
returns-in-Some c = c.is_lt.ensures ∙ ap is_lt c.cmp.ensures ∙ ap (beats c.args.key.now) (sym c.in-Some.is)

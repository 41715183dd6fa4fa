use Rattle.std.proofs.Common.{rules}
use Rattle.geode_tool.specs.Words.{side}
use Rattle.geode_tool.proofs.commands.side.Goals as goal

pub returns-in_err-number-clause-number : goal.returns-in_err-number-clause-number
unfolding side
returns-in_err-number-clause-number c = search rules

pub returns-then-is_side-clause-number : goal.returns-then-is_side-clause-number
unfolding side
returns-then-is_side-clause-number c = search rules

pub returns-else-is_side-clause-number : goal.returns-else-is_side-clause-number
unfolding side
returns-else-is_side-clause-number c = search rules

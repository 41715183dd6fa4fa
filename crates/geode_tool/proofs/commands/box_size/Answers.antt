use Rattle.std.proofs.Common.{rules}
use Rattle.geode_tool.specs.Words.{box_size}
use Rattle.geode_tool.proofs.commands.box_size.Goals as goal

pub returns-in_err-number-clause-number : goal.returns-in_err-number-clause-number
unfolding box_size
returns-in_err-number-clause-number c = search rules

pub returns-then-is_box_size-clause-number : goal.returns-then-is_box_size-clause-number
unfolding box_size
returns-then-is_box_size-clause-number c = search rules

pub returns-else-is_box_size-clause-number : goal.returns-else-is_box_size-clause-number
unfolding box_size
returns-else-is_box_size-clause-number c = search rules

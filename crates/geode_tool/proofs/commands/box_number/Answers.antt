use Rattle.std.proofs.Common.{arith, rules}
use Rattle.std.proofs.lemmas.Bool.Decides.{nat_tests}
use Rattle.std.proofs.lemmas.Grind.{common_steps}
use Rattle.geode_tool.specs.Words.{box_number}
use Rattle.geode_tool.proofs.commands.box_number.Goals as goal

pub returns-in_err-number : goal.returns-in_err-number
unfolding box_number
returns-in_err-number c = search rules

pub returns-then-number : goal.returns-then-number
unfolding box_number
returns-then-number c = grind (arith, common_steps, nat_tests)

pub returns-else-number : goal.returns-else-number
unfolding box_number
returns-else-number c = grind (arith, common_steps, nat_tests)

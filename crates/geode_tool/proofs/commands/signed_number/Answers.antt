use Rattle.std.proofs.Common.{arith}
use Rattle.std.proofs.lemmas.Grind.{common_steps}
use Rattle.geode_tool.specs.Words.{signed_number}
use Rattle.geode_tool.proofs.commands.signed_number.Goals as goal

pub returns-in_err-whole_number-in-45 : goal.returns-in_err-whole_number-in-45
unfolding signed_number
returns-in_err-whole_number-in-45 c = grind (arith, common_steps)

pub returns-in_err-whole_number-in_default : goal.returns-in_err-whole_number-in_default
unfolding signed_number
returns-in_err-whole_number-in_default c = grind (arith, common_steps)

pub returns-in_ok-whole_number-in-45 : goal.returns-in_ok-whole_number-in-45
unfolding signed_number
returns-in_ok-whole_number-in-45 c = grind (arith, common_steps)

pub returns-in_ok-whole_number-in_default : goal.returns-in_ok-whole_number-in_default
unfolding signed_number
returns-in_ok-whole_number-in_default c = grind (arith, common_steps)

use Rattle.std.proofs.Common.{rules}
use Rattle.geom_core.specs.Boxes.{is_under}
use Rattle.page_codec.proofs.rules.is_under.Goals as goal

pub returns-then-p-q-2 : goal.returns-then-p-q-2
unfolding is_under
returns-then-p-q-2 c = search rules

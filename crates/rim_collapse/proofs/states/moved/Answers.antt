use Rattle.std.proofs.Common.{◌∙◌}
use Rattle.rim_collapse.proofs.StepLaws.{moved_of-more}
use Rattle.rim_collapse.proofs.states.moved.Goals as goal

pub loop-left-preserved : goal.loop-left-preserved
loop-left-preserved c =
    c.max-moved.ensures ∙
    moved_of-more c.args.kept.now c.loop-left.left-index _ c.loop-left.moved c.shift.result c.loop-left-test.true
    c.loop-left.invariant c.shift.ensures

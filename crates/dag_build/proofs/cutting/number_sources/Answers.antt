use Rattle.dag_build.specs.Grouping.{no_triangle}
use Rattle.dag_build.specs.Levels.{numbered}
use Rattle.dag_build.proofs.CutLaws.{numbered-step}
use Rattle.dag_build.proofs.cutting.number_sources.Goals as goal

pub loop-source-init : goal.loop-source-init
unfolding numbered
loop-source-init c = c.in_ok-tagged.ensures.items

pub loop-source-preserved : goal.loop-source-preserved
loop-source-preserved c =
    numbered-step c.deref-tri-items.result.now c.loop-source.source no_triangle.tri c.loop-source.tagged.items
    c.push.new.self.items
    c.loop-source-test.true c.loop-source.invariant c.in_ok-push.ensures.items

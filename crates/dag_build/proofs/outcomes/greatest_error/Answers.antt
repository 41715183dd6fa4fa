use Rattle.std.proofs.Common.{◌∙◌, ap}
use Rattle.dag_build.specs.declared.level_clusters.LevelCluster.{LevelCluster}
use Rattle.dag_build.specs.Outcomes.{maker_error}
use Rattle.dag_build.proofs.MemberLaws.{greatest_error-more}
use Rattle.dag_build.proofs.outcomes.greatest_error.Goals as goal

pub loop-member-preserved : goal.loop-member-preserved
loop-member-preserved c =
    c.max-greatest.ensures ∙
    greatest_error-more c.args.members.now c.loop-member.member-index c.member-item.result c.loop-member.greatest
    c.maker_error.result c.loop-member-test.true c.loop-member.invariant
    (c.maker_error.ensures.error ∙ ap maker_error (c.maker.ensures.maker ∙
    ap (λ (m : LevelCluster). m.maker) c.member-item.is))

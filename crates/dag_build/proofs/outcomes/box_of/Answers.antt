use Rattle.std.proofs.Common.{IsSome, length, ap, subst, sym, ◌∙◌, arith}
use Rattle.dag_build.proofs.MemberLaws.{hull-some, points-some}
use Rattle.dag_build.proofs.outcomes.box_of.Goals as goal

pub unwrap-requires : goal.unwrap-requires
unwrap-requires c =
    let some = points-some c.args.members.now c.requires.triangles in
    let same = ap length (c.deref.ensures.value ∙ c.in_ok-points.ensures.points) in
    subst IsSome (sym c.hull.ensures.hull) (hull-some c.deref.result.now (omega arith))

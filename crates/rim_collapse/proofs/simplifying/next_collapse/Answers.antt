use Rattle.std.proofs.Common.{◌*◌, ◌<◌, length, sym, subst, arith}
use Rattle.geom_core.specs.Corners.{IsCornerIn}
use Rattle.rim_collapse.specs.Internal.Bests.{IsBestAmong}
use Rattle.rim_collapse.specs.Internal.Faces.{state_of, tris_at}
use Rattle.rim_collapse.proofs.FaceLaws.{corners-numbered, length-state_of, present-state_of}
use Rattle.rim_collapse.proofs.StepLaws.{next-of}
use Rattle.rim_collapse.proofs.simplifying.next_collapse.Goals as goal

pub returns : goal.returns
returns c = λ tris locked points faces count numbered same right.
    let is = length-state_of tris points faces in
    let many : c.args.count < 2 * length (state_of tris points faces) = omega (arith, is, count) in
    next-of locked c.args.count (state_of tris points faces) points c.least_best.result many
    (λ p corner. corners-numbered points faces p numbered
    (subst (λ l. IsCornerIn l p) (present-state_of tris points faces) corner))
    (subst (λ l. IsBestAmong l locked points c.least_best.result) (sym (present-state_of tris points faces))
    (c.least_best.ensures (tris_at points faces) locked points same right))

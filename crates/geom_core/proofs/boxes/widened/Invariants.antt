use Rattle.std.proofs.Common.{◌≡◌, take, fold}
use Rattle.geom_core.specs.Boxes.{join_of, point_box}
use Rattle.geom_core.proofs.boxes.widened.Given as goal

abbrev pub invariant-loop-point : goal.invariant-loop-point
invariant-loop-point l = l.hull ≡ fold (λ box q. join_of box (point_box q)) l.fn.start (take l.point-index l.points)

use Rattle.std.proofs.Common.{◌≡◌, take}
use Rattle.rim_collapse.specs.Internal.Faces.{left, state_of}
use Rattle.rim_collapse.proofs.faces.kept_of.Given as goal

abbrev pub invariant-loop-face : goal.invariant-loop-face
invariant-loop-face l = l.kept.items ≡ state_of l.tris l.points (left (take l.face-index l.faces))

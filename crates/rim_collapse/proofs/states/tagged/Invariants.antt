use Rattle.std.proofs.Common.{◌≡◌, map, take}
use Rattle.rim_collapse.specs.States.{tagged_of}
use Rattle.rim_collapse.proofs.states.tagged.Given as goal

abbrev pub invariant-loop-left : goal.invariant-loop-left
invariant-loop-left l = l.tris.items ≡ map tagged_of (take l.left-index l.kept)

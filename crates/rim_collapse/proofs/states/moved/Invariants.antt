use Rattle.std.proofs.Common.{◌≡◌, take}
use Rattle.rim_collapse.specs.Moved.{moved_of}
use Rattle.rim_collapse.proofs.states.moved.Given as goal

abbrev pub invariant-loop-left : goal.invariant-loop-left
invariant-loop-left l = l.moved ≡ moved_of (take l.left-index l.kept)

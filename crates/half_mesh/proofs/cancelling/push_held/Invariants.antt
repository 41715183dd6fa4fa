use Rattle.std.proofs.Common.{◌++◌, take}
use Rattle.half_mesh.specs.Terms.{AddUpAlike, AreSmall}
use Rattle.half_mesh.proofs.cancelling.push_held.Given as goal

-- what the slots so far held is listed
abbrev pub invariant-slots : goal.invariant-slots
invariant-slots l =
    AreSmall l.left.items × AddUpAlike l.left.items (l.fn.left.items ++ take l.held-index l.slots)

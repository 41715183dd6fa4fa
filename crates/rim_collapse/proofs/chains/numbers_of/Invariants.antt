use Rattle.std.proofs.Common.{◌≡◌, take}
use Rattle.rim_collapse.specs.Internal.Chains.{numbers_in}
use Rattle.rim_collapse.proofs.chains.numbers_of.Given as goal

abbrev pub invariant-loop-face : goal.invariant-loop-face
invariant-loop-face l = l.numbers.items ≡ numbers_in (take l.face-index l.faces)

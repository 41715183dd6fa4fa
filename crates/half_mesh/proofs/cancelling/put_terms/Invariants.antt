use Rattle.std.proofs.Common.{◌≡◌, ◌++◌, length, take}
use Rattle.half_mesh.specs.declared.cancelling.TheConstants.{SLOTS}
use Rattle.half_mesh.specs.Terms.{AddUpAlike, AreSmall}
use Rattle.half_mesh.proofs.cancelling.put_terms.Given as goal

-- the terms so far are in the table, or have left it
abbrev pub invariant-terms : goal.invariant-terms
invariant-terms l =
    (length l.slots ≡ SLOTS) × AreSmall l.slots × AreSmall l.left.items ×
    AddUpAlike (l.left.items ++ l.slots) ((l.fn.left.items ++ l.fn.slots) ++ take l.term-index l.terms)

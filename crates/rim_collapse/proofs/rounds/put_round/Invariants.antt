use Rattle.std.proofs.Common.{◌≡◌, ℕ, true, length, take, All}
use Rattle.std.specs.List.{list_any}
use Rattle.rim_collapse.specs.Internal.Chains.{faces_at}
use Rattle.rim_collapse.specs.Internal.Faces.{has_number}
use Rattle.rim_collapse.specs.Internal.Marks.{HasMarkedCorners, IsSetBelow, is_marked}
use Rattle.rim_collapse.proofs.rounds.put_round.Given as goal

-- the set has the corners of the faces so far
abbrev pub invariant-loop-corner : goal.invariant-loop-corner
invariant-loop-corner l = record {
  members : IsSetBelow (length l.fn.set.marks.items) l.set;
  round : All (HasMarkedCorners l.set.marks.items) (faces_at l.faces (take l.corner-index l.corners));
  only : (k : ℕ) → is_marked l.set.marks.items k ≡ true →
      list_any (has_number k) (faces_at l.faces (take l.corner-index l.corners)) ≡ true;
}

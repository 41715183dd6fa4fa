use Rattle.std.proofs.Common.{◌≡◌, ◌≤◌, ◌<◌, ◌+◌, ◌/◌, ℕ, true, length, map, drop, get_or}
use Rattle.std.specs.Bool.{◌==◌}
use Rattle.std.specs.List.{list_any}
use Rattle.rim_collapse.specs.Internal.Chains.{no_face}
use Rattle.rim_collapse.specs.Internal.Faces.{face_to, has_number, left}
use Rattle.rim_collapse.proofs.faces.move_corners.Given as goal

-- the faces so far are moved; those that have corner a still are those of the corners that are left
abbrev pub invariant-loop-corner : goal.invariant-loop-corner
invariant-loop-corner l = record {
  size : length l.faces.items ≡ length l.fn.faces.items;
  moved : map (face_to l.a l.b) l.faces.items ≡ map (face_to l.a l.b) l.fn.faces.items;
  to_move : (k : ℕ) → k < length l.fn.faces.items → has_number l.a (get_or l.faces.items k no_face) ≡ true →
      list_any (λ c. c / 3 == k) (drop l.corner-index l.corners) ≡ true;
  few : l.dropped ≤ l.corner-index;
  count : l.dropped + length (left l.faces.items) ≡ length (left l.fn.faces.items);
}

use Rattle.std.proofs.Common.{◌≡◌, ◌<◌, ℕ, length, None}
use Rattle.std.specs.Prelude.{slice_index_or}
use Rattle.rim_collapse.specs.Internal.Bests.{IsBestAt}
use Rattle.rim_collapse.specs.Internal.Faces.{left, point_at, tris_at}
use Rattle.rim_collapse.specs.Internal.Marks.{IsSetBelow}
use Rattle.rim_collapse.proofs.bests.first_bests.Given as goal

-- the points so far have been asked
abbrev pub invariant-loop-n : goal.invariant-loop-n
invariant-loop-n l = record {
  members : IsSetBelow (length l.points) l.round.targets;
  count : length l.bests.items ≡ l.n;
  right : (k : ℕ) → k < l.n → IsBestAt (tris_at l.points (left l.faces)) l.locked.keys (point_at l.points k)
      (slice_index_or l.bests.items k None);
}

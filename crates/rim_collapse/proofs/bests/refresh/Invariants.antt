use Rattle.std.proofs.Common.{◌≡◌, ◌<◌, ℕ, true, false, length, take, None}
use Rattle.std.specs.Bool.{◌==◌}
use Rattle.std.specs.List.{list_any}
use Rattle.std.specs.Prelude.{slice_index_or}
use Rattle.rim_collapse.specs.Internal.Bests.{IsBestAt}
use Rattle.rim_collapse.specs.Internal.Faces.{left, point_at, tris_at}
use Rattle.rim_collapse.specs.Internal.Marks.{IsSetBelow}
use Rattle.rim_collapse.proofs.bests.refresh.Given as goal

-- the listed points so far have been asked, and no other
abbrev pub invariant-loop-n : goal.invariant-loop-n
invariant-loop-n l = record {
  members : IsSetBelow (length l.points) l.round.targets;
  count : length l.bests.items ≡ length l.points;
  asked : (k : ℕ) → k < length l.points → list_any (λ m. m == k) (take l.n-index l.asked) ≡ true →
      IsBestAt (tris_at l.points (left l.faces)) l.locked.keys (point_at l.points k)
      (slice_index_or l.bests.items k None);
  others : (k : ℕ) → list_any (λ m. m == k) (take l.n-index l.asked) ≡ false →
      slice_index_or l.bests.items k None ≡ slice_index_or l.fn.bests.items k None;
}

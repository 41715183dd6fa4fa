use Rattle.std.proofs.Common.{◌≡◌, ◌<◌, List, None, length, take}
use Rattle.std.specs.Prelude.{slice_index_or}
use Rattle.geom_core.specs.declared.points.Pt.{Pt}
use Rattle.geom_core.specs.declared.triangles.Tri.{Tri}
use Rattle.rim_collapse.specs.Internal.Bests.{AreRight, IsBestAmong}
use Rattle.rim_collapse.proofs.bests.least_best.Given as goal

-- the least of the collapses of the points so far is that of this one
abbrev pub invariant-bests : goal.invariant-bests
invariant-bests l = record {
  index : l.least < length l.bests;
  best : (tris : List Tri) (locked points : List Pt) → length l.bests ≡ length points →
      AreRight tris locked points l.bests →
      IsBestAmong tris locked (take l.k points) (slice_index_or l.bests l.least None);
}

use Rattle.std.proofs.Common.{◌<◌, List, length, All}
use Rattle.geom_core.specs.declared.points.Pt.{Pt}
use Rattle.rim_collapse.specs.Internal.Bests.{AreRight}
use Rattle.rim_collapse.specs.Internal.Faces.{left, state_of, tris_at}
use Rattle.rim_collapse.specs.Internal.Progress.{IsProgress}
use Rattle.rim_collapse.specs.Simplified.{Lead}
use Rattle.rim_collapse.specs.States.{begun}
use Rattle.rim_collapse.proofs.simplifying.end_state.Given as goal

-- some collapses, each the next one, lead to the state of the faces that are left; they are a mesh; and the bests are
-- those of that state
abbrev pub invariant-collapses : goal.invariant-collapses
invariant-collapses l = record {
  lead : (collapses : List (Pt × Pt))
      × Lead l.locked.keys (length l.tris) collapses (begun l.tris)
      (state_of l.tris l.points.items (left l.progress.faces.items));
  progress : IsProgress l.points.items l.progress;
  was : All (λ f. f.was < length l.tris) l.progress.faces.items;
  right : AreRight (tris_at l.points.items (left l.progress.faces.items)) l.locked.keys l.points.items
      l.progress.bests.items;
}

abbrev pub decreases-collapses : goal.decreases-collapses
decreases-collapses l = length (left l.progress.faces.items)

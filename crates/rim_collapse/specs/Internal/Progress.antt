-- How far a simplification is.
use Rattle.std.specs.Prelude.{◌≡◌, List, length}
use Rattle.geom_core.specs.declared.points.Pt.{Pt}
use Rattle.rim_collapse.specs.declared.simplifying.Progress.{Progress}
use Rattle.rim_collapse.specs.Internal.Faces.{left}
use Rattle.rim_collapse.specs.Internal.Marks.{IsSetBelow}
use Rattle.rim_collapse.specs.Internal.Meshes.{IsMesh}

-- the faces are those of a mesh with these points, the counts and the lists are right, and the sets are sets of points
pub record IsProgress (points : List Pt) (progress : Progress) : Type 0 where
  pub mesh : IsMesh points progress.faces.items progress.chains
  pub left : progress.left ≡ length (left progress.faces.items)
  pub bests : length progress.bests.items ≡ length points
  pub asked : IsSetBelow (length points) progress.asked
  pub targets : IsSetBelow (length points) progress.round.targets

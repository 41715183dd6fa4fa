-- The triangles of a group, as faces with chains of corners.
use Rattle.std.specs.Prelude.{◌≡◌, ◌≤◌, List, length, All, AllPairs}
use Rattle.std.specs.declared.cmp.Ordering.TheVariants.{Less}
use Rattle.geom_core.specs.declared.limits.TheConstants.{TRIANGLES_PER_GROUP}
use Rattle.geom_core.specs.declared.points.Pt.{Pt}
use Rattle.geom_core.specs.Limits.{IsGridTriangle}
use Rattle.geom_core.specs.Order.{point_cmp}
use Rattle.rim_collapse.specs.declared.chains.Chains.{Chains}
use Rattle.rim_collapse.specs.declared.faces.Face.{Face}
use Rattle.rim_collapse.specs.Internal.Chains.{AreChained}
use Rattle.rim_collapse.specs.Internal.Faces.{IsNumbered, left, tris_at}

-- not too many faces, by the numbers of these ascending points; those that are left are triangles of a mesh; their
-- corners are linked
pub record IsMesh (points : List Pt) (faces : List Face) (chains : Chains) : Type 0 where
  pub ascending : AllPairs (λ p q. point_cmp p q ≡ Less) points
  pub few : length faces ≤ TRIANGLES_PER_GROUP
  pub numbers : All (IsNumbered (length points)) faces
  pub triangles : All IsGridTriangle (tris_at points (left faces))
  pub linked : AreChained (length points) faces chains

-- What every simplified list is, whatever its collapses are.
use Rattle.std.specs.Prelude.{◌≡◌, ◌⊎◌, ◌≤◌, ⊤, ℕ, List, [], ◌∷◌, length, All}
use Rattle.geom_core.specs.declared.points.Pt.{Pt}
use Rattle.geom_core.specs.declared.triangles.Tagged.{Tagged}
use Rattle.geom_core.specs.Corners.{IsCornerIn}
use Rattle.geom_core.specs.Limits.{IsGridTriangle}
use Rattle.geom_core.specs.Shift.{shift_of}
use Rattle.geom_core.specs.TaggedLists.{tris_of}

-- the triangle has the other's source, and each corner is within `moved` of the other's
pub record IsMoved (moved : ℕ) (from to : Tagged) : Type 0 where
  pub source : to.source ≡ from.source
  pub within : shift_of to.tri from.tri ≤ moved

-- the second list is some of the triangles of the first, in their order, moved
unfoldable pub AreMoved : ℕ → List Tagged → List Tagged → Type 0
AreMoved moved tris [] = ⊤
AreMoved moved [] (left ∷ others) = ⊥
AreMoved moved (t ∷ tris) (left ∷ others) =
    (IsMoved moved t left × AreMoved moved tris others) ⊎ AreMoved moved tris (left ∷ others)

-- triangles of a mesh, no more than there were, each of them one that was given, in that order, with each corner at a
-- corner that was given and within `moved` of its old place
pub record IsSound (tris : List Tagged) (left : List Tagged) (moved : ℕ) : Type 0 where
  pub triangles : All IsGridTriangle (tris_of left)
  pub fewer : length left ≤ length tris
  pub from : AreMoved moved tris left
  pub corners : (p : Pt) → IsCornerIn (tris_of left) p → IsCornerIn (tris_of tris) p

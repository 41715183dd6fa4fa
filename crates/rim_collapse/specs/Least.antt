-- The least legal collapse.
use Rattle.std.specs.Prelude.{◌≡◌, false, IsTrue, List}
use Rattle.geom_core.specs.declared.points.Pt.{Pt}
use Rattle.geom_core.specs.declared.triangles.Tri.{Tri}
use Rattle.rim_collapse.specs.Cost.{goes_before}
use Rattle.rim_collapse.specs.Legal.{is_legal_collapse}

-- a to b is a legal collapse, and no legal collapse goes before it
pub record IsLeast (tris : List Tri) (locked : List Pt) (a b : Pt) : Type 0 where
  pub legal : IsTrue (is_legal_collapse tris locked a b)
  pub first : (c d : Pt) → IsTrue (is_legal_collapse tris locked c d) → goes_before tris c d a b ≡ false

-- no collapse is legal
abbrev pub NoneIsLegal : List Tri → List Pt → Type 0
NoneIsLegal tris locked = (a b : Pt) → IsTrue (is_legal_collapse tris locked a b) → ⊥

-- Simplifying: least legal collapses, one after another, until half of the triangles are left or no collapse is legal.
use Rattle.std.specs.Prelude.{◌≡◌, ◌⊎◌, ◌*◌, ◌<◌, ◌≤◌, ℕ, List, [], ◌∷◌, length}
use Rattle.geom_core.specs.declared.points.Pt.{Pt}
use Rattle.geom_core.specs.declared.triangles.Tagged.{Tagged}
use Rattle.rim_collapse.specs.declared.states.Kept.{Kept}
use Rattle.rim_collapse.specs.Least.{IsLeast, NoneIsLegal}
use Rattle.rim_collapse.specs.States.{after, begun, present}

-- more than half of the n triangles are left, and the collapse of a to b is the least legal one
pub record IsNext (locked : List Pt) (n : ℕ) (state : List Kept) (a b : Pt) : Type 0 where
  pub too_many : n < 2 * length state
  pub least : IsLeast (present state) locked a b

-- these collapses, each the next one of the state that the ones before it leave, lead from one state to the other
unfoldable pub Lead : List Pt → ℕ → List (Pt × Pt) → List Kept → List Kept → Type 0
Lead locked n [] state end = state ≡ end
Lead locked n (collapse ∷ collapses) state end =
    IsNext locked n state collapse.0 collapse.1 × Lead locked n collapses (after collapse.0 collapse.1 state) end

-- at most half of the n triangles are left, or no collapse is legal
abbrev pub IsEnd : List Pt → ℕ → List Kept → Type 0
IsEnd locked n state = (2 * length state ≤ n) ⊎ NoneIsLegal (present state) locked

-- the list is simplified to this state, with these points locked
pub record IsSimplified (tris : List Tagged) (locked : List Pt) (kept : List Kept) : Type 0 where
  pub collapses : List (Pt × Pt)
  pub lead : Lead locked (length tris) collapses (begun tris) kept
  pub end : IsEnd locked (length tris) kept

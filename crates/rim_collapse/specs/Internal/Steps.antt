-- What is done next with a state.
use Rattle.std.specs.Prelude.{ℕ, List, Option, Some, None}
use Rattle.geom_core.specs.declared.points.Pt.{Pt}
use Rattle.rim_collapse.specs.declared.keys.Key.{Key}
use Rattle.rim_collapse.specs.declared.states.Kept.{Kept}
use Rattle.rim_collapse.specs.Simplified.{IsEnd, IsNext}

-- the next collapse, or none at the end
abbrev pub IsNextOf : List Pt → ℕ → List Kept → Option Key → Type 0
IsNextOf locked n state None = IsEnd locked n state
IsNextOf locked n state (Some k) = IsNext locked n state k.from k.to

-- On which sides of an edge two spots lie, and the box of three spots.
use Rattle.std.specs.Prelude.{ℤ, pos, ◌<ℤ◌, ◌≤ℤ◌, ◌⊎◌}
use Rattle.std.specs.Int.{int_min, int_max}
use Rattle.geom_core.specs.declared.screens.Spot.{Spot}
use Rattle.geom_core.specs.Winding.{edge_function}

-- c and d lie strictly on opposite sides of the line through a and b
abbrev pub AreOpposite : Spot → Spot → Spot → Spot → Type 0
AreOpposite a b c d =
    ((pos 0 <ℤ edge_function a b c.x c.y) × (edge_function a b d.x d.y <ℤ pos 0)) ⊎
    ((edge_function a b c.x c.y <ℤ pos 0) × (pos 0 <ℤ edge_function a b d.x d.y))

-- the point is from the least coordinate of the three spots on and before the greatest, on both axes
pub record IsInBox (a b c : Spot) (x y : ℤ) : Type 0 where
  pub left : int_min a.x (int_min b.x c.x) ≤ℤ x
  pub right : x <ℤ int_max a.x (int_max b.x c.x)
  pub top : int_min a.y (int_min b.y c.y) ≤ℤ y
  pub bottom : y <ℤ int_max a.y (int_max b.y c.y)

-- How far a simplification moves corners.
use Rattle.std.specs.Prelude.{ℕ, List, [], ◌∷◌, max}
use Rattle.geom_core.specs.Shift.{shift_of}
use Rattle.rim_collapse.specs.declared.states.Kept.{Kept}

-- how far the triangle's corners are from where they were
abbrev pub shift : Kept → ℕ
shift k = shift_of k.tri k.was.tri

-- the greatest of these of the triangles that are left, or 0
abbrev pub moved_of : List Kept → ℕ
moved_of [] = 0
moved_of (k ∷ kept) = max (shift k) (moved_of kept)

-- The Chebyshev distance, of two points and from a box to a point.
use Rattle.std.specs.Prelude.{ℕ, ℤ, ◌-ℤ◌, max, unsigned_abs, int_lt, if◌then◌else◌}
use Rattle.geom_core.specs.declared.points.Pt.{Pt}
use Rattle.geom_core.specs.declared.boxes.Cube.{Cube}

-- the greatest of the three axes' distances
unfoldable pub distance : Pt → Pt → ℕ
distance p q = max (unsigned_abs (p.x -ℤ q.x)) (max (unsigned_abs (p.y -ℤ q.y)) (unsigned_abs (p.z -ℤ q.z)))

-- how far v lies outside the numbers from lo to hi
unfoldable pub outside : ℤ → ℤ → ℤ → ℕ
outside lo hi v = if int_lt v lo then unsigned_abs (lo -ℤ v) else (if int_lt hi v then unsigned_abs (v -ℤ hi) else 0)

-- the distance from the nearest point of the box, which is 0 inside it
unfoldable pub box_distance : Cube → Pt → ℕ
box_distance box p =
    max (outside box.lo.x box.hi.x p.x) (max (outside box.lo.y box.hi.y p.y) (outside box.lo.z box.hi.z p.z))

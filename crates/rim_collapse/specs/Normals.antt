-- Vectors between points, and the normal of a triangle.
use Rattle.std.specs.Prelude.{ℤ, ◌+ℤ◌, ◌-ℤ◌, ◌*ℤ◌}
use Rattle.geom_core.specs.declared.points.Pt.{Pt}
use Rattle.geom_core.specs.declared.triangles.Tri.{Tri}
use Rattle.rim_collapse.specs.declared.vectors.Vector.{Vector}

-- from q to p
unfoldable pub minus : Pt → Pt → Vector
minus p q = record { x = p.x -ℤ q.x; y = p.y -ℤ q.y; z = p.z -ℤ q.z }

-- the cross product
unfoldable pub cross : Vector → Vector → Vector
cross u v = record {
  x = u.y *ℤ v.z -ℤ u.z *ℤ v.y;
  y = u.z *ℤ v.x -ℤ u.x *ℤ v.z;
  z = u.x *ℤ v.y -ℤ u.y *ℤ v.x;
}

-- the dot product
unfoldable pub dot : Vector → Vector → ℤ
dot u v = u.x *ℤ v.x +ℤ u.y *ℤ v.y +ℤ u.z *ℤ v.z

-- the normal of a triangle, twice as long as its area: the cross product of its sides from the first corner to the
-- second and to the third
unfoldable pub normal : Tri → Vector
normal t = cross (minus t.b t.a) (minus t.c t.a)

-- Worked examples of what `draw` refuses, and of a spot that no pixel shows. The spot's place is by hand.
use native.Mathlib.Omega.{arith}
use Rattle.std.proofs.Common.{◌≡◌, ◌∙◌, ap, ℕ, ◌+◌, ◌<◌, nat_le, true, false, List, [], ◌∷◌, ◌++◌, length, take, Result}
use Rattle.std.proofs.Common.{Ok, Err, pos, negsuc, replicate, append-nil, refl}
use Rattle.std.proofs.lemmas.List.{length-replicate}
use Rattle.geom_core.specs.declared.limits.TheConstants.{MAX_OBJ_BYTES, MAX_TRIANGLES, STEPS_PER_UNIT}
use Rattle.geom_core.specs.declared.screens.Size.{Size}
use Rattle.geom_core.specs.declared.triangles.Tri.{Tri}
use Rattle.geom_core.specs.Camera.{View, on_screen, reversed_depth}
use Rattle.obj_source.specs.declared.faults.ObjFault.{ObjFault}
use Rattle.obj_source.specs.declared.faults.ObjFault.TheVariants.{TooMany, TooLong}
use Rattle.obj_source.specs.Mesh.{MeshSoFar, ◌>>=◌, mesh, nothing, with_triangles, read_lines, ended_lines}
use Rattle.view_camera.specs.declared.view_points.ViewPoint.{ViewPoint}
use Rattle.view_camera.specs.ViewPoints.{spot_at}

-- the lines so far gave as many triangles as a mesh may have
abbrev full : Tri → MeshSoFar
full t = record { vertices = []; triangles = replicate MAX_TRIANGLES t }

more_than_most : nat_le (MAX_TRIANGLES + 1) MAX_TRIANGLES ≡ false
more_than_most = grind arith

at_most : nat_le (MAX_TRIANGLES + 0) MAX_TRIANGLES ≡ true
at_most = grind arith

over_the_most : (so_far : MeshSoFar) (tris : List Tri) →
    nat_le (length so_far.triangles + length tris) MAX_TRIANGLES ≡ false → with_triangles so_far tris ≡ Err TooMany
over_the_most so_far tris over = rw over

within_the_most : (so_far : MeshSoFar) (tris : List Tri) →
    nat_le (length so_far.triangles + length tris) MAX_TRIANGLES ≡ true →
    with_triangles so_far tris ≡ Ok (record so_far { triangles = so_far.triangles ++ tris })
within_the_most so_far tris within = rw within

-- one triangle more is one too many
pub with_triangles-many : (t : Tri) → with_triangles (full t) (t ∷ []) ≡ Err TooMany
with_triangles-many t = over_the_most (full t) (t ∷ [])
    (ap (λ n. nat_le (n + 1) MAX_TRIANGLES) (length-replicate MAX_TRIANGLES t) ∙ more_than_most)

-- none more is none too many
pub with_triangles-full : (t : Tri) → with_triangles (full t) [] ≡ Ok (full t)
with_triangles-full t =
    within_the_most (full t) []
    (ap (λ n. nat_le (n + 0) MAX_TRIANGLES) (length-replicate MAX_TRIANGLES t) ∙ at_most)
    ∙ ap (λ (tris : List Tri). Ok (record { vertices = []; triangles = tris })) (append-nil (replicate MAX_TRIANGLES t))

over_the_limit : (n : ℕ) → MAX_OBJ_BYTES < n → nat_le n MAX_OBJ_BYTES ≡ false
over_the_limit n over = grind arith

-- a text of a byte too many, none of whose ended lines has a fault
pub mesh-long : (text : List ℕ) (so_far : MeshSoFar) → MAX_OBJ_BYTES < length text →
    read_lines STEPS_PER_UNIT nothing 1 (ended_lines (take MAX_OBJ_BYTES text)) ≡ Ok so_far →
    mesh STEPS_PER_UNIT text ≡ Err TooLong
unfolding mesh
mesh-long text so_far too_long read =
    rw (over_the_limit (length text) too_long)
    (ap (λ (r : Result MeshSoFar ObjFault). r >>= (λ mesh_so_far. Err TooLong)) read)

-- three columns and five rows, seen along an axis at a focal length of three pixels
abbrev ahead : View
ahead = record {
  focal = 3;
  near = 1048576;
  tolerance = 0;
  eye = record { x = pos 0; y = pos 0; z = pos 0 };
  right = record { x = pos 16384; y = pos 0; z = pos 0 };
  down = record { x = pos 0; y = pos 16384; z = pos 0 };
  forward = record { x = pos 0; y = pos 0; z = pos 16384 };
}

abbrev narrow : Size
narrow = record { width = 3; height = 5 }

-- as far to the left as ahead: three pixels left of the middle, which is one and a half pixels left of the picture
abbrev far_left : ViewPoint
far_left = record { right = negsuc 1048575; down = pos 0; depth = pos 1048576 }

pub spot_at-outside : spot_at ahead narrow far_left ≡ record { x = negsuc 23; y = pos 40; z = 1073741823 }
unfolding spot_at on_screen reversed_depth
spot_at-outside = refl

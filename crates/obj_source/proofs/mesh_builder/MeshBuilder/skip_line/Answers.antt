use Rattle.std.proofs.Common.{◌≡◌, ℕ, List, [], ◌∷◌, refl}
use Rattle.obj_source.specs.declared.mesh_builder.MeshBuilder.{MeshBuilder}
use Rattle.obj_source.specs.declared.line_state.LineState.TheVariants as state
use Rattle.obj_source.specs.Builder.{Stands}
use Rattle.obj_source.specs.Mesh.{MeshSoFar}
use Rattle.obj_source.proofs.Standing.{settled_passed, stands_passed, stands_settled}
use Rattle.obj_source.proofs.mesh_builder.MeshBuilder.skip_line.Goals as goal

with_more : (d : MeshBuilder) (mesh_so_far : MeshSoFar) (line : ℕ) (first : List ℕ) (more : List (List ℕ)) →
    d.line_state ≡ state.Passed → Stands d mesh_so_far line (first ∷ []) → Stands d mesh_so_far line (first ∷ more)
with_more d mesh_so_far line first more passed stands =
    stands_settled d mesh_so_far line (first ∷ []) more (settled_passed d passed) stands

pub returns-clause-stands : goal.returns-clause-stands
returns-clause-stands c mesh_so_far line first more two stands =
    with_more _ mesh_so_far line first more refl
    (stands_passed c.args.self.now _ mesh_so_far line first two refl refl refl refl stands)

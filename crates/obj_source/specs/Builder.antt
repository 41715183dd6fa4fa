-- What a builder of a mesh stands for.
use Rattle.std.specs.Prelude.{◌≡◌, ℕ, List, [], ◌++◌, Result}
use Rattle.obj_source.specs.declared.mesh_builder.MeshBuilder.{MeshBuilder}
use Rattle.obj_source.specs.declared.faults.ObjFault.{ObjFault}
use Rattle.obj_source.specs.declared.line_state.LineState.TheVariants as state
use Rattle.obj_source.specs.Mesh.{MeshSoFar, with_line}
use Rattle.obj_source.specs.LineStates.{line_result_from}

-- the mesh so far
abbrev pub so_far : MeshBuilder → MeshSoFar
so_far d = record { vertices = d.vertices.items; triangles = d.triangles.items }

-- the mesh after the open line with these words after those that came
abbrev pub builder_result_from : MeshBuilder → List (List ℕ) → Result MeshSoFar ObjFault
builder_result_from d more = line_result_from d.scale (so_far d) d.line d.line_state more

-- The builder stands for a line of this number, of which these words came, over the mesh of the lines before it.
pub record Stands (d : MeshBuilder) (mesh_so_far : MeshSoFar) (line : ℕ) (words : List (List ℕ)) : Type 0 where
  pub numbered : d.line ≡ line
  pub begun : words ≡ [] → d.line_state ≡ state.Start
  pub continues : (more : List (List ℕ)) →
      builder_result_from d more ≡ with_line d.scale mesh_so_far line (words ++ more)

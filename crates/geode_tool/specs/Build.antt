-- `build`: its verdict on the input, what a success is, and how far it reads before a refusal.
use Rattle.std.specs.Prelude.{◌≡◌, ℕ, List, Option}
use Rattle.geom_core.specs.declared.limits.TheConstants.{STEPS_PER_UNIT}
use Rattle.geom_core.specs.declared.triangles.Tri.{Tri}
use Rattle.dag_build.specs.Built.{IsBuilt}
use Rattle.dag_core.specs.declared.dags.Dag.{Dag}
use Rattle.dag_core.specs.Ranges.{counts_of}
use Rattle.dag_core.specs.TriangleRules.{Sound}
use Rattle.dag_core.specs.Triangles.{source_of}
use Rattle.obj_source.specs.Readings.{Listed}
use Rattle.page_codec.specs.Spelling.{file_bytes}
use Rattle.page_file.specs.PagesRule.{laid_out}
use Rattle.geode_tool.specs.declared.faults.Done.{Done}
use Rattle.geode_tool.specs.declared.faults.Done.TheVariants.{Built}
use Rattle.geode_tool.specs.declared.faults.Fault.{Fault}
use Rattle.geode_tool.specs.Draw.{draw_verdict, DrawReadsUpTo}
use Rattle.geode_tool.specs.Inputs.{Inputs}
use Rattle.geode_tool.specs.Verdicts.{Verdict}

-- `build` and `draw` read the same texts: one with a mesh is accepted, and else the mesh's first fault refuses it
abbrev pub build_verdict : Inputs → Verdict
build_verdict inputs = draw_verdict inputs

-- The laid-out DAG is that of the levels of detail of the mesh in the input's bytes. If the bytes are not known, it is
-- that of the mesh in some text.
pub record IsBuiltFrom (input : Option (List ℕ)) (laid : Dag) : Type 0 where
  pub tris : List Tri
  pub listed : Listed STEPS_PER_UNIT input tris
  pub dag : Dag
  pub built : IsBuilt tris dag
  pub on_pages : laid ≡ laid_out dag

-- what a success is, and the text that it writes: the page file of such a DAG
pub record DoesBuild (inputs : Inputs) (done : Done) (text : List ℕ) : Type 0 where
  pub laid : Dag
  pub built : IsBuiltFrom inputs.text laid
  pub told : done ≡ Built (counts_of laid.heads)
  pub file : text ≡ file_bytes laid

-- the DAG in the file is sound, and its source mesh is the mesh that it was built from
abbrev pub IsSoundBuild : {inputs : Inputs} → {done : Done} → {text : List ℕ} → DoesBuild inputs done text → Type 0
IsSoundBuild does = Sound does.laid × (source_of does.laid ≡ does.built.tris)

-- how far the input was read before a refusal: as `draw` reads it
abbrev pub BuildReadsUpTo : Option (List ℕ) → Option (List ℕ) → Fault → Type 0
BuildReadsUpTo left new_left fault = DrawReadsUpTo left new_left fault

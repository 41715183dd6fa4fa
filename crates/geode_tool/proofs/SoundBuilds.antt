-- The DAG in the file of a mesh is sound, and its source mesh is that mesh.
use Rattle.std.proofs.Common.{◌≡◌, ◌==◌, ◌∙◌, ℕ, List, Bool, true, false, Option, Some, None, ap}
use Rattle.std.proofs.Common.{subst, sym, refl, cond}
use Rattle.geom_core.specs.declared.limits.TheConstants.{STEPS_PER_UNIT}
use Rattle.geom_core.specs.declared.triangles.Tri.{Tri}
use Rattle.geom_core.specs.Limits.{AreGridTriangles}
use Rattle.dag_build.specs.Built.{IsBuilt}
use Rattle.dag_build.proofs.BuiltDags.{laid_out}
use Rattle.dag_build.proofs.MadeSums.{edge_sums}
use Rattle.dag_build.proofs.SourceTris.{corners, each_source, source_is}
use Rattle.dag_core.specs.declared.dags.Dag.{Dag}
use Rattle.dag_core.specs.TriangleRules.{breaks_corners, breaks_source, breaks_sums, dag_breaks, Sound}
use Rattle.dag_core.specs.Triangles.{source_of}
use Rattle.obj_source.specs.Readings.{Listed}
use Rattle.obj_source.proofs.SoundMeshes.{mesh_sound}
use Rattle.page_file.specs.PagesRule as pages
use Rattle.page_file.proofs.LaidTriangles.{same_source, stays_sound}
use Rattle.geode_tool.specs.Build.{IsBuiltFrom}

listed_in_grid : (left : Option (List ℕ)) (tris : List Tri) → Listed STEPS_PER_UNIT left tris → AreGridTriangles tris
listed_in_grid None tris listed = mesh_sound STEPS_PER_UNIT listed.0 tris listed.1
listed_in_grid (Some text) tris listed = mesh_sound STEPS_PER_UNIT text tris listed

no_rule : (a b c x y z : Bool) → x ≡ false → y ≡ false → z ≡ false → cond a x (cond b y (cond c z false)) ≡ false
no_rule true b c x y z sums source corner = sums
no_rule false true c x y z sums source corner = source
no_rule false false true x y z sums source corner = corner
no_rule false false false x y z sums source corner = refl

all_rules : (tris : List Tri) (dag : Dag) → AreGridTriangles tris → IsBuilt tris dag → (rule index : ℕ) →
    dag_breaks rule dag index ≡ false
all_rules tris dag mesh built rule index =
    no_rule (rule == 6) (rule == 7) (rule == 8) (breaks_sums dag index) (breaks_source dag index)
    (breaks_corners dag index)
    (edge_sums tris dag index mesh built) (each_source tris dag index mesh built) (corners tris dag index mesh built)

pub built_sound : (left : Option (List ℕ)) (laid : Dag) → (built : IsBuiltFrom left laid) →
    Sound laid × (source_of laid ≡ built.tris)
built_sound left laid built =
    let mesh = listed_in_grid left built.tris built.listed in (
      subst Sound (sym built.on_pages)
          (stays_sound built.dag (laid_out built.tris built.dag mesh built.built)
          (all_rules built.tris built.dag mesh built.built)),
      ap source_of built.on_pages ∙ (same_source built.dag ∙ source_is built.tris built.dag mesh built.built),
    )

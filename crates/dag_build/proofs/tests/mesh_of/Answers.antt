use Rattle.std.proofs.Common.{sym, ◌∙◌}
use Rattle.std.proofs.lemmas.List.Elements.{All-push}
use Rattle.geom_core.specs.Limits.{IsGridTriangle}
use Rattle.dag_build.proofs.tests.mesh_of.Goals as goal
use Rattle.dag_build.proofs.tests.mesh_of.Goals.{then-is_grid_triangle+in_ok-push, else-is_grid_triangle}

pub loop-tri-preserved : goal.loop-tri-preserved
loop-tri-preserved c =
    elim c.if-is_grid_triangle.branch [
      | then-is_grid_triangle+in_ok-push w ↦
          rw (w.mesh-is, w.in_ok-push.ensures.items)
          (All-push IsGridTriangle c.loop-tri.mesh.items _ c.loop-tri.invariant
          (sym c.is_grid_triangle.ensures ∙ w.if-is_grid_triangle.true))
      | else-is_grid_triangle w ↦ rw w.mesh-is c.loop-tri.invariant
    ]

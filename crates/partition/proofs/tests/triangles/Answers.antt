use Rattle.std.proofs.Common.{◌+◌, List, All, length, subst, sym, ap, ◌∙◌}
use Rattle.std.proofs.lemmas.List.{length_push}
use Rattle.std.proofs.lemmas.List.Elements.{All-push}
use Rattle.geom_core.specs.declared.triangles.Tri.{Tri}
use Rattle.geom_core.specs.Limits.{HasGridCorners}
use Rattle.partition.proofs.tests.triangles.Goals as goal

pub loop-corners-preserved : goal.loop-corners-preserved
loop-corners-preserved c =
    let P : List Tri → Type 0 = λ xs. All HasGridCorners xs in (
      ap length c.in_ok-push.ensures.items ∙ (length_push c.loop-corners.tris.items c.triangle.result ∙
          ap (λ n. n + 1) c.loop-corners.invariant.0),
      subst P (sym c.in_ok-push.ensures.items)
          (All-push HasGridCorners c.loop-corners.tris.items c.triangle.result c.loop-corners.invariant.1
          c.triangle.ensures),
    )

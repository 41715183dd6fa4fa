use Rattle.std.proofs.Common.{◌+◌, List, All, length, subst, sym, ap, ◌∙◌}
use Rattle.std.proofs.lemmas.List.{length_push}
use Rattle.std.proofs.lemmas.List.Elements.{All-push}
use Rattle.partition.specs.declared.shapes.ClusterShape.{ClusterShape}
use Rattle.partition.specs.Groups.{IsGridShape}
use Rattle.partition.proofs.tests.row_of_shapes.Goals as goal

pub loop-number-preserved : goal.loop-number-preserved
loop-number-preserved c =
    let P : List ClusterShape → Type 0 = λ xs. All IsGridShape xs in (
      ap length c.in_ok-push.ensures.items ∙ (length_push c.loop-number.shapes.items c.in_ok-shape.field-0 ∙
          ap (λ n. n + 1) c.loop-number.invariant.0),
      subst P (sym c.in_ok-push.ensures.items)
          (All-push IsGridShape c.loop-number.shapes.items c.in_ok-shape.field-0 c.loop-number.invariant.1
          c.in_ok-shape.ensures),
    )

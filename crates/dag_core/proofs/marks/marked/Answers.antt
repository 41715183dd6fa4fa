use Rattle.std.proofs.Common.{ap, ◌∙◌}
use Rattle.dag_core.specs.Internal.Marks.{is_marked}
use Rattle.dag_core.proofs.MarkLaws.{filter_skip, filter_step}
use Rattle.dag_core.proofs.marks.marked.Goals.{then-marks-k+in_ok-push, else-marks-k}
use Rattle.dag_core.proofs.marks.marked.Goals as goal

pub loop-k-preserved : goal.loop-k-preserved
loop-k-preserved c = elim c.if-marks-k.branch [
  | then-marks-k+in_ok-push w ↦ ap (λ v. v.items) w.numbers-is ∙
      (w.in_ok-push.ensures.items ∙ filter_step
      (is_marked c.args.marks.now) c.loop-k.k c.loop-k.numbers.items c.loop-k.invariant w.if-marks-k.true)
  | else-marks-k w ↦ ap (λ v. v.items) w.numbers-is ∙
      filter_skip (is_marked c.args.marks.now) c.loop-k.k c.loop-k.numbers.items c.loop-k.invariant w.if-marks-k.false
]

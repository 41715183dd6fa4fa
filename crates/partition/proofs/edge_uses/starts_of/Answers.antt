use Rattle.std.proofs.Common.{◌++◌, ◌∷◌, [], ap, sym, ◌∙◌}
use Rattle.partition.specs.Internal.EdgeUses.{begins_edge}
use Rattle.partition.proofs.BatchLists.{filter_range_pass, filter_range_fail}
use Rattle.partition.proofs.edge_uses.starts_of.Goals.{then-begins_edge+in_ok-push, else-begins_edge}
use Rattle.partition.proofs.edge_uses.starts_of.Goals as goal

pub loop-place-preserved : goal.loop-place-preserved
loop-place-preserved c = elim c.if-begins_edge.branch [
  | then-begins_edge+in_ok-push w ↦
      ap (λ v. v.items) w.starts-is
      ∙ (w.in_ok-push.ensures.items
      ∙ (ap (λ xs. xs ++ c.loop-place.place ∷ []) c.loop-place.invariant
      ∙ sym (filter_range_pass (begins_edge c.args.uses.now) c.loop-place.place (sym w.if-begins_edge.ensures))))
  | else-begins_edge w ↦
      ap (λ v. v.items) w.starts-is
      ∙ (c.loop-place.invariant
      ∙ sym (filter_range_fail (begins_edge c.args.uses.now) c.loop-place.place (sym w.if-begins_edge.ensures)))
]

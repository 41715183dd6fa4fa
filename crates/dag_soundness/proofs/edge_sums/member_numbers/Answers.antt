use Rattle.std.proofs.Common.{◌++◌, ◌∷◌, [], ◌+◌, ◌∙◌, ap, sym}
use Rattle.dag_soundness.proofs.NumberLaws.{range-more}
use Rattle.dag_soundness.proofs.edge_sums.member_numbers.Goals as goal

pub members-preserved : goal.members-preserved
members-preserved c =
    let first = c.args.group.now.first in
    c.in_ok-push.ensures.items
    ∙ (ap (λ xs. xs ++ (first + c.members.k) ∷ []) c.members.invariant ∙ sym (range-more first c.members.k))

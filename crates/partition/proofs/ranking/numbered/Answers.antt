use Rattle.std.proofs.Common.{◌++◌, ◌∷◌, [], get_or, ap, sym, ◌∙◌}
use Rattle.partition.proofs.BatchLists.{keyed_more}
use Rattle.partition.proofs.ranking.numbered.Goals as goal

pub loop-number-preserved : goal.loop-number-preserved
loop-number-preserved c =
    c.in_ok-push.ensures.items
    ∙ (ap (λ xs. xs ++ record { key = get_or c.args.keys.now c.loop-number.number 0; number = c.loop-number.number } ∷
    []) c.loop-number.invariant
    ∙ sym (keyed_more c.args.keys.now c.loop-number.number c.loop-number-test.true))

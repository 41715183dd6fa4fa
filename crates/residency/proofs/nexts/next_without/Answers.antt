use Rattle.std.proofs.Common.{ap, ◌∙◌}
use Rattle.pool_rules.specs.Next.{busy_with}
use Rattle.residency.proofs.TableQueries.{first_loading-told}
use Rattle.residency.proofs.nexts.next_without.Goals as goal

pub returns-in-Some-first_loading : goal.returns-in-Some-first_loading
returns-in-Some-first_loading c = λ layout journal past.
    let found = first_loading-told layout journal c.args.tables.now c.in-Some.frame.0 past in
    rw c.in-Some.is (ap busy_with (c.in-Some-first_loading.ensures ∙ found))

pub returns-in-None : goal.returns-in-None
returns-in-None c = λ layout journal past.
    let found = first_loading-told layout journal c.args.tables.now c.in-Some.frame.0 past in
    rw c.in-Some.is (ap busy_with (c.in-None.ensures ∙ found))

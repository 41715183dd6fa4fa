use Rattle.std.proofs.Common.{ap, ◌∙◌}
use Rattle.pool_rules.specs.Next.{next_of}
use Rattle.pool_rules.specs.State.{state_of}
use Rattle.residency.specs.Internal.Tables.{number_of}
use Rattle.residency.proofs.TableQueries.{first_takeable-told}
use Rattle.residency.proofs.nexts.next_in.Goals as goal

pub returns-in-Some : goal.returns-in-Some
returns-in-Some c = λ journal past.
    let layout = c.args.layout.now in
    let found = first_takeable-told layout journal c.args.tables.now (number_of c.args.frame) past in
    c.next_at.ensures journal past ∙ ap (next_of layout (state_of layout journal) (number_of c.args.frame))
    (c.in-Some.ensures ∙ found)

pub returns-in-None : goal.returns-in-None
returns-in-None c = λ journal past.
    let layout = c.args.layout.now in
    let found = first_takeable-told layout journal c.args.tables.now (number_of c.args.frame) past in
    c.next_without.ensures layout journal past ∙ ap
    (next_of layout (state_of layout journal) (number_of c.args.frame)) (c.in-None.ensures ∙ found)

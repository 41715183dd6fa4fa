use Rattle.std.proofs.Common.{◌∙◌, sym}
use Rattle.pool_rules.specs.State.{state_of}
use Rattle.residency.specs.Internal.Tables.{number_of}
use Rattle.residency.proofs.TableQueries.{owns-told, take-for_all, take-owned, take-refused}
use Rattle.residency.proofs.rules.allows_take.Goals as goal

pub returns-then-not-is_next_take : goal.returns-then-not-is_next_take
returns-then-not-is_next_take c = λ journal past.
    take-refused c.args.layout.now (state_of c.args.layout.now journal) journal c.args.by.0 (number_of c.args.frame)
    c.args.page c.args.victim (sym (c.is_next_take.ensures journal past) ∙ c.if-not-is_next_take.true)

pub returns-in-Some : goal.returns-in-Some
returns-in-Some c = λ journal past.
    let next = sym (c.is_next_take.ensures journal past) ∙ c.if-not-is_next_take.false in
    let owned = owns-told c.args.layout.now journal c.args.tables.now c.args.by.0 c.in-Some.frame.0 past.tables in
    rw c.in-Some.is (c.owns.ensures ∙ (owned ∙ take-owned c.args.layout.now (state_of c.args.layout.now journal)
    journal c.args.by.0 c.in-Some.frame.0 c.args.page c.args.victim (rw c.in-Some.is at next)))

pub returns-in-None : goal.returns-in-None
returns-in-None c = λ journal past.
    let next = sym (c.is_next_take.ensures journal past) ∙ c.if-not-is_next_take.false in
    rw c.in-None.is (take-for_all c.args.layout.now (state_of c.args.layout.now journal) journal c.args.by.0
    c.args.page c.args.victim (rw c.in-None.is at next))

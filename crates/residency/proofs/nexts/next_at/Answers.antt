use Rattle.std.proofs.Common.{◌<◌, ◌≤◌, arith}
use Rattle.pool_rules.specs.State.{held_count, state_of}
use Rattle.residency.proofs.LoaderChoices.{next_at-free, next_at-held}
use Rattle.residency.proofs.TableQueries.{held-told}
use Rattle.residency.proofs.nexts.next_at.Goals as goal

pub returns-then-held-from : goal.returns-then-held-from
returns-then-held-from c = λ journal past.
    let s = state_of c.args.layout.now journal in
    let held = held-told c.args.layout.now journal c.args.tables.now past in
    let lt : held_count s < c.args.layout.now.slots = omega
    (arith, held, c.held.ensures, c.from.ensures, c.if-held-from.true) in
    next_at-free c.args.layout.now s c.args.page lt

pub returns-in-Some : goal.returns-in-Some
returns-in-Some c = λ journal past.
    let s = state_of c.args.layout.now journal in
    let held = held-told c.args.layout.now journal c.args.tables.now past in
    let le : c.args.layout.now.slots ≤ held_count s = omega
    (arith, held, c.held.ensures, c.from.ensures, c.if-held-from.false) in
    next_at-held c.args.layout.now s c.args.page _ le (c.in-Some.ensures journal past)

pub returns-in-None : goal.returns-in-None
returns-in-None c = λ journal past.
    let s = state_of c.args.layout.now journal in
    let held = held-told c.args.layout.now journal c.args.tables.now past in
    let le : c.args.layout.now.slots ≤ held_count s = omega
    (arith, held, c.held.ensures, c.from.ensures, c.if-held-from.false) in
    next_at-held c.args.layout.now s c.args.page _ le (c.in-None.ensures journal past)

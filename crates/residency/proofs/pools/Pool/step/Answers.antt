use Rattle.std.proofs.Common.{◌≡◌, ◌∷◌, [], true, sym, refl, ◌∙◌, arith, length, length-append, rules}
use Rattle.journal.specs.declared.entries.Entry.{Entry}
use Rattle.std.proofs.lemmas.Grind.{common_steps}
use Rattle.pool_rules.proofs.LegalJournals.{IsLegal-push}
use Rattle.pool_rules.specs.Rules.{is_allowed}
use Rattle.residency.proofs.pools.Pool.step.Goals as goal

pub enter-requires : goal.enter-requires
enter-requires c =
    let tested = c.allows.ensures c.self.inside.journal.items c.self.invariant.past in
    rw (c.deref.ensures.value, c.in_ok-reserve.ensures.items)
    (record { past = c.self.invariant.past; allowed = sym tested ∙ c.if-not-allows.false })

pub returns-then-not-allows-clause-illegal : goal.returns-then-not-allows-clause-illegal
returns-then-not-allows-clause-illegal c =
    let tested = c.allows.ensures c.self.inside.journal.items c.self.invariant.past in
    first_of (search rules, grind (arith, common_steps))

pub returns-in_err-reserve-clause-illegal : goal.returns-in_err-reserve-clause-illegal
returns-in_err-reserve-clause-illegal c =
    let tested = c.allows.ensures c.self.inside.journal.items c.self.invariant.past in
    first_of (search rules, grind (arith, common_steps))

pub returns-in_err-enter-clause-illegal : goal.returns-in_err-enter-clause-illegal
returns-in_err-enter-clause-illegal c =
    let tested = c.allows.ensures c.self.inside.journal.items c.self.invariant.past in
    first_of (search rules, grind (arith, common_steps))

pub returns-clause-illegal : goal.returns-clause-illegal
returns-clause-illegal c =
    let tested = c.allows.ensures c.self.inside.journal.items c.self.invariant.past in
    first_of (search rules, grind (arith, common_steps))

length-of-one : (e : Entry) → length (e ∷ []) ≡ 1
length-of-one e = refl

pub invariant_of-self-2 : goal.invariant_of-self-2
invariant_of-self-2 c =
    let was = c.self.inside in
    let journal = was.journal.items in
    let e = c.args.entry in
    let tested = c.allows.ensures journal c.self.invariant.past in
    let allowed : is_allowed was.layout journal e ≡ true = sym tested ∙ c.if-not-allows.false in
    let items = rw c.in_ok-reserve.ensures.items at c.push_reserved.ensures.items in
    let room = rw c.in_ok-reserve.ensures.items at c.in_ok-reserve.ensures.room in
    let entered = rw (c.deref.ensures.value, c.in_ok-reserve.ensures.items) at c.in_ok-enter.ensures.tables in
    record {
      past = rw items (record {
        in_bounds = c.self.invariant.past.in_bounds;
        legal = IsLegal-push was.layout journal e c.self.invariant.past.legal allowed;
        tables = entered;
      });
      room = rw (c.push_reserved.ensures.capacity, items)
          (omega (arith, length-append journal (e ∷ []), length-of-one e, room));
    }

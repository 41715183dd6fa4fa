use Rattle.std.proofs.Common.{◌≡◌, ◌∷◌, [], refl, arith, length, length-append}
use Rattle.pool_rules.proofs.LegalJournals.{IsLegal-push}
use Rattle.journal.specs.declared.entries.Entry.{Entry}
use Rattle.residency.proofs.pools.Pool.step_kept.Goals as goal

length-of-one : (e : Entry) → length (e ∷ []) ≡ 1
length-of-one e = refl

pub invariant_of-self : goal.invariant_of-self
invariant_of-self c =
    let was = c.self.inside in
    let journal = was.journal.items in
    let e = c.args.entry in
    let past = c.self.invariant.past in
    let allowed = rw (← c.self.view_is) at c.requires.allowed in
    let some = rw (← c.self.view_is) at c.requires.spare in
    let entered = rw c.deref.ensures.value at c.enter_kept.ensures in
    record {
      past = rw c.push_reserved.ensures.items (record {
        in_bounds = past.in_bounds;
        legal = IsLegal-push was.layout journal e past.legal allowed;
        tables = entered;
      });
      room = rw (c.push_reserved.ensures.capacity, c.push_reserved.ensures.items)
          (omega (arith, length-append journal (e ∷ []), length-of-one e, some, c.self.invariant.room));
    }

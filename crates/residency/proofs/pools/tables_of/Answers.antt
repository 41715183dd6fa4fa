use Rattle.std.proofs.Common.{◌≡◌, ◌∙◌, ◌∷◌, ◌++◌, ◌+◌, ◌<◌, [], sym, ap, arith, take, drop, length, length-take}
use Rattle.std.proofs.Common.{add-one, drop-cons, suc, true}
use Rattle.std.proofs.lemmas.List.{take_more}
use Rattle.pool_rules.proofs.LegalJournals.{IsLegal-push, allowed-here, refused-here}
use Rattle.pool_rules.specs.Rules.{first_refused_after, is_allowed}
use Rattle.residency.proofs.RefusedPlaces.{told-place}
use Rattle.residency.proofs.pools.tables_of.Goals as goal

pub returns-then-not-allows-clause-illegal : goal.returns-then-not-allows-clause-illegal
returns-then-not-allows-clause-illegal c = λ place told.
    let layout = c.args.layout.now in
    let entries = c.args.entries.now in
    let i = c.loop-place.place in
    let e = c.index-entries-place.result in
    let before = take i entries in
    let lt : i < length entries = c.loop-place-test.true in
    let tested = c.allows.ensures before c.loop-place.invariant.past in
    let rest : drop i entries ≡ e ∷ drop (i + 1) entries = rw add-one
    (drop-cons entries i e lt ∙ ap (λ x. x ∷ drop (suc i) entries) (sym c.index-entries-place.is)) in
    let refused = sym c.loop-place.invariant.allowed ∙
    (ap (first_refused_after layout before) rest ∙ refused-here layout before (drop (i + 1) entries) e
    (sym tested ∙ c.if-not-allows.true)) in
    told-place layout entries i place (length before) refused (omega (arith, length-take i entries, lt)) told

pub loop-place-preserved : goal.loop-place-preserved
loop-place-preserved c =
    let layout = c.args.layout.now in
    let entries = c.args.entries.now in
    let i = c.loop-place.place in
    let e = c.index-entries-place.result in
    let before = take i entries in
    let lt : i < length entries = c.loop-place-test.true in
    let sofar = c.loop-place.invariant in
    let tested = c.allows.ensures before sofar.past in
    let allowed : is_allowed layout before e ≡ true = sym tested ∙ c.if-not-allows.false in
    let rest : drop i entries ≡ e ∷ drop (i + 1) entries = rw add-one
    (drop-cons entries i e lt ∙ ap (λ x. x ∷ drop (suc i) entries) (sym c.index-entries-place.is)) in
    let more : take (i + 1) entries ≡ before ++ e ∷ [] = take_more entries i e lt ∙ ap (λ x. before ++ x ∷ [])
    (sym c.index-entries-place.is) in
    rw more (record {
      past = record {
        in_bounds = sofar.past.in_bounds;
        legal = IsLegal-push layout before e sofar.past.legal allowed;
        tables = c.in_ok-enter.ensures.tables;
      };
      allowed = sym (allowed-here layout before (drop (i + 1) entries) e allowed) ∙
          (ap (first_refused_after layout before) (sym rest) ∙ sofar.allowed);
    })

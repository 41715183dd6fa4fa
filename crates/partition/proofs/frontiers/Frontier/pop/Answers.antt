use Rattle.std.proofs.Common.{◌≡◌, ◌<◌, ◌≤◌, inl, inr, length, get_or, true, false, refl, ◌∙◌, arith}
use Rattle.std.proofs.lemmas.Bool.{both_ways, true_from_ne_false}
use Rattle.std.proofs.lemmas.List.{get_or_default}
use Rattle.std.proofs.lemmas.List.Elements.{All-contains}
use Rattle.partition.proofs.Popped.{popped, kept_by_pop, in_popped, shorter}
use Rattle.partition.proofs.frontiers.Frontier.pop.Goals as goal

pub loop-item-init : goal.loop-item-init
loop-item-init c = record { cursors = refl; kept = λ item is left. is; from = λ item is. is }

pub bounds-placed-item : goal.bounds-placed-item
bounds-placed-item c =
    let item = c.in-Some.item in
    All-contains (λ k. k < length c.args.placed.now) c.args.self.now.queue item c.requires
    (c.loop-item.invariant.from item (popped item c.loop-item.self.queue c.pop.new.self c.in-Some.ensures.taken))

pub returns-then-not-placed-item-clause-least : goal.returns-then-not-placed-item-clause-least
returns-then-not-placed-item-clause-least c =
    let item = c.in-Some.item in
    let among =
    c.loop-item.invariant.from item (popped item c.loop-item.self.queue c.pop.new.self c.in-Some.ensures.taken) in
    let below : item < length c.args.placed.now =
    All-contains (λ k. k < length c.args.placed.now) c.args.self.now.queue item c.requires among in
    record {
      among = among;
      left = get_or_default c.args.placed.now item true false below ∙ c.if-not-placed-item.true;
      least =
          λ other is left. All-contains (λ k. item ≤ k) c.loop-item.self.queue other c.in-Some.ensures.least
          (c.loop-item.invariant.kept other is left);
    }

pub returns-then-not-placed-item-clause-rest : goal.returns-then-not-placed-item-clause-rest
returns-then-not-placed-item-clause-rest c other is left =
    kept_by_pop c.in-Some.item c.loop-item.self.queue c.pop.new.self c.in-Some.ensures.taken other
    (c.loop-item.invariant.kept other is left)

pub returns-then-not-placed-item-clause-from : goal.returns-then-not-placed-item-clause-from
returns-then-not-placed-item-clause-from c other is =
    c.loop-item.invariant.from other (in_popped c.in-Some.item c.loop-item.self.queue c.pop.new.self
    c.in-Some.ensures.taken other is)

pub loop-item-smaller : goal.loop-item-smaller
loop-item-smaller c = shorter c.in-Some.item c.loop-item.self.queue c.pop.new.self c.in-Some.ensures.taken

pub loop-item-preserved : goal.loop-item-preserved
loop-item-preserved c =
    let item = c.in-Some.item in
    let among =
    c.loop-item.invariant.from item (popped item c.loop-item.self.queue c.pop.new.self c.in-Some.ensures.taken) in
    let below : item < length c.args.placed.now =
    All-contains (λ k. k < length c.args.placed.now) c.args.self.now.queue item c.requires among in
    let done : get_or c.args.placed.now item true ≡ true =
    get_or_default c.args.placed.now item true false below ∙ c.if-not-placed-item.false in
    record {
      cursors = c.loop-item.invariant.cursors;
      kept =
          λ other is left. elim (kept_by_pop item c.loop-item.self.queue c.pop.new.self c.in-Some.ensures.taken other
          (c.loop-item.invariant.kept other is left)) [
            | inl same ↦ absurd (both_ways (get_or c.args.placed.now item true) (rw same at left) done)
            | inr kept ↦ kept
          ];
      from =
          λ other is. c.loop-item.invariant.from other
          (in_popped item c.loop-item.self.queue c.pop.new.self c.in-Some.ensures.taken other is);
    }

pub returns-clause-none_left : goal.returns-clause-none_left
returns-clause-none_left c item is =
    true_from_ne_false (get_or c.args.placed.now item true) (λ left.
    let kept = rw c.in_default.ensures.empty at (c.loop-item.invariant.kept item is left) in
    absurd (omega (arith, kept.1)))

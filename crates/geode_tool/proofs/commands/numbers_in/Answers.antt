use Rattle.std.proofs.Common.{arith, rules, tests, eqb, length, sym, ◌∙◌}
use Rattle.std.specs.List.{slice_split}
use Rattle.std.proofs.lemmas.List.{length_push}
use Rattle.std.proofs.lemmas.Iterator.Splits.{YieldsList-from_slice_split}
use Rattle.std.proofs.lemmas.Iterator.Consumers.{YieldsList-turn, YieldsList-end}
use Rattle.geode_tool.proofs.NumberParts.{fifteen-more, fifteen-fewer, fifteen-none, SoFar-more, fifteen-all}
use Rattle.geode_tool.proofs.commands.numbers_in.Goals as goal

pub returns-then-count-eq15 : goal.returns-then-count-eq15
returns-then-count-eq15 c =
    fifteen-more (slice_split (λ b. eqb b 44) c.args.word.now) c.loop-part.count
    (length c.loop-part.yielded) c.in-Some.part.now c.loop-part.invariant.counted (omega arith)
    (YieldsList-turn (YieldsList-from_slice_split _ (λ b. eqb b 44) c.args.word.now (cc) (cc) (cc)
    (λ x b q k. search (rules, tests))) c.loop-part.yielded _ c.loop-part.yielded_by _ _ c.in-Some.part c.in-Some.is
    c.next.ensures.steps)

pub returns-in_err-numbers : goal.returns-in_err-numbers
returns-in_err-numbers c =
    c.from_residual.ensures
    ∙ fifteen-none (slice_split (λ b. eqb b 44) c.args.word.now) c.loop-part.numbers c.loop-part.count
    (length c.loop-part.yielded) c.in-Some.part.now c.loop-part.invariant.counted
    (YieldsList-turn (YieldsList-from_slice_split _ (λ b. eqb b 44) c.args.word.now (cc) (cc) (cc)
    (λ x b q k. search (rules, tests))) c.loop-part.yielded _ c.loop-part.yielded_by _ _ c.in-Some.part c.in-Some.is
    c.next.ensures.steps) c.loop-part.invariant.so_far (sym c.signed_number.ensures ∙ c.in_err-numbers.was)

pub loop-part-preserved : goal.loop-part-preserved
loop-part-preserved c = record {
  can_next = search rules;
  is_finite = search rules;
  counted = omega (arith, length_push c.loop-part.yielded c.in-Some.part);
  room = omega arith;
  whole = search rules;
  so_far =
      SoFar-more (slice_split (λ b. eqb b 44) c.args.word.now) c.loop-part.numbers c.loop-part.count
      (length c.loop-part.yielded) c.in-Some.part.now c.in_ok-numbers.field-0 c.loop-part.invariant.counted
      (omega arith) (search rules) (YieldsList-turn
      (YieldsList-from_slice_split _ (λ b. eqb b 44) c.args.word.now (cc) (cc) (cc) (λ x b q k. search (rules, tests)))
      c.loop-part.yielded _ c.loop-part.yielded_by _ _ c.in-Some.part c.in-Some.is c.next.ensures.steps)
      c.loop-part.invariant.so_far (sym c.signed_number.ensures ∙ c.in_ok-numbers.was);
}

pub returns-then-count-eq15-2 : goal.returns-then-count-eq15-2
returns-then-count-eq15-2 c =
    fifteen-all (slice_split (λ b. eqb b 44) c.args.word.now) c.loop-part.numbers c.loop-part.count
    (length c.loop-part.yielded) c.loop-part.invariant.counted (omega arith)
    (YieldsList-end (YieldsList-from_slice_split _ (λ b. eqb b 44) c.args.word.now (cc) (cc) (cc)
    (λ x b q k. search (rules, tests))) c.loop-part.yielded _ c.loop-part.yielded_by _ _ c.in-None.is
    c.next.ensures.steps).1 c.loop-part.invariant.whole c.loop-part.invariant.so_far

pub returns-else-count-eq15-2 : goal.returns-else-count-eq15-2
returns-else-count-eq15-2 c =
    fifteen-fewer (slice_split (λ b. eqb b 44) c.args.word.now) c.loop-part.count
    (length c.loop-part.yielded) c.loop-part.invariant.counted c.if-count-eq15-2.false
    (YieldsList-end (YieldsList-from_slice_split _ (λ b. eqb b 44) c.args.word.now (cc) (cc) (cc)
    (λ x b q k. search (rules, tests))) c.loop-part.yielded _ c.loop-part.yielded_by _ _ c.in-None.is
    c.next.ensures.steps).1

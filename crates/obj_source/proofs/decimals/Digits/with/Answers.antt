use Rattle.std.proofs.Common.{◌≡◌, ◌+◌, ◌||◌, ltb, arith, min, ◌∙◌}
use Rattle.std.proofs.lemmas.Bool.Decides.{nat_tests}
use Rattle.obj_source.proofs.SignificantLaws.{AreCounted_full, AreCounted_next}
use Rattle.obj_source.proofs.Powers.{power_small}
use Rattle.obj_source.proofs.decimals.Digits.with.Goals as goal
use Rattle.obj_source.proofs.decimals.Digits.with.Goals.{then-self-gt0, else-self-gt0}

pub returns-then-self-ge-MOST_DIGITS-clause-counted : goal.returns-then-self-ge-MOST_DIGITS-clause-counted
returns-then-self-ge-MOST_DIGITS-clause-counted c =
    λ before h. AreCounted_full c.args.self.value c.args.self.significant
    (48 + c.args.digit) before c.if-self-ge-MOST_DIGITS.true h

pub overflow_mul-result : goal.overflow_mul-result
overflow_mul-result c =
    let most = power_small (min c.args.self.significant 18) 18 (omega arith) in
    omega (arith, most)

pub overflow_add-result-2 : goal.overflow_add-result-2
overflow_add-result-2 c =
    let most = power_small (min c.args.self.significant 18) 18 (omega arith) in
    omega (arith, most)

pub returns-clause-counted : goal.returns-clause-counted
returns-clause-counted c =
    let s = c.args.self in
    let test : c.if-self-gt0.is_significant ≡ (ltb 0 s.significant || ltb 0 c.args.digit) =
    elim c.if-self-gt0.branch [
      | then-self-gt0 w ↦ w.is_significant-is ∙ grind (arith, nat_tests)
      | else-self-gt0 w ↦ w.is_significant-is ∙ grind (arith, nat_tests)
    ]
    in
    λ before h. rw (c.from.ensures, c.from-2.ensures) (
    AreCounted_next s.value s.significant c.args.digit c.if-self-gt0.is_significant before
    c.if-self-ge-MOST_DIGITS.false c.requires.digit test h)

use Rattle.std.proofs.Common.{◌≡◌, Ok, Err, ap, arith, ◌∙◌}
use Rattle.journal.proofs.Bounded.{journal_bounds}
use Rattle.journal.proofs.LineSteps.{read_end, step_accepted, step_comment, stop_bad}
use Rattle.journal.proofs.WithinTypes.{journal_typed}
use Rattle.journal.proofs.reading.read_journal.Goals.{in-Comment, in-Accepted}
use Rattle.journal.proofs.reading.read_journal.Goals as goal

pub loop-this-preserved : goal.loop-this-preserved
loop-this-preserved c = (
  elim c.match-branch-2.branch [
    | in-Comment w ↦
        step_comment c.loop-this.so_far _ c.loop-this.line _ c.in-Some.this.now _ _ _ c.loop-this.invariant.0
        c.in-Some.ensures.line
        c.in_ok-read_line.ensures.line_result w.in-Comment.is
        (w.so_far-is ∙ c.read_line.ensures.unchanged (c.in_ok-read_line.was ∙ ap Ok w.in-Comment.is))
    | in-Accepted w ↦
        step_accepted c.loop-this.so_far _ w.in-Accepted.builder c.loop-this.line _ c.in-Some.this.now _ _ _
        c.loop-this.invariant.0 c.in-Some.ensures.line
        c.in_ok-read_line.ensures.line_result w.in-Accepted.is w.so_far-is
  ],
  omega (arith, c.loop-this.invariant.1, c.in-Some.ensures.shorter),
)

pub returns-in-Bad-clause-outside : goal.returns-in-Bad-clause-outside
returns-in-Bad-clause-outside c line e =
    let same : c.loop-this.line ≡ line = cc in
    stop_bad c.loop-this.so_far c.loop-this.line _ c.in-Some.this.now _ _ _ c.loop-this.invariant.0
    c.in-Some.ensures.line
    c.in_ok-read_line.ensures.line_result c.in-Bad.is
    ∙ ap Err same

pub returns-in_ok-build-in-Some-so_far-clause-in_bounds : goal.returns-in_ok-build-in-Some-so_far-clause-in_bounds
returns-in_ok-build-in-Some-so_far-clause-in_bounds c =
    journal_bounds c.args.text.now c.in_ok-build-in-Some-so_far.field-0
    (read_end c.loop-this.so_far c.in-Some-so_far.builder _ c.loop-this.line _ _ c.loop-this.invariant.0
    c.in_default.ensures.line c.in-Some-so_far.is c.in_ok-build-in-Some-so_far.ensures)

pub returns-in_ok-build-in-Some-so_far-clause-typed : goal.returns-in_ok-build-in-Some-so_far-clause-typed
returns-in_ok-build-in-Some-so_far-clause-typed c =
    journal_typed c.args.text.now c.in_ok-build-in-Some-so_far.field-0
    (read_end c.loop-this.so_far c.in-Some-so_far.builder _ c.loop-this.line _ _ c.loop-this.invariant.0
    c.in_default.ensures.line c.in-Some-so_far.is c.in_ok-build-in-Some-so_far.ensures)

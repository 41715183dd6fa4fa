use Rattle.std.proofs.Common.{sym, ap, ◌++◌, List, ℕ, ◌∙◌}
use Rattle.std.proofs.lemmas.List.{append-nil}
use Rattle.report_text.proofs.TextRows.{row_text-none, word_put_first, word_put_later}
use Rattle.report_text.proofs.picture_texts.push_row.Goals as goal
use Rattle.report_text.proofs.picture_texts.push_row.Goals.{then-column-gt0+in_ok-push, else-column-gt0}

pub loop-column-init : goal.loop-column-init
loop-column-init c =
    let before : List ℕ = c.args.text.now.items in
    sym (append-nil before) ∙ ap (λ (l : List ℕ). before ++ l) (sym row_text-none)

pub loop-column-preserved : goal.loop-column-preserved
loop-column-preserved c =
    let before : List ℕ = c.args.text.now.items in
    let mid : List ℕ = c.if-column-gt0.text.items in
    let after : List ℕ = c.push_word.new.text.items in
    let within = c.loop-column-test.true in
    elim c.if-column-gt0.branch [
      | then-column-gt0+in_ok-push w ↦
          word_put_later before c.loop-column.text.items mid after c.args.row.now c.loop-column.column
          w.if-column-gt0.true within c.loop-column.invariant (cc
          (w.text-is, w.in_ok-push.ensures.items)) c.in_ok-push_word.ensures
      | else-column-gt0 w ↦
          word_put_first before c.loop-column.text.items mid after c.args.row.now c.loop-column.column
          w.if-column-gt0.false within c.loop-column.invariant (cc (w.text-is)) c.in_ok-push_word.ensures
    ]

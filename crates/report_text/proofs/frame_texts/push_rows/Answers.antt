use Rattle.std.proofs.Common.{◌≡◌, ◌/◌, ◌++◌, List, ℕ, length, ap, ◌∙◌, arith}
use Rattle.report_text.proofs.TextRows.{comments_above, comment_row_put}
use Rattle.report_text.proofs.frame_texts.push_rows.Goals as goal

pub loop-row-preserved : goal.loop-row-preserved
loop-row-preserved c =
    comment_row_put c.args.text.now.items c.loop-row.text.items c.push_comment_row.new.text.items
    c.as_slice-words.result.now c.args.rows.now.width c.loop-row.row c.loop-row.invariant
    c.in_ok-push_comment_row.ensures

pub returns : goal.returns
returns c =
    let before : List ℕ = c.args.text.now.items in
    let width : ℕ = c.args.rows.now.width in
    let words : List ℕ = c.as_slice-words.result.now in
    let at_end : c.loop-row.row ≡ length c.as_slice-words.result.now / c.args.rows.now.width = omega arith in
    c.loop-row.invariant
    ∙ ap (λ (n : ℕ). before ++ comments_above words width n) at_end
    ∙ ap (λ (l : List ℕ). before ++ comments_above l width (length l / width)) c.as_slice-words.ensures

use Rattle.std.proofs.Common.{◌≡◌, ◌/◌, length, ap, ◌∙◌, arith}
use Rattle.report_text.proofs.TextRows.{rows_above, row_put, picture_text_of-rows}
use Rattle.report_text.proofs.picture_texts.picture_text.Goals as goal

pub loop-row-preserved : goal.loop-row-preserved
loop-row-preserved c =
    row_put c.loop-row.text.items c.push_row.new.text.items c.push.new.self.items c.args.words.now c.args.width
    c.loop-row.row
    c.loop-row.invariant c.in_ok-push_row.ensures c.in_ok-push.ensures.items

pub returns : goal.returns
returns c =
    let at_end : c.loop-row.row ≡ length c.args.words.now / c.args.width = omega arith in
    c.loop-row.invariant ∙ ap (rows_above c.args.words.now c.args.width) at_end
    ∙ picture_text_of-rows c.args.words.now c.args.width

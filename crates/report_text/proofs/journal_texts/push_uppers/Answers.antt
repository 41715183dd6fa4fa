use Rattle.std.proofs.Common.{◌++◌, ◌∷◌, [], List, ℕ, ap, ◌∙◌}
use Rattle.journal.specs.Spelling.{upper_lines}
use Rattle.report_text.proofs.JournalLines.{lines_text, uppers_more}
use Rattle.report_text.proofs.journal_texts.push_uppers.Goals as goal

pub loop-page-preserved : goal.loop-page-preserved
loop-page-preserved c =
    let so_far : List ℕ = c.loop-page.text.items in
    uppers_more c.args.text.now.items so_far c.push_upper.new.text.items c.index-uppers-page.result c.args.uppers.now
    c.loop-page.page c.loop-page-test.true c.index-uppers-page.is c.loop-page.invariant
    (c.in_ok-push_upper.ensures
    ∙ ap (λ (l : List ℕ). so_far ++ lines_text (upper_lines c.loop-page.page (l ∷ []))) c.as_slice.ensures)

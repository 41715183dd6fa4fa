use Rattle.std.proofs.Common.{◌++◌, List, ℕ, ap, ◌∙◌}
use Rattle.journal.specs.Spelling.{upper_lines}
use Rattle.report_text.proofs.JournalLines.{journal_put, lines_text}
use Rattle.report_text.proofs.journal_texts.journal_text.Goals as goal

pub returns : goal.returns
returns c =
    let begun : List ℕ = c.push_layout.new.text.items in
    journal_put c.new-text.result.items begun c.push_uppers.new.text.items c.push_entries.new.text.items
    c.args.layout.now c.args.entries.now c.new-text.ensures.items c.in_ok-push_layout.ensures
    (c.in_ok-push_uppers.ensures
    ∙ ap (λ (l : List (List ℕ)). begun ++ lines_text (upper_lines 0 l)) c.as_slice.ensures)
    c.in_ok-push_entries.ensures

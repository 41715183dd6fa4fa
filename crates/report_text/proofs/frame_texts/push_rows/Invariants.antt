use Rattle.std.proofs.Common.{◌≡◌, ◌++◌}
use Rattle.report_text.proofs.TextRows.{comments_above}
use Rattle.report_text.proofs.frame_texts.push_rows.Given as goal

-- the rows so far have been written
abbrev pub invariant-loop-row : goal.invariant-loop-row
invariant-loop-row l = l.text.items ≡ l.fn.text.items ++ comments_above l.words l.width l.row

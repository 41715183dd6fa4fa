use Rattle.std.proofs.Common.{◌≡◌}
use Rattle.report_text.proofs.TextRows.{rows_above}
use Rattle.report_text.proofs.picture_texts.picture_text.Given as goal

-- the rows so far have been written
abbrev pub invariant-loop-row : goal.invariant-loop-row
invariant-loop-row l = l.text.items ≡ rows_above l.words l.width l.row

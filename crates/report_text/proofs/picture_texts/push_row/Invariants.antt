use Rattle.std.proofs.Common.{◌≡◌, ◌++◌, take}
use Rattle.report_text.specs.PictureText.{row_text}
use Rattle.report_text.proofs.picture_texts.push_row.Given as goal

-- the words so far have been written
abbrev pub invariant-loop-column : goal.invariant-loop-column
invariant-loop-column l = l.text.items ≡ l.fn.text.items ++ row_text (take l.column l.row)

use Rattle.std.proofs.Common.{◌≡◌, ◌++◌, take}
use Rattle.journal.specs.Spelling.{upper_lines}
use Rattle.report_text.proofs.JournalLines.{lines_text}
use Rattle.report_text.proofs.journal_texts.push_uppers.Given as goal

-- the lines of the pages so far have been written
abbrev pub invariant-loop-page : goal.invariant-loop-page
invariant-loop-page l = l.text.items ≡ l.fn.text.items ++ lines_text (upper_lines 0 (take l.page l.uppers))

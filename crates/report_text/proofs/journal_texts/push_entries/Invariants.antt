use Rattle.std.proofs.Common.{◌≡◌, ◌++◌, map, take}
use Rattle.journal.specs.Spelling.{entry_fields}
use Rattle.report_text.proofs.JournalLines.{lines_text}
use Rattle.report_text.proofs.journal_texts.push_entries.Given as goal

-- the lines of the entries so far have been written
abbrev pub invariant-loop-entry : goal.invariant-loop-entry
invariant-loop-entry l =
    l.text.items ≡ l.fn.text.items ++ lines_text (map entry_fields (take l.entry-index l.entries))

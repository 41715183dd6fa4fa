use Rattle.std.proofs.Common.{◌≡◌, ◌≤◌, ◌+◌, length}
use Rattle.journal.specs.Grammar.{journal_of, lines_of, read_from}
use Rattle.journal.proofs.reading.read_journal.Given as goal

-- the text spells what the lines so far and the lines left do
abbrev pub invariant-loop-this : goal.invariant-loop-this
invariant-loop-this l =
    (read_from l.so_far l.line (lines_of l.left) ≡ journal_of l.text) × (l.line + length l.left ≤ length l.text + 1)

abbrev pub decreases-loop-this : goal.decreases-loop-this
decreases-loop-this l = length l.left

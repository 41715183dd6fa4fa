use Rattle.std.proofs.Common.{◌≡◌, ◌≤◌, length, min}
use Rattle.journal.specs.Grammar.{up_to}
use Rattle.journal.proofs.journal_builder.pad_to.Given as goal

-- the pages before the counter have their lists
abbrev pub invariant-loop : goal.invariant-loop
invariant-loop l =
    (l.uppers.items ≡ up_to l.fn.uppers.items (min l.counter l.page)) × (length l.fn.uppers.items ≤ l.counter)

use Rattle.std.proofs.Common.{◌≡◌, drop}
use Rattle.journal.specs.Layout.{ascends_from}
use Rattle.journal.proofs.pages.ascends.Given as goal

-- what is left ascends from `low` exactly where the whole ascends
abbrev pub invariant-loop-number : goal.invariant-loop-number
invariant-loop-number l =
    ascends_from l.low (drop l.number-index l.numbers) ≡ ascends_from 0 l.numbers

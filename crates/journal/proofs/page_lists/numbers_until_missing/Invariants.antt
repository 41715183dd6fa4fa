use Rattle.std.proofs.Common.{◌≡◌, ◌++◌, length}
use Rattle.std.specs.Option.{option_map}
use Rattle.journal.specs.RestOfLine.{until_missing}
use Rattle.journal.proofs.page_lists.numbers_until_missing.Given as goal

-- what the fields spell is what was read, and then what the fields left spell
abbrev pub invariant-loop-field : goal.invariant-loop-field
invariant-loop-field l =
    option_map (λ found. (l.numbers.items ++ found.0, found.1)) (until_missing l.left) ≡ until_missing l.fn.fields

abbrev pub decreases-loop-field : goal.decreases-loop-field
decreases-loop-field l = length l.left

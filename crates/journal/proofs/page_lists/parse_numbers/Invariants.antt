use Rattle.std.proofs.Common.{◌≡◌, ◌++◌, length}
use Rattle.std.specs.Option.{option_map}
use Rattle.journal.specs.Grammar.{numbers_of}
use Rattle.journal.proofs.page_lists.parse_numbers.Given as goal

-- what the fields spell is what was read, and then what the fields left spell
abbrev pub invariant-loop-field : goal.invariant-loop-field
invariant-loop-field l =
    option_map (λ rest. l.numbers.items ++ rest) (numbers_of l.limit l.left) ≡ numbers_of l.limit l.fn.fields

abbrev pub decreases-loop-field : goal.decreases-loop-field
decreases-loop-field l = length l.left

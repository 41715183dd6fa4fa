use Rattle.std.proofs.Common.{◌≡◌, ◌++◌, map, take}
use Rattle.std.specs.Fmt.{decimal}
use Rattle.report_text.specs.Internal.Spaced.{spaced}
use Rattle.report_text.proofs.line_fields.push_numbers.Given as goal

-- the numbers so far have been written
abbrev pub invariant-loop-number : goal.invariant-loop-number
invariant-loop-number l = l.text.items ≡ l.fn.text.items ++ spaced (map decimal (take l.number-index l.numbers))

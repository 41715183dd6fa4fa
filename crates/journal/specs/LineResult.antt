-- What one line of a text is, after the lines before it.
use Rattle.std.specs.Prelude.{ℕ, List, Option, None, Some, if◌then◌else◌}
use Rattle.journal.specs.Grammar.{fields_of, is_comment, with_line}
use Rattle.journal.specs.declared.journals.Journal.{Journal}
use Rattle.journal.specs.declared.reading.LineResult.{LineResult}
use Rattle.journal.specs.declared.reading.LineResult.TheVariants.{Comment, Accepted, Bad}

-- the journal with the line, where the line is of the grammar
abbrev pub accepted_or_bad : Option Journal → LineResult
accepted_or_bad None = Bad
accepted_or_bad (Some journal) = Accepted journal

unfoldable pub line_result : Option Journal → List ℕ → LineResult
line_result so_far text =
    if is_comment text then Comment else accepted_or_bad (with_line so_far (fields_of text))

-- What of a text was appended to a sink when its writing failed.
use Rattle.std.specs.Prelude.{◌≤◌, ℕ, List, Option, length, take}
use Rattle.span_io.specs.Puts.{Appended}

-- a prefix of the text was appended, perhaps nothing, perhaps all of it
pub record AppendsPrefix (written new_written : Option (List ℕ)) (text : List ℕ) : Type 0 where
  pub count : ℕ
  pub within : count ≤ length text
  pub appended : Appended written new_written (take count text)

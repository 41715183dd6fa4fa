-- What the words of a command line name outside of the program.
use Rattle.std.specs.Prelude.{◌≡◌, ℕ, String, List, [], ◌∷◌, string_bytes, Option, Some, None, option_map}
use Rattle.geode_tool.specs.declared.commands.Command.{Command}
use Rattle.geode_tool.specs.declared.commands.Command.TheVariants.{Draw, Audit, Make, Build, Verify}
use Rattle.geode_tool.specs.declared.named_files.Wanted.{Wanted}
use Rattle.geode_tool.specs.Commands.{sources_needed}

-- the second word, if there are two words
abbrev pub second_word : List (List ℕ) → Option (List ℕ)
second_word (name ∷ file ∷ []) = Some file
second_word _ = None

-- the file that the words of a command name: the second word of `verify`
abbrev pub file_named : Command → List (List ℕ) → Option (List ℕ)
file_named (Draw request) words = None
file_named Audit words = None
file_named (Make request) words = None
file_named Build words = None
file_named Verify words = second_word words

-- what the words of a command name, and how many page sources the command needs; no command has a mirror or a cache yet
pub record IsWanted (words : List (List ℕ)) (wanted : Wanted) (command : Command) : Type 0 where
  pub file : option_map string_bytes wanted.file ≡ file_named command words
  pub mirror : wanted.mirror ≡ None
  pub cache : wanted.cache ≡ 0
  pub count : wanted.count ≡ sources_needed command

-- The command that words ask for, by what the code tests of them.
use Rattle.std.proofs.Common.{◌≡◌, ℕ, List, true, false, Some, None, option_map}
use Rattle.geode_tool.specs.declared.commands.BoxRequest.{BoxRequest}
use Rattle.geode_tool.specs.declared.commands.Command.TheVariants.{Draw, Audit, Make, Build, Verify}
use Rattle.geode_tool.specs.Words.{command_words, draw_words, make_words, is_audit, is_build, is_verify}

pub command_words-audit : (words : List (List ℕ)) → is_audit words ≡ true → command_words words ≡ Some Audit
unfolding command_words
command_words-audit words e = rw e

pub command_words-build : (words : List (List ℕ)) → is_audit words ≡ false → is_build words ≡ true →
    command_words words ≡ Some Build
unfolding command_words
command_words-build words e b = rw (e, b)

pub command_words-verify : (words : List (List ℕ)) → is_audit words ≡ false → is_build words ≡ false →
    is_verify words ≡ true → command_words words ≡ Some Verify
unfolding command_words
command_words-verify words e b v = rw (e, b, v)

pub command_words-make : (words : List (List ℕ)) (request : BoxRequest) → is_audit words ≡ false →
    is_build words ≡ false → is_verify words ≡ false →
    make_words words ≡ Some request → command_words words ≡ Some (Make request)
unfolding command_words
command_words-make words request e b v made = rw (e, b, v, made)

pub command_words-other : (words : List (List ℕ)) → is_audit words ≡ false → is_build words ≡ false →
    is_verify words ≡ false → make_words words ≡ None →
    command_words words ≡ option_map Draw (draw_words words)
unfolding command_words
command_words-other words e b v none = rw (e, b, v, none)

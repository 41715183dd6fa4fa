-- the texts so far are those of the first words
use Rattle.std.proofs.Common.{◌≡◌, map, string_bytes, take}
use Rattle.geode_tool.proofs.program.slices_of.Given as goal

abbrev pub invariant-words : goal.invariant-words
invariant-words l = map (λ w. w.now) l.slices.items ≡ map string_bytes (take l.word-index l.words)

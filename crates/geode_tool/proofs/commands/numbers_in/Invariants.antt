-- the numbers so far and those of the parts that are left are those of all
use Rattle.std.proofs.Common.{◌≡◌, ◌≤◌, ◌==◌, ◌++◌, length, take, drop, option_map}
use Rattle.std.specs.List.{slice_split}
use Rattle.std.specs.Str.{byte}
use Rattle.geode_tool.specs.Words.{numbers_of}
use Rattle.geode_tool.proofs.commands.numbers_in.Given as goal

abbrev pub invariant-loop-part : goal.invariant-loop-part
invariant-loop-part l =
    let parts = slice_split (λ b. b == byte ",") l.word in
    record {
      can_next : (goal.iterator-loop-part).can_next l.part-iterator;
      is_finite : (goal.iterator-loop-part).is_finite l.part-iterator;
      counted : l.count ≡ length l.yielded;
      room : l.count ≤ 15;
      whole : length l.numbers ≡ 15;
      so_far : option_map (λ ns. take l.count l.numbers ++ ns) (numbers_of (drop l.count parts)) ≡ numbers_of parts;
    }

use Rattle.std.proofs.Common.{◌≡◌, ℕ, ◌<◌, ◌≤◌, ◌^◌, true, take, get_or}
use Rattle.std.specs.Char.{is_ascii_digit}
use Rattle.std.specs.List.{list_all}
use Rattle.std.specs.Str.Parse.{digits_value}
use Rattle.obj_source.proofs.references.number_before_slash.Given as goal

-- the bytes so far are digits, at most 18, and `number` is what they write
abbrev pub invariant-loop-len : goal.invariant-loop-len
invariant-loop-len l = record {
  each_digit : (k : ℕ) → k < l.len → is_ascii_digit (get_or l.bytes k 0) ≡ true;
  all_digits : list_all is_ascii_digit (take l.len l.bytes) ≡ true;
  value : l.number ≡ digits_value 10 (take l.len l.bytes);
  small : l.number < 10 ^ l.len;
  short : l.len ≤ 18;
}

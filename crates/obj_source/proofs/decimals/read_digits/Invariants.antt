use Rattle.std.proofs.Common.{◌≡◌, ℕ, ◌+◌, ◌<◌, ◌≤◌, true, List, ◌++◌, take, get_or}
use Rattle.std.specs.Char.{is_ascii_digit}
use Rattle.obj_source.specs.Scans.{AreCounted}
use Rattle.obj_source.proofs.decimals.read_digits.Given as goal

-- the bytes so far are digits, and counted behind those before
abbrev pub invariant-loop-len : goal.invariant-loop-len
invariant-loop-len l = record {
  are_digits : (k : ℕ) → k < l.len → is_ascii_digit (get_or l.bytes k 0) ≡ true;
  counted : (digits : List ℕ) → AreCounted l.fn.before.value l.fn.before.significant digits →
      AreCounted l.digits.value l.digits.significant (digits ++ take l.len l.bytes);
  room : l.digits.significant ≤ l.fn.before.significant + l.len;
}

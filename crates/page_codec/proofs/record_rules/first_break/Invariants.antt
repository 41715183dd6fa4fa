use Rattle.std.proofs.Common.{◌≡◌, ◌+◌, ◌*◌, ◌-◌, ◌≤◌, ◌<◌, ◌^◌, length}
use Rattle.page_codec.specs.Breaks.{breaks_in, first_of}
use Rattle.page_codec.proofs.record_rules.first_break.Given as goal

-- the first break is in what is left
abbrev pub invariant-records : goal.invariant-records
invariant-records g l =
    let size = g.R.RecordRules.size in
    let rules = g.R.RecordRules.broken l.rules in
    record {
      room : size * (l.count - l.k) ≤ length l.rest;
      place : l.offset + size * (l.count - l.k) < 2 ^ 32;
      first : first_of (breaks_in rules size l.offset (l.count - l.k) l.rest) ≡ first_of
          (breaks_in rules size l.start l.count l.bytes);
    }

use Rattle.std.proofs.Common.{◌≡◌, ◌*◌, ◌-◌, ◌≤◌, ◌++◌, length}
use Rattle.page_codec.specs.Numbers.{records}
use Rattle.page_codec.proofs.tables.read_records.Given as goal

-- the records so far and those that are left
abbrev pub invariant-records : goal.invariant-records
invariant-records g l =
    let size = g.R.Record.size in
    let read = g.R.Record.reads in
    record {
      room : size * (l.count - l.k) ≤ length l.rest;
      all : l.items.items ++ records read size (l.count - l.k) l.rest ≡ records read size l.count l.bytes;
    }

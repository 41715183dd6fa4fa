use Rattle.std.proofs.Common.{◌≡◌, ◌++◌, take}
use Rattle.std.specs.List.{flat_map}
use Rattle.page_codec.proofs.tables.append_records.Given as goal

abbrev pub invariant-records : goal.invariant-records
invariant-records g l = l.out.items ≡ l.initial.out.items ++ flat_map g.R.Record.spells (take l.record-index l.records)

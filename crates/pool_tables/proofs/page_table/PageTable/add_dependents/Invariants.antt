use Rattle.std.proofs.Common.{take}
use Rattle.pool_tables.specs.Changes.{HaveMoreDependents}
use Rattle.pool_tables.proofs.page_table.PageTable.add_dependents.Given as goal

-- the uppers up to the place have one dependent more
abbrev pub invariant-loop-upper : goal.invariant-loop-upper
invariant-loop-upper l = HaveMoreDependents (take l.upper-index l.uppers) l.initial.self l.self

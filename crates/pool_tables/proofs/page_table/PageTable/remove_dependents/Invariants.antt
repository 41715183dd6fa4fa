use Rattle.std.proofs.Common.{take}
use Rattle.pool_tables.specs.Changes.{HaveFewerDependents}
use Rattle.pool_tables.proofs.page_table.PageTable.remove_dependents.Given as goal

-- the uppers up to the place have one dependent less
abbrev pub invariant-loop-upper : goal.invariant-loop-upper
invariant-loop-upper l = HaveFewerDependents (take l.upper-index l.uppers) l.initial.self l.self

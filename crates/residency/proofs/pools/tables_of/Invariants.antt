use Rattle.std.proofs.Common.{◌≡◌, take, drop}
use Rattle.pool_rules.specs.Rules.{first_refused, first_refused_after}
use Rattle.residency.specs.Internal.Tables.{AreLegalTables}
use Rattle.residency.proofs.pools.tables_of.Given as goal

-- each entry so far was allowed, and the tables are theirs
abbrev pub invariant-loop-place : goal.invariant-loop-place
invariant-loop-place l = record {
  past : AreLegalTables l.layout (take l.place l.entries) l.tables;
  allowed : first_refused_after l.layout (take l.place l.entries) (drop l.place l.entries) ≡ first_refused l.layout
      l.entries;
}

-- The first break of the rules of a DAG's triangles: 6 edge sums, 7 sources, 8 corners.
use Rattle.std.specs.Prelude.{◌≡◌, ℕ, length, Option, Some}
use Rattle.std.specs.List.{find, range_with_len}
use Rattle.std.specs.Option.{option_map, option_or}
use Rattle.dag_core.specs.declared.dags.Dag.{Dag}
use Rattle.dag_core.specs.TriangleRules.{dag_breaks}
use Rattle.dag_soundness.specs.declared.faults.RuleBreak.{RuleBreak}
use Rattle.dag_soundness.specs.declared.faults.TriangleFault.{TriangleFault}
use Rattle.dag_soundness.specs.declared.faults.TriangleFault.TheVariants.{Broken, Memory}

-- the first of n indexes at which the rule is broken
unfoldable pub first_rule_break : ℕ → Dag → ℕ → Option RuleBreak
first_rule_break rule dag n =
    option_map (λ index. record { rule = rule; index = index }) (find (dag_breaks rule dag) (range_with_len 0 n))

-- the first of rules 6 to 8 that is broken, at its first index: a group, a source triangle, a cluster
unfoldable pub first_dag_break : Dag → Option RuleBreak
first_dag_break dag = option_or (first_rule_break 6 dag (length dag.heads.groups))
    (option_or (first_rule_break 7 dag dag.heads.sources) (first_rule_break 8 dag (length dag.heads.clusters)))

-- why triangles are refused: the first break; memory may run out at any time
abbrev pub Refuses : Option RuleBreak → TriangleFault → Type 0
Refuses found (Broken broken) = found ≡ Some broken
Refuses found Memory = Unit {0}

-- The first break of rules 6 to 8, from the first break of each.
use Rattle.std.proofs.Common.{◌≡◌, ◌==◌, ◌≤◌, ℕ, Bool, false, not, ◌&&◌, nat_lt, length, Some, None}
use Rattle.std.proofs.Common.{Option, refl, ap, ◌∙◌, arith, inl, inr}
use Rattle.std.specs.List.{find, range_with_len}
use Rattle.std.specs.Option.{option_map, option_or}
use Rattle.std.proofs.lemmas.Bool.{cases_lt}
use Rattle.std.proofs.lemmas.Bool.Decides.{nat_tests}
use Rattle.dag_core.specs.declared.dags.Dag.{Dag}
use Rattle.dag_core.specs.TriangleRules.{breaks_corners, breaks_source, breaks_sums}
use Rattle.dag_core.specs.Triangles.{leaf_tris_from}
use Rattle.dag_soundness.specs.declared.faults.RuleBreak.{RuleBreak}
use Rattle.dag_soundness.specs.FirstBreaks.{first_dag_break, first_rule_break}
use Rattle.dag_soundness.proofs.NumberLaws.{fails_all}

-- the break of this rule at an index
abbrev at_index : ℕ → ℕ → RuleBreak
at_index rule index = record { rule = rule; index = index }

-- the first breaks of the rules, in order
abbrev in_order : Option ℕ → Option ℕ → Option ℕ → Option RuleBreak
in_order group source cluster =
    option_or (option_map (at_index 6) group)
    (option_or (option_map (at_index 7) source) (option_map (at_index 8) cluster))

-- the first group, source and cluster at which rules 6, 7 and 8 are broken
abbrev pub first_group : Dag → Option ℕ
first_group dag = find (breaks_sums dag) (range_with_len 0 (length dag.heads.groups))

abbrev pub first_source : Dag → Option ℕ
first_source dag = find (breaks_source dag) (range_with_len 0 dag.heads.sources)

abbrev pub first_cluster : Dag → Option ℕ
first_cluster dag = find (breaks_corners dag) (range_with_len 0 (length dag.heads.clusters))

ordered : (dag : Dag) → first_dag_break dag ≡ in_order (first_group dag) (first_source dag) (first_cluster dag)
unfolding first_dag_break first_rule_break
ordered dag = refl

pub sums_first : (dag : Dag) (index : ℕ) → first_group dag ≡ Some index → first_dag_break dag ≡ Some (at_index 6 index)
sums_first dag index group =
    ordered dag ∙ ap (λ g. in_order g (first_source dag) (first_cluster dag)) group

pub source_first : (dag : Dag) (index : ℕ) → first_group dag ≡ None → first_source dag ≡ Some index →
    first_dag_break dag ≡ Some (at_index 7 index)
source_first dag index group source =
    ordered dag
    ∙ (ap (λ g. in_order g (first_source dag) (first_cluster dag)) group
    ∙ ap (λ s. in_order None s (first_cluster dag)) source)

pub corners_first : (dag : Dag) (index : ℕ) → first_group dag ≡ None → first_source dag ≡ None →
    first_cluster dag ≡ Some index → first_dag_break dag ≡ Some (at_index 8 index)
corners_first dag index group source cluster =
    ordered dag
    ∙ (ap (λ g. in_order g (first_source dag) (first_cluster dag)) group
    ∙ (ap (λ s. in_order None s (first_cluster dag)) source ∙ ap (λ c. in_order None None c) cluster))

pub none_first : (dag : Dag) → first_group dag ≡ None → first_source dag ≡ None → first_cluster dag ≡ None →
    first_dag_break dag ≡ None
none_first dag group source cluster =
    ordered dag
    ∙ (ap (λ g. in_order g (first_source dag) (first_cluster dag)) group
    ∙ (ap (λ s. in_order None s (first_cluster dag)) source ∙ ap (λ c. in_order None None c) cluster))

source_beyond : (dag : Dag) (source : ℕ) → dag.heads.sources ≤ source → breaks_source dag source ≡ false
unfolding breaks_source
source_beyond dag source beyond = outside source dag.heads.sources (length (leaf_tris_from dag source) == 1) beyond
  where
    outside : (k n : ℕ) (b : Bool) → n ≤ k → (nat_lt k n && not b) ≡ false
    outside k n b beyond = grind (arith, nat_tests)

-- where no source breaks rule 7
pub sources_kept : (dag : Dag) → first_source dag ≡ None → (source : ℕ) → breaks_source dag source ≡ false
sources_kept dag none source =
    elim (cases_lt source dag.heads.sources) [
      | inl below ↦ fails_all (breaks_source dag) dag.heads.sources none source below
      | inr beyond ↦ source_beyond dag source beyond
    ]

-- what the check of the three rules needs
pub ruleset break_rules = (sums_first, source_first, corners_first, none_first, sources_kept)

use Rattle.std.proofs.Common.{◌+◌, ◌∙◌, length, ap, sym}
use Rattle.dag_build.specs.Outcomes.{is_terminal}
use Rattle.dag_build.proofs.OutcomeLaws.{goes_on, outcome-is}
use Rattle.dag_build.proofs.outcomes.outcome_of.Goals as goal

pub group_error-requires : goal.group_error-requires
group_error-requires c = record {
  error_range = λ off. (goes_on c.args.level_clusters c.len-count.result _
      (c.in_ok-simplified.simplified.moved + c.greatest_error.result)
      (sym c.is_terminal-terminal.ensures.terminal ∙ off)).error_limit;
}

pub returns-clause-outcome : goal.returns-clause-outcome
returns-clause-outcome c = λ made makes.
    let is = c.in_ok-simplified.ensures.simplified in
    let left = c.in_ok-simplified.simplified.tris in
    let sum = c.in_ok-simplified.simplified.moved + c.greatest_error.result in
    outcome-is c.args.members.now c.args.level_clusters c.in_ok-tris.tris.items c.in_ok-locked.locked.keys is.0
    c.in_ok-simplified.simplified.moved c.greatest_error.result left c.is_terminal-terminal.result c.group_error.result
    c.in_ok-cube.cube c.in_ok-tris.ensures.triangles c.in_ok-locked.ensures.points is.1 is.2 is.3
    c.greatest_error.ensures.error
    (c.is_terminal-terminal.ensures.terminal ∙
    (ap (λ n. is_terminal c.args.level_clusters n (length c.as_slice.result.now) sum) (c.len-count.ensures ∙
    c.in_ok-tris.tris.ok.0)
    ∙ ap (λ xs. is_terminal c.args.level_clusters (length c.in_ok-tris.tris.items) (length xs) sum) c.as_slice.ensures))
    c.group_error.ensures.error c.in_ok-cube.ensures.cube made makes

use Rattle.std.proofs.Common.{sym, subst, ◌∙◌}
use Rattle.dag_core.specs.TriangleRules.{IsLaidOut}
use Rattle.page_file.proofs.LaidRules.{laid_dag, laid_parts}
use Rattle.page_file.proofs.laying.lay_out.Goals as goal

pub returns-clause-laid_out : goal.returns-clause-laid_out
returns-clause-laid_out c =
    let dag = c.args.dag in
    let groups = c.of.ensures ∙ c.in_ok-groups.ensures.groups in
    subst IsLaidOut
    (sym (laid_parts dag c.of.result c.in_ok-groups.field-0.pages c.root_count-roots.result groups
    c.in_ok-groups.ensures.pages c.root_count-roots.ensures.roots)) (laid_dag dag c.requires.rules)

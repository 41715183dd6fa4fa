use Rattle.std.proofs.Common.{Err, ap}
use Rattle.dag_core.specs.declared.faults.CheckFault.{CheckFault}
use Rattle.page_file.proofs.Rules.{rules-kept, rules-broken}
use Rattle.page_file.proofs.directories.check_rules.Goals as goal

pub returns-in-Ok-clause-kept : goal.returns-in-Ok-clause-kept
returns-in-Ok-clause-kept c = rules-kept c.args.heads.now c.in-Ok.ensures.checked

pub returns-in-Err-Rule-clause-refused : goal.returns-in-Err-Rule-clause-refused
returns-in-Err-Rule-clause-refused c =
    rules-broken c.args.heads.now c.in-Err-Rule.number c.in-Err-Rule.index
    (c.in-Err-Rule.ensures.first_break c.in-Err-Rule.number c.in-Err-Rule.index
    (ap (λ (fault : CheckFault). Err fault) c.in-Err-Rule.field-0-is))

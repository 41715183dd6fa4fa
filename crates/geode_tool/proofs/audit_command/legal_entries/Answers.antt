use Rattle.geode_tool.proofs.AuditAnswers.{text_refused, judge_refused}
use Rattle.geode_tool.proofs.audit_command.legal_entries.Goals as goal

pub returns-in_err-text-clause-refused : goal.returns-in_err-text-clause-refused
returns-in_err-text-clause-refused g c =
    text_refused _ _ _ _ _ c.in_err-text.field-0.0 c.from_residual.ensures c.in_err-text.ensures.refused

pub returns-clause-refused : goal.returns-clause-refused
returns-clause-refused g c =
    judge_refused c.entries_of.result _ _ c.in_ok-text.text.items _ _ c.in_ok-text.ensures.text
    c.in_ok-text.ensures.read_to_end (rw c.deref.ensures.value at c.entries_of.ensures.refused)

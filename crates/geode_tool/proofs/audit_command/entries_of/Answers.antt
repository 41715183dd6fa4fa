use Rattle.geode_tool.proofs.AuditAnswers.{journal_refused, replay_refused, audit_answer-replayed}
use Rattle.geode_tool.proofs.audit_command.entries_of.Goals as goal

pub returns-in_err-layout-clause-refused : goal.returns-in_err-layout-clause-refused
returns-in_err-layout-clause-refused c =
    journal_refused _ c.args.text.now c.in_err-layout.field-0.0 c.from_residual.ensures c.requires
    c.in_err-layout.ensures.outside

pub returns-in_err-pool-clause-refused : goal.returns-in_err-pool-clause-refused
returns-in_err-pool-clause-refused c =
    replay_refused _ c.args.text.now c.in_ok-layout.field-0 c.into_vec.result.items c.in_err-pool.field-0.0
    c.from_residual-in_err-pool.ensures c.requires c.in_ok-layout.ensures.read c.into_vec.ensures
    c.in_err-pool.ensures.illegal

pub returns-clause-legal : goal.returns-clause-legal
returns-clause-legal c =
    audit_answer-replayed c.args.text.now c.in_ok-layout.field-0 c.in_ok-pool.pool c.into_vec.result.items
    c.journal.result.now
    c.requires c.in_ok-layout.ensures.read c.into_vec.ensures c.in_ok-pool.ensures.legal c.in_ok-pool.ensures.replayed
    c.journal.ensures.entries

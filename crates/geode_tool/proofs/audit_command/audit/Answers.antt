use Rattle.std.proofs.Common.{refl, ◌∙◌}
use Rattle.geode_tool.specs.declared.commands.Command.TheVariants.{Audit}
use Rattle.geode_tool.specs.declared.faults.Done.TheVariants.{Audited}
use Rattle.geode_tool.specs.declared.faults.Fault.TheVariants.{Memory}
use Rattle.geode_tool.proofs.AuditAnswers.{memory-stops, verdict_made}
use Rattle.geode_tool.proofs.Promise.{promise-refused, promise-unwritten, promise-done}
use Rattle.geode_tool.proofs.audit_command.audit.Goals as goal

pub returns-in_err-entries : goal.returns-in_err-entries
returns-in_err-entries g c = record {
  promise =
      promise-refused Audit _ _ _ _ _ _ _ _ _ c.in_err-entries.field-0.0 refl c.from_residual.ensures
      c.in_err-entries.ensures.refused c.legal_entries.ensures.fault_count;
}

pub returns-in_err-verdict : goal.returns-in_err-verdict
returns-in_err-verdict g c = record {
  promise =
      promise-refused Audit _ _ _ _ _ _ _ _ _ Memory refl c.from_residual-in_err-verdict.ensures
      (memory-stops _ _ _ _) c.legal_entries.ensures.fault_count;
}

pub returns-in_err-write_whole : goal.returns-in_err-write_whole
returns-in_err-write_whole g c =
    let made =
    verdict_made _ _ _ _ c.in_ok-entries.entries c.as_bytes.result.now c.in_ok-entries.ensures.legal
    (c.as_bytes.ensures.value ∙ c.in_ok-verdict.ensures) c.in_ok-entries.ensures.input_read
    c.in_ok-entries.ensures.no_fault in record {
      promise =
          promise-unwritten Audit _ _ _ _ _ _ _ _ _ _ _ _ _ c.in_err-write_whole.field-0.0
          (Audited c.in_ok-entries.entries) c.as_bytes.result.now
          c.from_residual-in_err-write_whole.ensures c.in_err-write_whole.ensures.write_fault made
          c.in_err-write_whole.ensures.cause c.in_err-write_whole.ensures.prefix;
    }

pub returns : goal.returns
returns g c =
    let made =
    verdict_made _ _ _ _ c.in_ok-entries.entries c.as_bytes.result.now c.in_ok-entries.ensures.legal
    (c.as_bytes.ensures.value ∙ c.in_ok-verdict.ensures) c.in_ok-entries.ensures.input_read
    c.in_ok-entries.ensures.no_fault in record {
      promise =
          promise-done Audit _ _ _ _ _ _ _ _ _ _ _ _
          (Audited c.in_ok-entries.entries) c.as_bytes.result.now made c.in_ok-write_whole.ensures.output
          c.in_ok-write_whole.ensures.flushed c.in_ok-write_whole.ensures.no_fault;
    }

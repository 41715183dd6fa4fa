use Rattle.geode_tool.proofs.VerifyAnswers.{refused_pages}
use Rattle.geode_tool.proofs.verify_command.sound_counts.Goals as goal

pub returns-in_err-verify_pages-clause-refused : goal.returns-in_err-verify_pages-clause-refused
returns-in_err-verify_pages-clause-refused g c =
    refused_pages g.P.PageSource.holds g.P.PageSource.faults c.args.sources.now.items c.as_slice.result.now
    c.index_mut.result.now
    c.verify_pages.new.src c.is_empty.result c.from_residual.result c.in_err-verify_pages.field-0.0
    c.as_slice.ensures.value c.is_empty.ensures
    c.if-is_empty.false c.index_mut.ensures.value c.from_residual.ensures c.in_err-verify_pages.ensures.refused
    c.in_err-verify_pages.ensures.digests c.verify_pages.ensures.unchanged c.verify_pages.ensures.fault_count

use Rattle.std.proofs.Common.{◌∙◌, arith}
use Rattle.geode_tool.specs.declared.commands.Command.TheVariants.{Verify}
use Rattle.geode_tool.specs.declared.faults.Done.TheVariants.{Verified}
use Rattle.geode_tool.specs.declared.faults.Fault.TheVariants.{Memory}
use Rattle.geode_tool.specs.Inputs.{sources_of}
use Rattle.geode_tool.proofs.VerifyAnswers.{memory_stops, pages_made}
use Rattle.geode_tool.proofs.Promise.{done_with, refused_with, unwritten_with}
use Rattle.geode_tool.proofs.verify_command.verify.Goals as goal

pub returns-in_err-counts-clause-promise : goal.returns-in_err-counts-clause-promise
returns-in_err-counts-clause-promise g c left faults =
    let sources = sources_of g.P.PageSource.holds g.P.PageSource.faults c.args.sources.now.items in
    let new_sources = sources_of g.P.PageSource.holds g.P.PageSource.faults c.sound_counts.new.sources.items in
    let refuses = c.in_err-counts.ensures.refused left faults in
    refused_with Verify sources new_sources left left faults faults _ _ _ _ _ c.in_err-counts.field-0.0
    c.from_residual.ensures refuses.stops refuses.cause (omega arith)

pub returns-in_err-line-clause-promise : goal.returns-in_err-line-clause-promise
returns-in_err-line-clause-promise g c left faults =
    let sources = sources_of g.P.PageSource.holds g.P.PageSource.faults c.args.sources.now.items in
    let new_sources = sources_of g.P.PageSource.holds g.P.PageSource.faults c.sound_counts.new.sources.items in
    let refuses = memory_stops left faults sources new_sources c.sound_counts.ensures.kept in
    refused_with Verify sources new_sources left left faults faults _ _ _ _ _ Memory
    c.from_residual-in_err-line.ensures refuses.stops refuses.cause (omega arith)

pub returns-in_err-write_whole-clause-promise : goal.returns-in_err-write_whole-clause-promise
returns-in_err-write_whole-clause-promise g c left faults =
    let sources = sources_of g.P.PageSource.holds g.P.PageSource.faults c.args.sources.now.items in
    let new_sources = sources_of g.P.PageSource.holds g.P.PageSource.faults c.sound_counts.new.sources.items in
    let made =
    pages_made left faults sources new_sources c.in_ok-counts.counts c.deref.result.now
    c.in_ok-counts.ensures.verified c.sound_counts.ensures.kept
    (c.deref.ensures.value ∙ c.in_ok-line.ensures.text) in
    unwritten_with Verify sources new_sources left left faults faults _ _ _ _ _ _ _ _ _ c.in_err-write_whole.field-0.0
    (Verified c.in_ok-counts.counts) c.deref.result.now
    c.from_residual-in_err-write_whole.ensures c.in_err-write_whole.ensures.write_fault made
    c.in_err-write_whole.ensures.cause c.in_err-write_whole.ensures.prefix

pub returns-clause-promise : goal.returns-clause-promise
returns-clause-promise g c left faults =
    let sources = sources_of g.P.PageSource.holds g.P.PageSource.faults c.args.sources.now.items in
    let new_sources = sources_of g.P.PageSource.holds g.P.PageSource.faults c.sound_counts.new.sources.items in
    let made =
    pages_made left faults sources new_sources c.in_ok-counts.counts c.deref.result.now
    c.in_ok-counts.ensures.verified c.sound_counts.ensures.kept
    (c.deref.ensures.value ∙ c.in_ok-line.ensures.text) in
    done_with Verify sources new_sources left left faults faults _ _ _ _ _ _ _ _
    (Verified c.in_ok-counts.counts) c.deref.result.now made c.in_ok-write_whole.ensures.output
    c.in_ok-write_whole.ensures.flushed c.in_ok-write_whole.ensures.no_fault

use Rattle.std.proofs.Common.{Err, ap}
use Rattle.page_codec.specs.Spelling.{file_bytes}
use Rattle.geode_tool.specs.declared.commands.Command.TheVariants.{Build}
use Rattle.geode_tool.specs.declared.faults.Done.TheVariants.{Built}
use Rattle.geode_tool.proofs.BuildAnswers.{file_made, file_refused}
use Rattle.geode_tool.proofs.Promise.{promise-done}
use Rattle.geode_tool.proofs.build_command.build.Goals as goal

pub returns-in_err-write_pages : goal.returns-in_err-write_pages
returns-in_err-write_pages g c =
    let made =
    file_made _ _ _ _ c.in_ok-dag.dag c.counts-counts.result c.in_ok-dag.ensures.built
    c.counts-counts.ensures.counts
    c.in_ok-dag.ensures.input_read c.in_ok-dag.ensures.no_fault in
    record {
      promise =
          file_refused g.K.Sink.written g.K.Sink.flushed g.K.Sink.faults _ _ _ _ c.args.out.now c.write_pages.new.out _
          c.in_err-write_pages.field-0.0 c.counts-counts.result (file_bytes c.in_ok-dag.dag)
          c.from_residual-in_err-write_pages.ensures made
          (λ is. c.in_err-write_pages.ensures.cause (ap Err is)) (λ is. c.in_err-write_pages.ensures.prefix (ap Err is))
          (λ is. c.in_err-write_pages.ensures.memory (ap Err is)) c.built_dag.ensures.fault_count;
    }

pub returns : goal.returns
returns g c =
    let made =
    file_made _ _ _ _ c.in_ok-dag.dag c.counts-counts.result c.in_ok-dag.ensures.built
    c.counts-counts.ensures.counts
    c.in_ok-dag.ensures.input_read c.in_ok-dag.ensures.no_fault in
    record {
      promise =
          promise-done Build _ _ _ _ _ _ _ _ _ _ _ _ (Built c.counts-counts.result) (file_bytes c.in_ok-dag.dag) made
          c.in_ok-write_pages.ensures.file c.in_ok-write_pages.ensures.flushed c.in_ok-write_pages.ensures.no_fault;
    }

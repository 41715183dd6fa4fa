use Rattle.std.proofs.Common.{◌∙◌}
use Rattle.geode_tool.specs.declared.commands.Command.TheVariants.{Make}
use Rattle.geode_tool.specs.declared.faults.Done.TheVariants.{Made}
use Rattle.geode_tool.proofs.MakeAnswers.{box_made}
use Rattle.geode_tool.proofs.Promise.{promise-done}
use Rattle.geode_tool.proofs.make_command.make.Goals as goal

pub returns : goal.returns
returns g c = record {
  promise = λ left faults.
      promise-done (Make c.args.request.now) left left faults faults _ _ _ _ _ _ _ _ Made c.deref.result.now
      (box_made c.args.request.now left faults c.deref.result.now
      (c.deref.ensures.value ∙ c.in_ok-text.ensures.text))
      c.in_ok-write_whole.ensures.output c.in_ok-write_whole.ensures.flushed c.in_ok-write_whole.ensures.no_fault;
}

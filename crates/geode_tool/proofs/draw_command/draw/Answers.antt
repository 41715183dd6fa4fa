use Rattle.std.proofs.Common.{refl, sym, subst}
use Rattle.geode_tool.specs.declared.commands.Command.TheVariants.{Draw}
use Rattle.geode_tool.specs.declared.faults.Done.TheVariants.{Drawn}
use Rattle.geode_tool.specs.Draw.{IsPictureText}
use Rattle.geode_tool.proofs.DrawAnswers.{picture_made}
use Rattle.geode_tool.proofs.Promise.{promise-refused, promise-unwritten, promise-done}
use Rattle.geode_tool.proofs.draw_command.draw.Goals as goal

pub returns-in_err-text : goal.returns-in_err-text
returns-in_err-text g c = record {
  promise =
      promise-refused (Draw c.args.request.now) _ _ _ _ _ _ _ _ _ c.in_err-text.field-0.0 refl c.from_residual.ensures
      c.in_err-text.ensures.refused c.drawn_text.ensures.fault_count;
}

pub returns-in_err-write_whole : goal.returns-in_err-write_whole
returns-in_err-write_whole g c =
    let picture =
    subst (IsPictureText c.args.request.now (g.S.Source.left c.args.input.now))
    (sym c.deref.ensures.value) c.in_ok-text.ensures.picture in
    let made =
    picture_made c.args.request.now _ _ _ _ c.deref.result.now picture c.in_ok-text.ensures.input_read
    c.in_ok-text.ensures.no_fault in record {
      promise =
          promise-unwritten (Draw c.args.request.now) _ _ _ _ _ _ _ _ _ _ _ _ _ c.in_err-write_whole.field-0.0 Drawn
          c.deref.result.now
          c.from_residual-in_err-write_whole.ensures c.in_err-write_whole.ensures.write_fault made
          c.in_err-write_whole.ensures.cause c.in_err-write_whole.ensures.prefix;
    }

pub returns : goal.returns
returns g c =
    let picture =
    subst (IsPictureText c.args.request.now (g.S.Source.left c.args.input.now))
    (sym c.deref.ensures.value) c.in_ok-text.ensures.picture in
    let made =
    picture_made c.args.request.now _ _ _ _ c.deref.result.now picture c.in_ok-text.ensures.input_read
    c.in_ok-text.ensures.no_fault in record {
      promise =
          promise-done (Draw c.args.request.now) _ _ _ _ _ _ _ _ _ _ _ _ Drawn c.deref.result.now made
          c.in_ok-write_whole.ensures.output c.in_ok-write_whole.ensures.flushed c.in_ok-write_whole.ensures.no_fault;
    }

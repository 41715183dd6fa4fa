use Rattle.std.proofs.Common.{Some, None, ap, refl, sym, ◌∙◌, arith}
use Rattle.geode_tool.specs.declared.commands.Command.TheVariants.{Draw, Audit, Make, Build, Verify}
use Rattle.geode_tool.specs.declared.faults.UsageKind.TheVariants.{Line}
use Rattle.geode_tool.specs.Inputs.{sources_of}
use Rattle.geode_tool.proofs.Promise.{if_some, no_usage, untouched}
use Rattle.geode_tool.proofs.VerifyAnswers.{lacking, lacking-refused}
use Rattle.geode_tool.proofs.tool.geode.Goals as goal

pub returns-in-Some-Draw : goal.returns-in-Some-Draw
returns-in-Some-Draw g c =
    let asked = sym c.command_of.ensures.asked ∙ c.in-Some-Draw.is ∙ ap Some c.in-Some-Draw.field-0-is in
    let sources = sources_of g.P.PageSource.holds g.P.PageSource.faults c.args.sources.now.items in record {
      usage = (
        λ usage. absurd (no_usage (Draw c.in-Some-Draw.request) _ _ c.draw.result Line c.draw.ensures.promise usage),
        λ none. cc (sym none ∙ asked),
      );
      unchanged = λ none. cc (sym none ∙ asked);
      no_source = if_some _ _ _ asked (λ lack. absurd (omega (arith, lack)));
      only_refused = if_some _ _ _ asked (λ lack. absurd (omega (arith, lack)));
      input_unchanged = if_some _ _ _ asked (λ takes. cc);
      sources_unchanged = if_some _ _ _ asked (λ none. refl);
      promise =
          if_some _ _ _ asked (untouched (Draw c.in-Some-Draw.request) sources _ _ c.draw.result refl
          c.draw.ensures.promise);
    }

pub returns-in-Some-Audit : goal.returns-in-Some-Audit
returns-in-Some-Audit g c =
    let asked = sym c.command_of.ensures.asked ∙ c.in-Some-Audit.is ∙ ap Some c.in-Some-Audit.field-0-is in
    let sources = sources_of g.P.PageSource.holds g.P.PageSource.faults c.args.sources.now.items in record {
      usage = (
        λ usage. absurd (no_usage Audit _ _ c.audit.result Line c.audit.ensures.promise usage),
        λ none. cc (sym none ∙ asked),
      );
      unchanged = λ none. cc (sym none ∙ asked);
      no_source = if_some _ _ _ asked (λ lack. absurd (omega (arith, lack)));
      only_refused = if_some _ _ _ asked (λ lack. absurd (omega (arith, lack)));
      input_unchanged = if_some _ _ _ asked (λ takes. cc);
      sources_unchanged = if_some _ _ _ asked (λ none. refl);
      promise = if_some _ _ _ asked (untouched Audit sources _ _ c.audit.result refl c.audit.ensures.promise);
    }

pub returns-in-Some-Build : goal.returns-in-Some-Build
returns-in-Some-Build g c =
    let asked = sym c.command_of.ensures.asked ∙ c.in-Some-Build.is ∙ ap Some c.in-Some-Build.field-0-is in
    let sources = sources_of g.P.PageSource.holds g.P.PageSource.faults c.args.sources.now.items in record {
      usage = (
        λ usage. absurd (no_usage Build _ _ c.build.result Line c.build.ensures.promise usage),
        λ none. cc (sym none ∙ asked),
      );
      unchanged = λ none. cc (sym none ∙ asked);
      no_source = if_some _ _ _ asked (λ lack. absurd (omega (arith, lack)));
      only_refused = if_some _ _ _ asked (λ lack. absurd (omega (arith, lack)));
      input_unchanged = if_some _ _ _ asked (λ takes. cc);
      sources_unchanged = if_some _ _ _ asked (λ none. refl);
      promise = if_some _ _ _ asked (untouched Build sources _ _ c.build.result refl c.build.ensures.promise);
    }

pub returns-in-Some-Make : goal.returns-in-Some-Make
returns-in-Some-Make g c =
    let asked = sym c.command_of.ensures.asked ∙ c.in-Some-Make.is ∙ ap Some c.in-Some-Make.field-0-is in
    let sources = sources_of g.P.PageSource.holds g.P.PageSource.faults c.args.sources.now.items in record {
      usage = (
        λ usage.
            absurd (no_usage (Make c.in-Some-Make.request) _ _ c.make.result Line
            (c.make.ensures.promise None 0) usage),
        λ none. cc (sym none ∙ asked),
      );
      unchanged = λ none. cc (sym none ∙ asked);
      no_source = if_some _ _ _ asked (λ lack. absurd (omega (arith, lack)));
      only_refused = if_some _ _ _ asked (λ lack. absurd (omega (arith, lack)));
      input_unchanged = if_some _ _ _ asked (λ takes. refl);
      sources_unchanged = if_some _ _ _ asked (λ none. refl);
      promise = if_some _ _ _ asked (untouched (Make c.in-Some-Make.request) sources _ _ c.make.result refl
          (c.make.ensures.promise (g.S.Source.left c.args.input.now) (g.S.Source.faults c.args.input.now)));
    }

pub returns-in-Some-Verify : goal.returns-in-Some-Verify
returns-in-Some-Verify g c =
    let asked = sym c.command_of.ensures.asked ∙ c.in-Some-Verify.is ∙ ap Some c.in-Some-Verify.field-0-is in
    let items = c.args.sources.now.items in record {
      usage = (
        λ usage. absurd (no_usage Verify _ _ c.verify.result Line (c.verify.ensures.promise None 0) usage),
        λ none. cc (sym none ∙ asked),
      );
      unchanged = λ none. cc (sym none ∙ asked);
      no_source = if_some _ _ _ asked (λ lack.
          lacking-refused items c.verify.result lack (c.verify.ensures.no_source (lacking items lack)).0);
      only_refused = if_some _ _ _ asked (λ lack. (
        refl,
        (c.verify.ensures.no_source (lacking items lack)).1,
        (c.verify.ensures.no_source (lacking items lack)).2,
      ));
      input_unchanged = if_some _ _ _ asked (λ takes. refl);
      sources_unchanged = if_some _ _ _ asked (λ none. cc);
      promise = if_some _ _ _ asked
          (c.verify.ensures.promise (g.S.Source.left c.args.input.now) (g.S.Source.faults c.args.input.now));
    }

use Rattle.std.proofs.Common.{sym, ap, ◌∙◌, Option, option_map}
use Rattle.geode_tool.specs.declared.commands.Command.TheVariants.{Draw}
use Rattle.geode_tool.specs.declared.commands.DrawRequest.{DrawRequest}
use Rattle.geode_tool.proofs.CommandWords.{command_words-audit, command_words-build, command_words-make}
use Rattle.geode_tool.proofs.CommandWords.{command_words-other, command_words-verify}
use Rattle.geode_tool.proofs.commands.command_of.Goals as goal

pub returns-then-is_audit-clause-asked : goal.returns-then-is_audit-clause-asked
returns-then-is_audit-clause-asked c =
    sym (command_words-audit _ (sym c.is_audit.ensures ∙ c.if-is_audit.true))

pub returns-then-is_build-clause-asked : goal.returns-then-is_build-clause-asked
returns-then-is_build-clause-asked c =
    sym (command_words-build _ (sym c.is_audit.ensures ∙ c.if-is_audit.false)
    (sym c.is_build.ensures ∙ c.if-is_build.true))

pub returns-then-is_verify-clause-asked : goal.returns-then-is_verify-clause-asked
returns-then-is_verify-clause-asked c =
    sym (command_words-verify _ (sym c.is_audit.ensures ∙ c.if-is_audit.false)
    (sym c.is_build.ensures ∙ c.if-is_build.false) (sym c.is_verify.ensures ∙ c.if-is_verify.true))

pub returns-in-Some-clause-asked : goal.returns-in-Some-clause-asked
returns-in-Some-clause-asked c =
    sym (command_words-make _ c.in-Some.request (sym c.is_audit.ensures ∙ c.if-is_audit.false)
    (sym c.is_build.ensures ∙ c.if-is_build.false) (sym c.is_verify.ensures ∙ c.if-is_verify.false)
    (sym c.make_of.ensures.asked ∙ c.in-Some.is))

pub returns-in_err-draw_of-clause-asked : goal.returns-in_err-draw_of-clause-asked
returns-in_err-draw_of-clause-asked c =
    let none = sym c.draw_of.ensures.asked ∙ c.in_err-draw_of.was in
    c.from_residual.ensures
    ∙ sym (command_words-other _ (sym c.is_audit.ensures ∙ c.if-is_audit.false)
    (sym c.is_build.ensures ∙ c.if-is_build.false) (sym c.is_verify.ensures ∙ c.if-is_verify.false)
    (sym c.make_of.ensures.asked ∙ c.in_default.is) ∙
    ap (λ (request : Option DrawRequest). option_map Draw request) none)

pub returns-clause-asked : goal.returns-clause-asked
returns-clause-asked c =
    let found = sym c.draw_of.ensures.asked ∙ c.in_ok-draw_of.was in
    sym (command_words-other _ (sym c.is_audit.ensures ∙ c.if-is_audit.false)
    (sym c.is_build.ensures ∙ c.if-is_build.false) (sym c.is_verify.ensures ∙ c.if-is_verify.false)
    (sym c.make_of.ensures.asked ∙ c.in_default.is) ∙
    ap (λ (request : Option DrawRequest). option_map Draw request) found)

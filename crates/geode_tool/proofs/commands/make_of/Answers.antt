use Rattle.std.proofs.Common.{arith, Some, None, refl, ap, sym, ◌∙◌}
use Rattle.geode_tool.specs.Words.{box_size, box_number}
use Rattle.geode_tool.proofs.MakeWords.{make_words-other, make_words-named, make_words-values}
use Rattle.geode_tool.proofs.commands.make_of.Goals as goal

pub returns-in_default-clause-asked : goal.returns-in_default-clause-asked
returns-in_default-clause-asked c =
    make_words-other c.args.words.now (λ e. omega (arith, c.in_default.len_below))

pub returns-in_default-2-clause-asked : goal.returns-in_default-2-clause-asked
returns-in_default-2-clause-asked c =
    make_words-other c.args.words.now (λ e. omega (arith, c.in_default.len_at_least))

pub returns-then-ne-clause-asked : goal.returns-then-ne-clause-asked
returns-then-ne-clause-asked c =
    make_words-named c.args.words.now c.ne.result c.in-len3.len_at_least c.in-len3.len_below c.ne.ensures c.if-ne.true

pub returns-in_err-size-clause-asked : goal.returns-in_err-size-clause-asked
returns-in_err-size-clause-asked c =
    let size = sym (c.box_size.ensures.number ∙ ap box_size c.as_bytes.ensures.value) ∙ c.in_err-size.was in
    c.from_residual.ensures ∙
    make_words-values c.args.words.now c.ne.result None _ c.in-len3.len_at_least c.in-len3.len_below c.ne.ensures
    c.if-ne.false size refl

pub returns-in_err-number-clause-asked : goal.returns-in_err-number-clause-asked
returns-in_err-number-clause-asked c =
    let size = sym (c.box_size.ensures.number ∙ ap box_size c.as_bytes.ensures.value) ∙ c.in_ok-size.was in
    let number = sym (c.box_number.ensures.number ∙ ap box_number c.as_bytes-2.ensures.value) ∙ c.in_err-number.was in
    c.from_residual-in_err-number.ensures ∙
    make_words-values c.args.words.now c.ne.result (Some _) None c.in-len3.len_at_least c.in-len3.len_below c.ne.ensures
    c.if-ne.false size number

pub returns-clause-asked : goal.returns-clause-asked
returns-clause-asked c =
    let size = sym (c.box_size.ensures.number ∙ ap box_size c.as_bytes.ensures.value) ∙ c.in_ok-size.was in
    let number = sym (c.box_number.ensures.number ∙ ap box_number c.as_bytes-2.ensures.value) ∙ c.in_ok-number.was in
    make_words-values c.args.words.now c.ne.result (Some _) (Some _) c.in-len3.len_at_least c.in-len3.len_below
    c.ne.ensures c.if-ne.false size number

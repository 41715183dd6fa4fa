use Rattle.std.proofs.Common.{arith, Some, None, refl, ap, sym, ◌∙◌}
use Rattle.std.proofs.lemmas.Bool.Decides.{nat_tests}
use Rattle.geode_tool.specs.Words.{side, camera}
use Rattle.geode_tool.proofs.DrawWords.{draw_words-other, draw_words-named, draw_words-values}
use Rattle.geode_tool.proofs.commands.draw_of.Goals as goal
use Rattle.geode_tool.proofs.commands.draw_of.Goals.{in_default-via-then-words-lt4}
use Rattle.geode_tool.proofs.commands.draw_of.Goals.{in_default-via-else-words-lt4+else-words-lt5}

pub returns-in_default-clause-asked : goal.returns-in_default-clause-asked
returns-in_default-clause-asked c =
    draw_words-other c.args.words.now (λ e. elim c.in_default.branch [
      | in_default-via-then-words-lt4 w ↦ absurd
          (grind (arith, nat_tests))
      | in_default-via-else-words-lt4+else-words-lt5 w ↦
          absurd (grind (arith, nat_tests))
    ])

pub returns-then-ne-clause-asked : goal.returns-then-ne-clause-asked
returns-then-ne-clause-asked c =
    draw_words-named c.args.words.now c.ne.result c.in-len4.len_at_least c.in-len4.len_below c.ne.ensures c.if-ne.true

pub returns-in_err-side-clause-asked : goal.returns-in_err-side-clause-asked
returns-in_err-side-clause-asked c =
    let width = sym (c.side.ensures.number ∙ ap side c.as_bytes.ensures.value) ∙ c.in_err-side.was in
    c.from_residual.ensures ∙ draw_words-values c.args.words.now c.ne.result None _ _ c.in-len4.len_at_least
    c.in-len4.len_below c.ne.ensures c.if-ne.false width refl refl

pub returns-in_err-side-2-clause-asked : goal.returns-in_err-side-2-clause-asked
returns-in_err-side-2-clause-asked c =
    let width = sym (c.side.ensures.number ∙ ap side c.as_bytes.ensures.value) ∙ c.in_ok-side.was in
    let height = sym (c.side-2.ensures.number ∙ ap side c.as_bytes-2.ensures.value) ∙ c.in_err-side-2.was in
    c.from_residual-in_err-side-2.ensures ∙ draw_words-values c.args.words.now c.ne.result
    (Some _) None _ c.in-len4.len_at_least c.in-len4.len_below c.ne.ensures c.if-ne.false width height refl

pub returns-in_err-camera-clause-asked : goal.returns-in_err-camera-clause-asked
returns-in_err-camera-clause-asked c =
    let width = sym (c.side.ensures.number ∙ ap side c.as_bytes.ensures.value) ∙ c.in_ok-side.was in
    let height = sym (c.side-2.ensures.number ∙ ap side c.as_bytes-2.ensures.value) ∙ c.in_ok-side-2.was in
    let view = sym (c.camera_in.ensures ∙ ap camera c.as_bytes-3.ensures.value) ∙ c.in_err-camera.was in
    c.from_residual-in_err-camera.ensures ∙ draw_words-values c.args.words.now c.ne.result (Some _)
    (Some _) None c.in-len4.len_at_least c.in-len4.len_below c.ne.ensures c.if-ne.false width height view

pub returns-clause-asked : goal.returns-clause-asked
returns-clause-asked c =
    let width = sym (c.side.ensures.number ∙ ap side c.as_bytes.ensures.value) ∙ c.in_ok-side.was in
    let height = sym (c.side-2.ensures.number ∙ ap side c.as_bytes-2.ensures.value) ∙ c.in_ok-side-2.was in
    let view = sym (c.camera_in.ensures ∙ ap camera c.as_bytes-3.ensures.value) ∙ c.in_ok-camera.was in
    draw_words-values c.args.words.now c.ne.result (Some _) (Some _)
    (Some _) c.in-len4.len_at_least c.in-len4.len_below c.ne.ensures c.if-ne.false width height view

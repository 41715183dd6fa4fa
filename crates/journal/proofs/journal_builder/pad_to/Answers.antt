use Rattle.std.proofs.Common.{◌≡◌, ◌∙◌, ap, arith, min}
use Rattle.journal.proofs.Padding.{padded}
use Rattle.journal.specs.Grammar.{up_to}
use Rattle.journal.proofs.journal_builder.pad_to.Goals as goal

pub loop-preserved : goal.loop-preserved
loop-preserved c = (
  padded c.args.uppers.now.items c.loop.uppers.items c.push.new.self.items c.of.result c.loop.counter c.args.page
      c.in_ok-push.ensures.items (c.of.ensures ∙ c.new.ensures.items) c.loop.invariant.0 c.loop.invariant.1
      c.loop-test.true,
  omega (arith, c.loop.invariant.1),
)

pub returns : goal.returns
returns c =
    let end : min c.loop.counter c.args.page ≡ c.args.page = omega (arith, c.loop-test.false) in
    c.loop.invariant.0 ∙ ap (up_to c.args.uppers.now.items) end

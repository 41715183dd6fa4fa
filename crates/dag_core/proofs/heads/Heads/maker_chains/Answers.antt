use Rattle.std.proofs.Common.{◌≡◌, ◌∙◌, None, length, ap, arith}
use Rattle.std.proofs.lemmas.List.FromFn.{fill_by_all}
use Rattle.dag_core.specs.Internal.Marks.{last_made}
use Rattle.dag_core.proofs.ClosingLaws.{chain_before, chain_last}
use Rattle.dag_core.proofs.heads.Heads.maker_chains.Goals as goal

pub loop-c-preserved : goal.loop-c-preserved
loop-c-preserved c =
    let slice : length c.as_slice-count.result.now ≡ length c.args.self.now.clusters =
    ap length c.as_slice-count.ensures in
    record {
      count = c.link.ensures.count ∙ c.loop-c.invariant.count;
      last =
          λ p below. chain_last c.args.self.now p c.loop-c.c c.maker_page.result _ _ c.maker_page.ensures.page
          (c.loop-c.invariant.last p below) (c.link.ensures.last p);
      before = c.in_ok-push.ensures.items
          ∙ chain_before c.args.self.now c.loop-c.c c.maker_page.result c.link.result c.loop-c.last.items
          c.loop-c.before.items c.requires.range (omega arith)
          c.maker_page.ensures.page c.loop-c.invariant.last c.link.ensures.before c.loop-c.invariant.before;
    }

pub returns-clause-last : goal.returns-clause-last
returns-clause-last c =
    let slice : length c.as_slice-count.result.now ≡ length c.args.self.now.clusters =
    ap length c.as_slice-count.ensures in
    let end : c.loop-c.c ≡ length c.args.self.now.clusters = omega arith in
    fill_by_all (λ p. last_made c.args.self.now p (length c.args.self.now.clusters)) c.loop-c.last.items
    c.args.self.now.pages None c.loop-c.invariant.count
    (λ p below. c.loop-c.invariant.last p below ∙ ap (last_made c.args.self.now p) end)

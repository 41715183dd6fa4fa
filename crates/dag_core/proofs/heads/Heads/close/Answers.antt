use Rattle.std.proofs.Common.{◌≡◌, ◌||◌, length, take, ap, ◌∙◌, arith, nat_lt}
use Rattle.std.proofs.lemmas.List.{take_all}
use Rattle.dag_core.specs.PageSets.{has_page}
use Rattle.dag_core.proofs.ClosingLaws.{least_closed_from}
use Rattle.dag_core.proofs.heads.Heads.close.Goals as goal

pub returns : goal.returns
returns c =
    let slice : length c.as_slice-page-items.result.now ≡ length c.args.pages.now =
    ap length c.as_slice-page-items.ensures in
    let end : take c.loop-page.page-index c.args.pages.now ≡ c.args.pages.now = take_all _ _ (omega arith) in
    record {
      closed = least_closed_from c.args.self.now c.args.pages.now c.loop-page.marks.items c.in_ok-closed.closed
          (λ p. c.loop-page.invariant.marks p ∙ ap (λ xs. nat_lt p c.args.self.now.roots || has_page xs p) end)
          c.in_ok-closed.ensures.closure;
    }

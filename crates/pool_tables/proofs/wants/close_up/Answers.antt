use Rattle.std.proofs.Common.{◌≤◌, ◌/◌, arith, length, rules, sym, ◌∙◌}
use Rattle.std.proofs.lemmas.Fn.{filter_same}
use Rattle.std.specs.List.{count_by}
use Rattle.pool_tables.specs.WantQueue.{counts_in, stands}
use Rattle.pool_tables.proofs.WantLists.{closed_up-half}
use Rattle.pool_tables.proofs.wants.close_up.Goals as goal

pub returns-then-standing_count-len-clause-wants : goal.returns-then-standing_count-len-clause-wants
returns-then-standing_count-len-clause-wants c =
    let counts = counts_in c.args.pages.now.records c.args.frames.now in
    let ws = c.args.wants.now.items in
    let standing_now = rw c.deref.ensures.value at c.standing_count.ensures in
    let half : count_by (stands counts) ws ≤ length ws / 2 =
    omega (arith, standing_now, c.len.ensures, c.args.wants.now.ok.0, c.if-standing_count-len.true) in
    filter_same _ _ _ (λ x b f' k. search rules) _ _ c.retain.ensures.filtered ∙ sym (closed_up-half counts ws half)

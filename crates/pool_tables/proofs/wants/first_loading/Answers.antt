use Rattle.std.proofs.Common.{Bool, false, Some, ap, find, sym, ◌∙◌}
use Rattle.pool_rules.specs.declared.want.Want.{Want}
use Rattle.pool_tables.specs.WantQueue.{counts_in, is_loading_in, standing}
use Rattle.pool_tables.specs.declared.queued_want.QueuedWant.{QueuedWant}
use Rattle.pool_tables.proofs.WantLists.{find-found, find-next}
use Rattle.pool_tables.proofs.wants.first_loading.Goals as goal

abbrev no_want : QueuedWant
no_want = record { frame = record { 0 = 0 }; page = 0; settled = false; made_at = 0 }

pub loop-queued-preserved : goal.loop-queued-preserved
loop-queued-preserved c =
    let counts = counts_in c.args.pages.now.records c.args.frames.now in
    let test : Want → Bool = is_loading_in c.args.pages.now.records c.args.frame.0 in
    find-next counts test c.args.wants.now c.loop-queued.queued-index no_want
    (find test (standing counts c.args.wants.now)) c.loop-queued-test.true
    (sym c.is_loading.ensures ∙ c.if-is_loading.false) c.loop-queued.invariant

pub returns-then-is_loading : goal.returns-then-is_loading
returns-then-is_loading c =
    let counts = counts_in c.args.pages.now.records c.args.frames.now in
    let test : Want → Bool = is_loading_in c.args.pages.now.records c.args.frame.0 in
    ap (λ (w : Want). Some w) c.want.ensures ∙
    find-found counts test c.args.wants.now c.loop-queued.queued-index no_want
    (find test (standing counts c.args.wants.now)) c.loop-queued-test.true
    (sym c.is_loading.ensures ∙ c.if-is_loading.true) c.loop-queued.invariant

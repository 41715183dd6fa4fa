use Rattle.std.proofs.Common.{Bool, false, Some, ap, find, sym, ◌∙◌}
use Rattle.std.specs.Option.{option_map}
use Rattle.pool_rules.specs.declared.want.Want.{Want}
use Rattle.pool_tables.specs.WantQueue.{counts_in, is_takeable_in, standing}
use Rattle.pool_tables.specs.declared.frame_item.FrameId.{FrameId}
use Rattle.pool_tables.specs.declared.queued_want.QueuedWant.{QueuedWant}
use Rattle.pool_tables.proofs.WantLists.{find-found, find-next}
use Rattle.pool_tables.proofs.wants.first_takeable.Goals as goal

abbrev no_want : QueuedWant
no_want = record { frame = record { 0 = 0 }; page = 0; settled = false; made_at = 0 }

pub loop-queued-preserved : goal.loop-queued-preserved
loop-queued-preserved c =
    let counts = counts_in c.args.pages.now.records c.args.frames.now in
    let test : Want → Bool =
    is_takeable_in c.args.layout.now c.args.pages.now.records (option_map (λ (f : FrameId). f.0) c.args.frame) in
    find-next counts test c.args.wants.now c.loop-queued.queued-index no_want
    (find test (standing counts c.args.wants.now)) c.loop-queued-test.true
    (sym c.is_takeable.ensures ∙ c.if-is_takeable.false) c.loop-queued.invariant

pub returns-then-is_takeable : goal.returns-then-is_takeable
returns-then-is_takeable c =
    let counts = counts_in c.args.pages.now.records c.args.frames.now in
    let test : Want → Bool =
    is_takeable_in c.args.layout.now c.args.pages.now.records (option_map (λ (f : FrameId). f.0) c.args.frame) in
    ap (λ (w : Want). Some w) c.want.ensures ∙
    find-found counts test c.args.wants.now c.loop-queued.queued-index no_want
    (find test (standing counts c.args.wants.now)) c.loop-queued-test.true
    (sym c.is_takeable.ensures ∙ c.if-is_takeable.true) c.loop-queued.invariant

use Rattle.std.proofs.Common.{◌+◌, ◌==◌, ◌&&◌, ap, arith, drop, false, get_or, ◌∙◌}
use Rattle.pool_rules.specs.State.{waits_for}
use Rattle.pool_tables.specs.FrameItems.{asked_in, ended_in, item_of, pin_count}
use Rattle.pool_tables.specs.WantQueue.{counts_in, is_waiting, standing}
use Rattle.pool_tables.specs.declared.queued_want.QueuedWant.{QueuedWant}
use Rattle.pool_tables.proofs.InstalledWants.{asked-grown, ended-grown, grown, is_waiting-alike, items-step, pins-step}
use Rattle.pool_tables.proofs.WantLists.{from-place}
use Rattle.pool_tables.proofs.wants.install.Goals as goal

abbrev no_want : QueuedWant
no_want = record { frame = record { 0 = 0 }; page = 0; settled = false; made_at = 0 }

pub loop-want-preserved : goal.loop-want-preserved
loop-want-preserved c =
    let records = c.args.pages.now.records in
    let page = c.args.page in
    let first = c.args.frames.now in
    let cur = c.loop-want.frames in
    let new = c.install_for-pins.new.frames in
    let counts = counts_in records first in
    let ws = c.args.wants.now in
    let k = c.loop-want.want-index in
    let w = get_or ws k no_want in
    let old = c.loop-want.invariant in
    let done = c.install_for-pins.ensures in
    let b = is_waiting (counts_in records cur) page w in
    let same = is_waiting-alike records cur first page w (old.asked w.frame.0) (old.ended w.frame.0) old.last_asked in
    record {
      items =
          λ n. items-step counts page n w (drop k ws) (drop (k + 1) ws) b (item_of cur n) (item_of new n)
          (grown (waits_for (standing counts ws) n page) page (item_of first n))
          (from-place ws k no_want c.loop-want-test.true) (old.items n) same (done.items n);
      asked =
          λ n. ap asked_in (done.items n) ∙ (asked-grown (b && (w.frame.0 == n)) page (item_of cur n) ∙ old.asked n);
      ended =
          λ n. ap ended_in (done.items n) ∙ (ended-grown (b && (w.frame.0 == n)) page (item_of cur n) ∙ old.ended n);
      last_asked = done.last_asked ∙ old.last_asked;
      ordered = λ sorted. done.ordered (old.ordered sorted);
      pins =
          λ p. pins-step (page == p) (pin_count first.items p) (pin_count cur.items p)
          (pin_count new.items p) c.loop-want.pins c.install_for-pins.result (old.pins p) (done.pins p);
      few = omega (arith, old.few, done.one);
    }

use Rattle.std.proofs.Common.{◌≡◌, ◌+◌, ◌≤◌, ◌==◌, ℕ, cond, drop}
use Rattle.std.specs.List.Sorted.{IsStrictlySortedBy}
use Rattle.std.specs.Map.{keys_of}
use Rattle.std.specs.Option.{option_map}
use Rattle.std.specs.Ordering.{nat_cmp}
use Rattle.pool_rules.specs.State.{waits_for}
use Rattle.pool_tables.specs.FrameItems.{asked_in, ended_in, installed_item, item_of, pin_count}
use Rattle.pool_tables.specs.WantQueue.{counts_in, standing}
use Rattle.pool_tables.proofs.wants.install.Given as goal

abbrev pub invariant-loop-want : goal.invariant-loop-want
invariant-loop-want l = record {
  items : (n : ℕ) → cond (waits_for (standing (counts_in l.pages.records l.fn.frames) (drop l.want-index l.wants)) n
      l.page) (option_map (installed_item l.page) (item_of l.frames n)) (item_of l.frames n) ≡ cond
      (waits_for (standing (counts_in l.pages.records l.fn.frames) l.wants) n l.page)
      (option_map (installed_item l.page) (item_of l.fn.frames n)) (item_of l.fn.frames n);
  asked : (n : ℕ) → asked_in (item_of l.frames n) ≡ asked_in (item_of l.fn.frames n);
  ended : (n : ℕ) → ended_in (item_of l.frames n) ≡ ended_in (item_of l.fn.frames n);
  last_asked : l.frames.last_asked ≡ l.fn.frames.last_asked;
  ordered : IsStrictlySortedBy nat_cmp (keys_of l.fn.frames.items) →
      IsStrictlySortedBy nat_cmp (keys_of l.frames.items);
  pins : (p : ℕ) → pin_count l.frames.items p ≡ pin_count l.fn.frames.items p + cond (l.page == p) l.pins 0;
  few : l.pins ≤ l.want-index;
}

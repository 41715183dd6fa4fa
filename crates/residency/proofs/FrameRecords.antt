-- The items are those of the state's frames, by counts at installs that are the same page by page.
use Rattle.std.proofs.Common.{◌≡◌, ℕ, List, Bool, false, ◌&&◌, ◌||◌, Option, Some, None, get_or, sym, ap, ◌∙◌}
use Rattle.pool_rules.specs.Frame.{Frame}
use Rattle.pool_rules.specs.Numbers.{is_among}
use Rattle.pool_tables.specs.Eviction.{is_in_snapshot}
use Rattle.pool_tables.specs.FrameItems.{item_in}
use Rattle.pool_tables.specs.FrameMeaning.{AreFrames, IsItemOf, frame_at}
use Rattle.pool_tables.specs.PinLists.{pinned_pages}
use Rattle.pool_tables.specs.declared.frame_item.FrameItem.{FrameItem}

pub AreFrames-recounted : (resident : List Bool) (was now : ℕ → ℕ) (frames : List Frame)
    (items : List (ℕ × FrameItem)) →
    ((p : ℕ) → now p ≡ was p) → AreFrames resident was frames items → AreFrames resident now frames items
AreFrames-recounted resident was now frames items same are = record {
  distinct = are.distinct;
  ordered = are.ordered;
  items = λ n. pick (frame_at n frames) (item_in items n) (are.items n);
}
  where
    pick : (f : Option Frame) (o : Option FrameItem) → IsItemOf resident was f o → IsItemOf resident now f o
    pick None None is = tt
    pick None (Some item) is = is
    pick (Some f) None is = is
    pick (Some f) (Some item) is = record {
      live = is.live;
      owner = is.owner;
      pin_a_page = is.pin_a_page;
      flag_a_page = is.flag_a_page;
      named_ascend = is.named_ascend;
      missing_ascend = is.missing_ascend;
      pins = λ p. is.pins p
          ∙ ap (λ k. is_among (pinned_pages item.pins) p ||
          (get_or resident p false && is_in_snapshot item.snapshot k)) (sym (same p));
    }

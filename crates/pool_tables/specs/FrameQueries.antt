-- What the item of a frame tells: who owns the frame, whether it is live, and what it pins.
use Rattle.std.specs.Prelude.{◌==◌, ◌&&◌, ℕ, Bool, false, not, List, Option, None, Some, is_some}
use Rattle.pool_tables.specs.FrameMeaning.{item_pins}
use Rattle.pool_tables.specs.declared.frame_item.FrameItem.{FrameItem}

-- whether the frame is live and owned by this maker
abbrev pub is_owned : ℕ → Option FrameItem → Bool
is_owned by None = false
is_owned by (Some item) = not (is_some item.ended_at) && (item.owner.0 == by)

-- whether the frame is live
abbrev pub is_live_in : Option FrameItem → Bool
is_live_in None = false
is_live_in (Some item) = not (is_some item.ended_at)

-- whether the frame pins the page
abbrev pub pins_page : List Bool → (ℕ → ℕ) → Option FrameItem → ℕ → Bool
pins_page resident installed_at None page = false
pins_page resident installed_at (Some item) page = item_pins resident installed_at item page

-- What a contract sees of the table of frames: an item for each frame that began, by its number.
use Rattle.std.specs.Prelude.{◌≡◌, ◌==◌, ◌+◌, ◌≤◌, ℕ, List, [], Option, None, Some, if◌then◌else◌}
use Rattle.std.specs.BTreeMap.{is_at}
use Rattle.std.specs.List.{sum_by}
use Rattle.std.specs.List.Sorted.{IsStrictlySortedBy}
use Rattle.std.specs.Map.{keys_of, lookup, values_of}
use Rattle.std.specs.Ordering.{nat_cmp}
use Rattle.pool_tables.specs.Changes.{times}
use Rattle.pool_tables.specs.PinLists.{PinLists, no_pins, pinned_pages, narrowed_pins, installed_pins}
use Rattle.pool_tables.specs.declared.frame_item.FrameItem.{FrameItem}
use Rattle.pool_tables.specs.declared.page_record.MakerId.{MakerId}

pub record FrameItems : Type 0 where
  -- by number
  pub items : List (ℕ × FrameItem)
  -- the count of entries at the last Settle or Ask of any frame; 0 if there was none
  pub last_asked : ℕ

-- the frame's item, if it began
abbrev pub item_in : List (ℕ × FrameItem) → ℕ → Option FrameItem
item_in items frame = lookup (is_at (nat_cmp frame)) items

abbrev pub item_of : FrameItems → ℕ → Option FrameItem
item_of table frame = item_in table.items frame

abbrev pub asked_in : Option FrameItem → ℕ
asked_in None = 0
asked_in (Some item) = item.asked_at

abbrev pub ended_in : Option FrameItem → Option ℕ
ended_in None = None
ended_in (Some item) = item.ended_at

abbrev pub snapshot_in : Option FrameItem → Option ℕ
snapshot_in None = None
snapshot_in (Some item) = item.snapshot

-- how often the frame of this item pins the page explicitly: once or not at all
abbrev pub pins_in : Option FrameItem → ℕ → ℕ
pins_in None page = 0
pins_in (Some item) page = times (pinned_pages item.pins) page

-- how many frames pin the page explicitly
abbrev pub pin_count : List (ℕ × FrameItem) → ℕ → ℕ
pin_count items page = sum_by (λ item. times (pinned_pages item.pins) page) (values_of items)

-- the frame has this item now, and each other frame the item that it had; each frame has one item at most
pub record PutsItem (frame : ℕ) (item : Option FrameItem) (old new : List (ℕ × FrameItem)) : Type 0 where
  pub items : (n : ℕ) → item_in new n ≡ (if frame == n then item else item_in old n)
  pub pins : (page : ℕ) → pin_count new page + pins_in (item_in old frame) page ≡ pin_count old page + pins_in item page
  pub ordered : IsStrictlySortedBy nat_cmp (keys_of new)

-- ---- what each event makes of the item of its frame

-- a Pin makes it, or renews it
abbrev pub pinned_item : MakerId → ℕ → Option FrameItem → FrameItem
pinned_item by count None = record {
  owner = by;
  asked_at = 0;
  ended_at = None;
  snapshot = Some count;
  pins = no_pins;
}
pinned_item by count (Some item) =
    record item { owner = by; snapshot = Some count; pins = narrowed_pins [] item.pins }

abbrev pub settled_item : MakerId → ℕ → PinLists → FrameItem → FrameItem
settled_item by count pins item = record item { owner = by; asked_at = count; snapshot = None; pins = pins }

abbrev pub asked_item : ℕ → FrameItem → FrameItem
asked_item count item = record item { asked_at = count }

abbrev pub narrowed_item : MakerId → List ℕ → FrameItem → FrameItem
narrowed_item by pages item = record item { owner = by; snapshot = None; pins = narrowed_pins pages item.pins }

abbrev pub ended_item : ℕ → FrameItem → FrameItem
ended_item count item = record item { ended_at = Some count; snapshot = None; pins = no_pins }

abbrev pub installed_item : ℕ → FrameItem → FrameItem
installed_item page item = record item { pins = installed_pins page item.pins }

-- the latest snapshot of all frames, if any has one
abbrev pub IsLatest : List (ℕ × FrameItem) → Option ℕ → Type 0
IsLatest items None = (n : ℕ) → snapshot_in (item_in items n) ≡ None
IsLatest items (Some count) =
    ((n : ℕ) × (snapshot_in (item_in items n) ≡ Some count))
    × ((n c : ℕ) → snapshot_in (item_in items n) ≡ Some c → c ≤ count)

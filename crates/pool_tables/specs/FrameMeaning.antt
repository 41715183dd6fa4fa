-- When the table of frames says what the state says of its live frames.
use Rattle.std.specs.Prelude.{◌≡◌, ◌==◌, ◌&&◌, ◌||◌, ◌≤◌, ℕ, Bool, true, false, List, [], ◌∷◌, length, find, Option}
use Rattle.std.specs.Prelude.{None, Some, is_some, slice_index_or}
use Rattle.std.specs.List.{list_any}
use Rattle.std.specs.List.Sorted.{IsStrictlySortedBy}
use Rattle.std.specs.Map.{keys_of}
use Rattle.std.specs.Ordering.{nat_cmp}
use Rattle.journal.specs.Layout.{ascends}
use Rattle.journal.specs.declared.entries.Entry.{Entry}
use Rattle.pool_rules.specs.Frame.{Frame}
use Rattle.pool_rules.specs.Numbers.{is_among}
use Rattle.pool_rules.specs.Rules.{has_entry}
use Rattle.pool_tables.specs.Eviction.{is_in_snapshot}
use Rattle.pool_tables.specs.FrameItems.{FrameItems, item_in, item_of}
use Rattle.pool_tables.specs.PinLists.{no_pins, pinned_pages}
use Rattle.pool_tables.specs.declared.frame_item.FrameItem.{FrameItem}

-- whether the frame of this item pins the page: explicitly, or as a resident page that was installed up to its
-- snapshot. A page that it pins is not evicted, so what was resident at the snapshot still is
abbrev pub item_pins : List Bool → (ℕ → ℕ) → FrameItem → ℕ → Bool
item_pins resident installed_at item page =
    is_among (pinned_pages item.pins) page
    || (slice_index_or resident page false && is_in_snapshot item.snapshot (installed_at page))

-- the item is that of the live frame
pub record IsFrameItem (resident : List Bool) (installed_at : ℕ → ℕ) (frame : Frame) (item : FrameItem) : Type 0 where
  pub live : item.ended_at ≡ None
  pub owner : item.owner.0 ≡ frame.owner
  pub pin_a_page : length frame.pins ≡ length resident
  pub flag_a_page : length item.pins.flags ≡ length item.pins.missing
  pub named_ascend : ascends item.pins.named ≡ true
  pub missing_ascend : ascends item.pins.missing ≡ true
  pub pins : (page : ℕ) → slice_index_or frame.pins page false ≡ item_pins resident installed_at item page

-- the item is that of a frame that ended
pub record IsEndedItem (item : FrameItem) : Type 0 where
  pub ended : is_some item.ended_at ≡ true
  pub snapshot : item.snapshot ≡ None
  pub pins : item.pins ≡ no_pins

abbrev pub IsItemOf : List Bool → (ℕ → ℕ) → Option Frame → Option FrameItem → Type 0
IsItemOf resident installed_at None None = Unit {0}
IsItemOf resident installed_at None (Some item) = IsEndedItem item
IsItemOf resident installed_at (Some frame) None = ⊥
IsItemOf resident installed_at (Some frame) (Some item) = IsFrameItem resident installed_at frame item

-- the first frame of this number
abbrev pub frame_at : ℕ → List Frame → Option Frame
frame_at number frames = find (λ f. f.number == number) frames

-- whether one of the frames has this number
abbrev pub has_number : ℕ → List Frame → Bool
has_number number frames = list_any (λ f. f.number == number) frames

-- no two frames have the same number
abbrev pub AreDistinct : List Frame → Type 0
AreDistinct [] = Unit {0}
AreDistinct (f ∷ frames) = (has_number f.number frames ≡ false) × AreDistinct frames

-- the items are those of the live frames and of frames that ended
pub record AreFrames (resident : List Bool) (installed_at : ℕ → ℕ) (frames : List Frame)
    (table : List (ℕ × FrameItem)) : Type 0 where
  pub distinct : AreDistinct frames
  pub ordered : IsStrictlySortedBy nat_cmp (keys_of table)
  pub items : (number : ℕ) → IsItemOf resident installed_at (frame_at number frames) (item_in table number)

-- no count in the item is above this count of entries
pub record IsTimelyItem (entries : ℕ) (item : FrameItem) : Type 0 where
  pub asked : item.asked_at ≤ entries
  pub ended : (count : ℕ) → item.ended_at ≡ Some count → count ≤ entries
  pub snapshot : (count : ℕ) → item.snapshot ≡ Some count → count ≤ entries

-- no count in the table is
pub record IsTimelyTable (entries : ℕ) (table : FrameItems) : Type 0 where
  pub items : (number : ℕ) (item : FrameItem) → item_of table number ≡ Some item → IsTimelyItem entries item
  pub last_asked : table.last_asked ≤ entries

-- the frames that have an entry in the journal are those that have an item
abbrev pub AreBegun : List Entry → List (ℕ × FrameItem) → Type 0
AreBegun journal items = (number : ℕ) → has_entry number journal ≡ is_some (item_in items number)

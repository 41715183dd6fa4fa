-- When the tables of a pool say what the journal says, and when an entry may be entered into them.
use Rattle.std.specs.Prelude.{◌≡◌, ◌≤◌, ◌&&◌, ◌||◌, ℕ, Bool, true, List, length, Option}
use Rattle.std.specs.List.{AllByRecursion}
use Rattle.std.specs.Option.{option_map}
use Rattle.journal.specs.Layout.{InBounds}
use Rattle.journal.specs.declared.entries.Entry.{Entry}
use Rattle.journal.specs.declared.layouts.Layout.{Layout}
use Rattle.pool_rules.specs.Numbers.{is_among}
use Rattle.pool_rules.specs.Rules.{IsLegal, is_allowed}
use Rattle.pool_rules.specs.State.{state_of}
use Rattle.pool_tables.specs.Eviction.{is_in_snapshot}
use Rattle.pool_tables.specs.FrameItems.{FrameItems, pin_count}
use Rattle.pool_tables.specs.FrameMeaning.{AreBegun, AreFrames, IsTimelyTable}
use Rattle.pool_tables.specs.MakerMeaning.{AreMakers}
use Rattle.pool_tables.specs.PageRecords.{PageRecords, record_at}
use Rattle.pool_tables.specs.PinLists.{pinned_pages}
use Rattle.pool_tables.specs.PoolPages.{ArePagesOf}
use Rattle.pool_tables.specs.WantMeaning.{AreWants, IsWaited}
use Rattle.pool_tables.specs.WantQueue.{counts_in}
use Rattle.pool_tables.specs.declared.frame_item.FrameId.{FrameId}
use Rattle.pool_tables.specs.declared.frame_item.FrameItem.{FrameItem}
use Rattle.pool_tables.specs.declared.page_record.PageRecord.{PageRecord}
use Rattle.pool_tables.specs.declared.queued_want.QueuedWant.{QueuedWant}
use Rattle.residency.specs.declared.tables.Tables.{Tables}

-- the number of the frame, if there is one
abbrev pub number_of : Option FrameId → Option ℕ
number_of frame = option_map (λ (f : FrameId). f.0) frame

-- the count of entries at the page's last install
abbrev pub installed_at : List PageRecord → ℕ → ℕ
installed_at records page = (record_at records page).installed_at

-- whether the frame of the item pins the page, by the records
abbrev pub pins_by_records : List PageRecord → FrameItem → ℕ → Bool
pins_by_records records item page =
    is_among (pinned_pages item.pins) page
    || ((record_at records page).resident && is_in_snapshot item.snapshot (installed_at records page))

-- no record has a count above this count of entries
pub record AreTimelyPages (entries : ℕ) (records : List PageRecord) : Type 0 where
  pub installed : (page : ℕ) → installed_at records page ≤ entries
  pub load_ended : (page : ℕ) → (record_at records page).load_ended_at ≤ entries

-- the table of pages
pub record IsPageTable (layout : Layout) (journal : List Entry) (table : PageRecords) (frames : FrameItems) : Type 0
  where
    pub pages : ArePagesOf layout (state_of layout journal) table
    -- each record counts the frames that pin its page explicitly
    pub pins : (page : ℕ) → (record_at table.records page).pins ≡ pin_count frames.items page
    pub timely : AreTimelyPages (length journal) table.records

-- the table of frames
pub record IsFrameTable (layout : Layout) (journal : List Entry) (records : List PageRecord) (table : FrameItems) :
    Type 0 where
  pub frames : AreFrames (state_of layout journal).resident (installed_at records) (state_of layout journal).frames
      table.items
  pub timely : IsTimelyTable (length journal) table
  pub begun : AreBegun journal table.items

-- the list of wants
pub record IsWantList (layout : Layout) (journal : List Entry) (records : List PageRecord) (frames : FrameItems)
    (list : List QueuedWant) : Type 0 where
  pub wants : AreWants (length journal) (counts_in records frames) list (state_of layout journal).wants
  pub waited : AllByRecursion (IsWaited frames) list

-- all tables
pub record AreTables (layout : Layout) (journal : List Entry) (tables : Tables) : Type 0 where
  pub pages : IsPageTable layout journal tables.pages tables.frames
  pub frames : IsFrameTable layout journal tables.pages.records tables.frames
  pub wants : IsWantList layout journal tables.pages.records tables.frames tables.wants.wants
  pub makers : AreMakers journal (state_of layout journal).loading tables.makers
  pub stopped : tables.stopped ≡ (state_of layout journal).stopped

-- the tables of a legal journal within a layout's bounds
pub record AreLegalTables (layout : Layout) (journal : List Entry) (all : Tables) : Type 0 where
  pub in_bounds : InBounds layout
  pub legal : IsLegal layout journal
  pub tables : AreTables layout journal all

-- the entry is allowed next
pub record IsNext (layout : Layout) (journal : List Entry) (tables : Tables) (entry : Entry) : Type 0 where
  pub past : AreLegalTables layout journal tables
  pub allowed : is_allowed layout journal entry ≡ true

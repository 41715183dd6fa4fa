-- What the tables say of a state, field by field, and what is known before an entry.
use Rattle.std.proofs.Common.{◌≡◌, ℕ, ◌+◌, ◌≤◌, List, [], ◌∷◌, ◌++◌, true, false, Option, Some, None, length, refl}
use Rattle.std.proofs.Common.{sym, ap, ◌∙◌, subst, arith}
use Rattle.std.specs.List.{AllByRecursion}
use Rattle.journal.specs.Layout.{InBounds}
use Rattle.journal.specs.declared.entries.Entry.{Entry}
use Rattle.journal.specs.declared.layouts.Layout.{Layout}
use Rattle.pool_rules.specs.Rules.{owns}
use Rattle.pool_rules.specs.Sound.{IsSound}
use Rattle.pool_rules.specs.State.{State, state_after, state_of}
use Rattle.pool_rules.proofs.LegalJournals.{entries-state_of, state_of-push}
use Rattle.pool_rules.proofs.Lengths.{HasItemAPage, HasItemAPage-state_of}
use Rattle.pool_rules.proofs.Soundness.{IsSound-state_of}
use Rattle.pool_tables.specs.FrameItems.{item_in, pin_count}
use Rattle.pool_tables.specs.FrameMeaning.{AreBegun, AreFrames, IsTimelyTable}
use Rattle.pool_tables.specs.FrameQueries.{is_owned}
use Rattle.pool_tables.specs.MakerMeaning.{AreMakers}
use Rattle.pool_tables.specs.PageRecords.{record_at}
use Rattle.pool_tables.specs.PoolPages.{ArePagesOf}
use Rattle.pool_tables.specs.WantMeaning.{AreWants, IsWaited}
use Rattle.pool_tables.specs.WantQueue.{counts_in}
use Rattle.pool_tables.specs.declared.frame_item.FrameItem.{FrameItem}
use Rattle.pool_tables.proofs.PinCounts.{owns-item}
use Rattle.residency.specs.Internal.Tables.{AreLegalTables, AreTables, installed_at}
use Rattle.residency.specs.declared.tables.Tables.{Tables}

pub record AreTablesAt (layout : Layout) (s : State) (journal : List Entry) (tables : Tables) : Type 0 where
  pub pages : ArePagesOf layout s tables.pages
  pub pins : (page : ℕ) → (record_at tables.pages.records page).pins ≡ pin_count tables.frames.items page
  pub installs : (page : ℕ) → (record_at tables.pages.records page).installed_at ≤ s.entries
  pub loads : (page : ℕ) → (record_at tables.pages.records page).load_ended_at ≤ s.entries
  pub frames : AreFrames s.resident (installed_at tables.pages.records) s.frames tables.frames.items
  pub timely : IsTimelyTable s.entries tables.frames
  pub begun : AreBegun journal tables.frames.items
  pub wants : AreWants s.entries (counts_in tables.pages.records tables.frames) tables.wants.wants s.wants
  pub waited : AllByRecursion (IsWaited tables.frames) tables.wants.wants
  pub makers : AreMakers journal s.loading tables.makers
  pub stopped : tables.stopped ≡ s.stopped

-- a state that is after a legal journal
pub record IsPast (layout : Layout) (s : State) : Type 0 where
  pub bounds : InBounds layout
  pub lists : HasItemAPage layout s
  pub sound : IsSound layout s

pub IsPast-legal : (layout : Layout) (journal : List Entry) (tables : Tables) → AreLegalTables layout journal tables →
    IsPast layout (state_of layout journal)
IsPast-legal layout journal tables legal = record {
  bounds = legal.in_bounds;
  lists = HasItemAPage-state_of layout journal;
  sound = IsSound-state_of layout journal legal.in_bounds legal.legal;
}

pub AreTablesAt-legal : (layout : Layout) (journal : List Entry) (tables : Tables) →
    AreLegalTables layout journal tables → AreTablesAt layout (state_of layout journal) journal tables
AreTablesAt-legal layout journal tables legal =
    let are = legal.tables in
    let same = sym (entries-state_of layout journal) in
    record {
      pages = are.pages.pages;
      pins = are.pages.pins;
      installs = λ p. omega (arith, are.pages.timely.installed p, same);
      loads = λ p. omega (arith, are.pages.timely.load_ended p, same);
      frames = are.frames.frames;
      timely = subst (λ n. IsTimelyTable n tables.frames) same are.frames.timely;
      begun = are.frames.begun;
      wants = subst (λ n. AreWants n (counts_in tables.pages.records tables.frames) tables.wants.wants
          (state_of layout journal).wants) same are.wants.wants;
      waited = are.wants.waited;
      makers = are.makers;
      stopped = are.stopped;
    }

pub AreTables-at : (layout : Layout) (journal : List Entry) (tables : Tables) →
    AreTablesAt layout (state_of layout journal) journal tables → AreTables layout journal tables
AreTables-at layout journal tables are =
    let same = entries-state_of layout journal in
    let s = state_of layout journal in
    record {
      pages = record {
        pages = are.pages;
        pins = are.pins;
        timely = record {
          installed = λ p. omega (arith, are.installs p, same);
          load_ended = λ p. omega (arith, are.loads p, same);
        };
      };
      frames = record {
        frames = are.frames;
        timely = subst (λ n. IsTimelyTable n tables.frames) same are.timely;
        begun = are.begun;
      };
      wants = record {
        wants = subst (λ n. AreWants n (counts_in tables.pages.records tables.frames) tables.wants.wants s.wants)
            same are.wants;
        waited = are.waited;
      };
      makers = are.makers;
      stopped = are.stopped;
    }

-- the tables of the state after an entry are those of the journal with it
pub AreTables-push : (layout : Layout) (journal : List Entry) (e : Entry) (tables : Tables) →
    AreTablesAt layout (state_after (state_of layout journal) e) (journal ++ e ∷ []) tables →
    AreTables layout (journal ++ e ∷ []) tables
AreTables-push layout journal e tables are =
    AreTables-at layout (journal ++ e ∷ []) tables
    (subst (λ (s : State). AreTablesAt layout s (journal ++ e ∷ []) tables) (sym (state_of-push layout journal e)) are)

-- the count of entries with the next one
pub next-entries : (layout : Layout) (journal : List Entry) (count : ℕ) → count ≡ length journal + 1 →
    count ≡ (state_of layout journal).entries + 1
next-entries layout journal count is = is ∙ ap (λ n. n + 1) (sym (entries-state_of layout journal))

-- a frame that is owned has an item, and is live
pub owned-item : (layout : Layout) (s : State) (journal : List Entry) (tables : Tables) (by frame : ℕ) →
    AreTablesAt layout s journal tables → owns s by frame ≡ true →
    (item : FrameItem) × (item_in tables.frames.items frame ≡ Some item) × (item.ended_at ≡ None)
owned-item layout s journal tables by frame are owned =
    pick (item_in tables.frames.items frame) refl
    (sym (owns-item s (installed_at tables.pages.records) tables.frames.items by frame are.frames) ∙ owned)
  where
    live : (item : FrameItem) (o : Option ℕ) → item.ended_at ≡ o → is_owned by (Some item) ≡ true → item.ended_at ≡ None
    live item None is owned = is
    live item (Some e) is owned = let ended : is_owned by (Some item) ≡ false = rw is refl in cc

    pick : (o : Option FrameItem) → item_in tables.frames.items frame ≡ o → is_owned by o ≡ true →
        (item : FrameItem) × (item_in tables.frames.items frame ≡ Some item) × (item.ended_at ≡ None)
    pick None at h = cc
    pick (Some item) at h = (item, at, live item item.ended_at refl h)

-- The tables of a journal without entries.
use Rattle.std.proofs.Common.{◌≡◌, ◌≤◌, ◌+◌, ℕ, zero, suc, [], Bool, false, nat_lt, get_or, map, refl, arith}
use Rattle.std.specs.List.{range_with_len}
use Rattle.journal.specs.Layout.{InBounds}
use Rattle.journal.specs.declared.layouts.Layout.{Layout}
use Rattle.pool_rules.specs.State.{state_of}
use Rattle.pool_tables.specs.PageRecords.{no_record, opening_record, opening_records, record_at}
use Rattle.pool_tables.specs.WantQueue.{counts_in}
use Rattle.pool_tables.specs.declared.page_record.PageRecord.{PageRecord}
use Rattle.pool_tables.proofs.BegunFrames.{AreBegun-new}
use Rattle.pool_tables.proofs.PageEvents.{ArePagesOf-opening}
use Rattle.pool_tables.proofs.TableStarts.{AreFrames-new, AreMakers-new, AreWants-new, IsTimelyTable-new}
use Rattle.residency.specs.Internal.Tables.{AreTables, installed_at}
use Rattle.residency.specs.declared.tables.Tables.{Tables}

-- no page has a count yet
counts-none : (f : PageRecord → ℕ) (pages roots : ℕ) → ((b : Bool) → f (record no_record { resident = b }) ≡ 0) →
    (page : ℕ) → f (record_at (opening_records pages roots).records page) ≡ 0
counts-none f pages roots none page = from_start 0 pages page
  where
    from_start : (start len page : ℕ) → f (get_or (map (opening_record roots) (range_with_len start len)) page
        no_record) ≡ 0
    from_start start zero page = none false
    from_start start (suc len) zero = none (nat_lt start roots)
    from_start start (suc len) (suc page) = from_start (start + 1) len page

pub AreTables-new : (layout : Layout) (tables : Tables) → InBounds layout →
    tables.pages ≡ opening_records layout.pages layout.roots → tables.frames.items ≡ [] → tables.frames.last_asked ≡ 0 →
    tables.wants.wants ≡ [] → tables.makers ≡ [] → tables.stopped ≡ false → AreTables layout [] tables
AreTables-new layout tables bounds pages items asked wants makers stopped = record {
  pages = record {
    pages = rw pages (ArePagesOf-opening layout);
    pins = λ page. rw (pages, items) (counts-none (λ r. r.pins) layout.pages layout.roots (λ b. refl) page);
    timely = record {
      installed = λ page. at_most_none (rw pages (counts-none (λ r. r.installed_at) layout.pages layout.roots
          (λ b. refl) page));
      load_ended = λ page. at_most_none (rw pages (counts-none (λ r. r.load_ended_at) layout.pages layout.roots
          (λ b. refl) page));
    };
  };
  frames = record {
    frames = rw items (AreFrames-new (state_of layout []).resident (installed_at tables.pages.records));
    timely = IsTimelyTable-new tables.frames items asked;
    begun = rw items AreBegun-new;
  };
  wants = record {
    wants = rw wants (AreWants-new (counts_in tables.pages.records tables.frames));
    waited = rw wants tt;
  };
  makers = rw makers (AreMakers-new layout.pages);
  stopped = stopped;
}
  where
    at_most_none : {n : ℕ} → n ≡ 0 → n ≤ 0
    at_most_none none = omega (arith, none)

-- Pins, wants and their ends, at numbers.
use Rattle.std.proofs.Common.{◌≡◌, ℕ, ◌==◌, [], ◌∷◌, true, false, cond, Some, None, refl}
use Rattle.pool_tables.specs.FrameMeaning.{item_pins}
use Rattle.pool_tables.specs.PinLists.{PinLists, installed_pins, narrowed_pins, pinned_pages, settled_pins}
use Rattle.pool_tables.specs.WantQueue.{WantCounts, closed_up, stands}
use Rattle.pool_tables.specs.declared.frame_item.FrameItem.{FrameItem}
use Rattle.pool_tables.specs.declared.queued_want.QueuedWant.{QueuedWant}

-- a frame settled with page 1, and 2 and 5 missing; 5 was installed since
abbrev pins : PinLists
pins = installed_pins 5 (settled_pins (1 ∷ []) (2 ∷ 5 ∷ []))

pub installed : pinned_pages pins ≡ 1 ∷ 5 ∷ []
installed = refl

-- a page that is not missing is not pinned
pub installed-other : pinned_pages (installed_pins 7 pins) ≡ 1 ∷ 5 ∷ []
installed-other = refl

-- a Narrow keeps the room, so that an Install after it pins again
pub narrowed : pinned_pages (narrowed_pins [] pins) ≡ []
narrowed = refl

pub narrowed-installed : pinned_pages (installed_pins 2 (narrowed_pins (1 ∷ []) pins)) ≡ 1 ∷ 2 ∷ []
narrowed-installed = refl

-- a frame with a snapshot at 4 pins what was installed up to then and is resident
abbrev item : FrameItem
item = record {
  owner = record { 0 = 0 };
  asked_at = 0;
  ended_at = None;
  snapshot = Some 4;
  pins = narrowed_pins [] pins;
}

pub in_snapshot : item_pins (true ∷ true ∷ []) (λ page. cond (page == 0) 4 5) item 0 ≡ true
in_snapshot = refl

pub after_snapshot : item_pins (true ∷ true ∷ []) (λ page. cond (page == 0) 4 5) item 1 ≡ false
after_snapshot = refl

-- a load of page 4 ended at 7; frame 0 asked at 3, the others at 5; frame 2 ended at 6
abbrev counts : ℕ → WantCounts
counts last_asked = record {
  load_ended_at = λ page. cond (page == 4) 7 0;
  asked_at = λ frame. cond (frame == 0) 3 5;
  ended_at = λ frame. cond (frame == 2) (Some 6) None;
  last_asked = last_asked;
}

abbrev want : ℕ → ℕ → ℕ → QueuedWant
want frame page made_at = record { frame = record { 0 = frame }; page = page; settled = true; made_at = made_at }

pub stands-yet : stands (counts 6) (want 0 5 3) ≡ true
stands-yet = refl

pub over-loaded : stands (counts 6) (want 0 4 3) ≡ false
over-loaded = refl

-- a want that was made after the load ended stands
pub stands-again : stands (counts 8) (want 1 4 8) ≡ true
stands-again = refl

pub over-asked : stands (counts 6) (want 0 5 2) ≡ false
over-asked = refl

-- the wants of a frame that ended stand until some frame settles or asks
pub stands-ended : stands (counts 6) (want 2 5 5) ≡ true
stands-ended = refl

pub over-ended : stands (counts 8) (want 2 5 5) ≡ false
over-ended = refl

pub closed-half : closed_up (counts 6) (want 0 4 3 ∷ want 0 5 3 ∷ []) ≡ want 0 5 3 ∷ []
closed-half = refl

pub open-third : closed_up (counts 6) (want 0 4 3 ∷ want 0 5 3 ∷ want 0 6 3 ∷ []) ≡ want 0 4 3 ∷ want 0 5 3 ∷ want 0 6 3
    ∷ []
open-third = refl

-- When the list of wants says what the state says of its wants, and what each event does to the counts that tell
-- which wants are over.
use Rattle.std.specs.Prelude.{◌≡◌, ◌≢◌, ◌<◌, ◌≤◌, ℕ, true, List, None, Some}
use Rattle.std.specs.List.{AllByRecursion}
use Rattle.pool_rules.specs.declared.want.Want.{Want}
use Rattle.pool_rules.specs.Numbers.{is_among}
use Rattle.pool_tables.specs.FrameItems.{FrameItems, item_of}
use Rattle.pool_tables.specs.WantQueue.{WantCounts, standing}
use Rattle.pool_tables.specs.declared.frame_item.FrameItem.{FrameItem}
use Rattle.pool_tables.specs.declared.queued_want.QueuedWant.{QueuedWant}

-- the want was made by an entry up to this count of entries, and not after its frame's last Settle or Ask
pub record IsTimelyWant (entries : ℕ) (counts : WantCounts) (want : QueuedWant) : Type 0 where
  pub some : 0 < want.made_at
  pub made : want.made_at ≤ entries
  pub asked : want.made_at ≤ counts.asked_at want.frame.0

-- the wants of the list that are not over are these
pub record AreWants (entries : ℕ) (counts : WantCounts) (list : List QueuedWant) (wants : List Want) : Type 0 where
  pub standing : standing counts list ≡ wants
  pub timely : AllByRecursion (IsTimelyWant entries counts) list

-- where the want is from the last Settle of a live frame, and no Ask came after it, its page is one of the missing
-- pages of that Settle
abbrev pub IsWaited : FrameItems → QueuedWant → Type 0
IsWaited frames want =
    (item : FrameItem) → item_of frames want.frame.0 ≡ Some item → item.ended_at ≡ None → want.settled ≡ true
    → want.made_at ≡ item.asked_at → is_among item.pins.missing want.page ≡ true

-- no count is above this count of entries
pub record AreTimelyCounts (entries : ℕ) (counts : WantCounts) : Type 0 where
  pub loads : (page : ℕ) → counts.load_ended_at page ≤ entries
  pub ends : (frame count : ℕ) → counts.ended_at frame ≡ Some count → count ≤ entries
  pub last_asked : counts.last_asked ≤ entries

-- the frame settled or asked at this count of entries
pub record Asks (frame count : ℕ) (old new : WantCounts) : Type 0 where
  pub loads : (page : ℕ) → new.load_ended_at page ≡ old.load_ended_at page
  pub own : new.asked_at frame ≡ count
  pub others : (n : ℕ) → n ≢ frame → new.asked_at n ≡ old.asked_at n
  pub ends : (n : ℕ) → new.ended_at n ≡ old.ended_at n
  pub last_asked : new.last_asked ≡ count

-- a load of the page ended at this count of entries
pub record EndsLoad (page count : ℕ) (old new : WantCounts) : Type 0 where
  pub own : new.load_ended_at page ≡ count
  pub others : (p : ℕ) → p ≢ page → new.load_ended_at p ≡ old.load_ended_at p
  pub asked : (n : ℕ) → new.asked_at n ≡ old.asked_at n
  pub ends : (n : ℕ) → new.ended_at n ≡ old.ended_at n
  pub last_asked : new.last_asked ≡ old.last_asked

-- the frame ended at this count of entries
pub record EndsFrame (frame count : ℕ) (old new : WantCounts) : Type 0 where
  pub loads : (page : ℕ) → new.load_ended_at page ≡ old.load_ended_at page
  pub asked : (n : ℕ) → new.asked_at n ≡ old.asked_at n
  pub live : old.ended_at frame ≡ None
  pub own : new.ended_at frame ≡ Some count
  pub others : (n : ℕ) → n ≢ frame → new.ended_at n ≡ old.ended_at n
  pub last_asked : new.last_asked ≡ old.last_asked

-- all counts are as before
pub record KeepsCounts (old new : WantCounts) : Type 0 where
  pub loads : (page : ℕ) → new.load_ended_at page ≡ old.load_ended_at page
  pub asked : (n : ℕ) → new.asked_at n ≡ old.asked_at n
  pub ends : (n : ℕ) → new.ended_at n ≡ old.ended_at n
  pub last_asked : new.last_asked ≡ old.last_asked

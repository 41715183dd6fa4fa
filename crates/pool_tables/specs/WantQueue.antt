-- What a contract sees of the list of wants, and which of them are over.
use Rattle.std.specs.Prelude.{◌==◌, ◌&&◌, ◌/◌, ℕ, Bool, false, not, List, length, map, filter, count_by, nat_le, nat_lt}
use Rattle.std.specs.Prelude.{Option, None, Some, is_some, if◌then◌else◌}
use Rattle.std.specs.List.{list_all}
use Rattle.journal.specs.declared.layouts.Layout.{Layout}
use Rattle.journal.specs.Layout.{uppers_of}
use Rattle.pool_rules.specs.Next.{is_want_for}
use Rattle.pool_rules.specs.declared.want.Want.{Want}
use Rattle.pool_tables.specs.FrameItems.{FrameItems, asked_in, ended_in, item_of}
use Rattle.pool_tables.specs.PageRecords.{is_record_held, record_at}
use Rattle.pool_tables.specs.declared.page_record.PageRecord.{PageRecord}
use Rattle.pool_tables.specs.declared.queued_want.QueuedWant.{QueuedWant}

pub record WantQueue : Type 0 where
  -- in the order of being made
  pub wants : List QueuedWant
  -- how many wants there is room for
  pub capacity : ℕ

-- the counts of entries that tell whether a want is over
pub record WantCounts : Type 0 where
  -- by page: at the end of its last load; 0 if none ended
  pub load_ended_at : ℕ → ℕ
  -- by frame: at its last Settle or Ask; 0 if it has none
  pub asked_at : ℕ → ℕ
  -- by frame: at its end, if it ended
  pub ended_at : ℕ → Option ℕ
  -- at the last Settle or Ask of any frame; 0 if there was none
  pub last_asked : ℕ

-- the counts that the tables of pages and of frames hold
abbrev pub counts_in : List PageRecord → FrameItems → WantCounts
counts_in records frames = record {
  load_ended_at = λ page. (record_at records page).load_ended_at;
  asked_at = λ frame. asked_in (item_of frames frame);
  ended_at = λ frame. ended_in (item_of frames frame);
  last_asked = frames.last_asked;
}

-- whether there was an end, and it was before this count
abbrev pub is_before : Option ℕ → ℕ → Bool
is_before None count = false
is_before (Some ended) count = nat_lt ended count

-- whether the want is not over. It is over if a load of its page ended after it was made, if its frame settled or
-- asked after it was made, or if its frame ended and some frame settled or asked after that
abbrev pub stands : WantCounts → QueuedWant → Bool
stands counts want =
    nat_le (counts.load_ended_at want.page) want.made_at
    && (nat_le (counts.asked_at want.frame.0) want.made_at
    && not (is_before (counts.ended_at want.frame.0) counts.last_asked))

-- the want as the rules see it
abbrev pub want_of : QueuedWant → Want
want_of want = record { frame = want.frame.0; page = want.page; settled = want.settled }

-- the wants that are not over
abbrev pub standing : WantCounts → List QueuedWant → List Want
standing counts wants = map want_of (filter (stands counts) wants)

-- the wants without those that are over, if that is at least half of them
abbrev pub closed_up : WantCounts → List QueuedWant → List QueuedWant
closed_up counts wants =
    if nat_le (count_by (stands counts) wants) (length wants / 2) then filter (stands counts) wants else wants

-- whether the want is not over, a Settle made it, and it is of the page
abbrev pub is_waiting : WantCounts → ℕ → QueuedWant → Bool
is_waiting counts page want = stands counts want && ((want.page == page) && want.settled)

-- a want like this one, but of the page
abbrev pub of_page : QueuedWant → ℕ → QueuedWant
of_page want page = record want { page = page }

-- whether the page is neither resident nor being loaded, and its uppers are resident
abbrev pub can_take_in : Layout → List PageRecord → ℕ → Bool
can_take_in layout records page =
    not (is_record_held (record_at records page))
    && list_all (λ upper. (record_at records upper).resident) (uppers_of layout page)

-- whether it is a want for the frame, or for any if none is given, and its page can be taken
abbrev pub is_takeable_in : Layout → List PageRecord → Option ℕ → Want → Bool
is_takeable_in layout records frame want = is_want_for frame want && can_take_in layout records want.page

-- whether it is a want for the frame, and its page is being loaded
abbrev pub is_loading_in : List PageRecord → ℕ → Want → Bool
is_loading_in records frame want = (want.frame == frame) && is_some (record_at records want.page).loader

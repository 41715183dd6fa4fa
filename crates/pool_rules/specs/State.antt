-- The state of the pool after a journal: a fold over its entries, the oldest first.
use Rattle.std.specs.Prelude.{◌==◌, ◌+◌, ◌&&◌, ◌||◌, ℕ, Bool, true, false, not, List, [], ◌∷◌, ◌++◌, length, map}
use Rattle.std.specs.Prelude.{filter, fold, nat_lt, replicate, if◌then◌else◌, Option, None, Some, is_some, count_by}
use Rattle.std.specs.Prelude.{slice_set, slice_index_or}
use Rattle.std.specs.List.{list_any}
use Rattle.std.specs.Option.{option_map_or}
use Rattle.journal.specs.declared.entries.Entry.{Entry}
use Rattle.journal.specs.declared.entries.What.{What}
use Rattle.journal.specs.declared.entries.What.TheVariants.{Pin, Settle, Ask, Narrow, Unpin, Take, Install, Stop}
use Rattle.pool_rules.specs.Events.{page_ended}
use Rattle.pool_rules.specs.Frame.{Frame}
use Rattle.pool_rules.specs.declared.want.Want.{Want}
use Rattle.journal.specs.declared.layouts.Layout.{Layout}
use Rattle.journal.specs.Layout.{page_numbers}

-- a list by page has an item for each page, in the order of their numbers
pub record State : Type 0 where
  -- by page: whether it is resident
  pub resident : List Bool
  -- by page: the maker that is loading it, if one is
  pub loading : List (Option ℕ)
  -- the live frames, each with its owner and its pins
  pub frames : List Frame
  -- the pages that frames want, the oldest want first
  pub wants : List Want
  -- by page: when it was last used, as the number of entries up to and including the last Settle, Narrow or
  -- Install that has it; 0 if none has
  pub last_used : List ℕ
  -- whether the journal has a Stop
  pub stopped : Bool
  -- how many entries there are
  pub entries : ℕ

abbrev pub is_resident : State → ℕ → Bool
is_resident s page = slice_index_or s.resident page false

abbrev pub is_loading : State → ℕ → Bool
is_loading s page = is_some (slice_index_or s.loading page None)

-- whether the page is resident or being loaded
abbrev pub is_held : State → ℕ → Bool
is_held s page = is_resident s page || is_loading s page

-- how many pages are resident, and how many are being loaded
abbrev pub held_count : State → ℕ
held_count s = count_by (λ resident. resident) s.resident + count_by is_some s.loading

-- whether the frame is live
abbrev pub is_live : List Frame → ℕ → Bool
is_live frames frame = list_any (λ f. f.number == frame) frames

-- whether the frame waits for the page: it has a want of it from a Settle
abbrev pub waits_for : List Want → ℕ → ℕ → Bool
waits_for wants frame page = list_any (λ w. (w.frame == frame) && ((w.page == page) && w.settled)) wants

-- the list by page that marks these pages alone
abbrev pub marked : ℕ → List ℕ → List Bool
marked pages numbers = fold (λ marks page. slice_set marks page true) (replicate pages false) numbers

-- before any entry the root pages are resident
abbrev pub initial_state : Layout → State
initial_state layout = record {
  resident = map (λ page. nat_lt page layout.roots) (page_numbers layout);
  loading = replicate layout.pages None;
  frames = [];
  wants = [];
  last_used = replicate layout.pages 0;
  stopped = false;
  entries = 0;
}

-- Resident: Take removes its victim, Install adds its page
abbrev pub resident_after : What → List Bool → List Bool
resident_after (Take frame page (Some victim)) resident = slice_set resident victim false
resident_after (Install page digest) resident = slice_set resident page true
resident_after _ resident = resident

-- Loading: Take adds its page with its maker, the end of a load removes it
abbrev pub loading_after : ℕ → What → List (Option ℕ) → List (Option ℕ)
loading_after by (Take frame page victim) loading = slice_set loading page (Some by)
loading_after by what loading = option_map_or (λ page. slice_set loading page None) (page_ended what) loading

-- the frames with the one of its number replaced by this frame, or this frame appended
abbrev pub replace_frame : Frame → List Frame → List Frame
replace_frame frame [] = frame ∷ []
replace_frame frame (f ∷ frames) = if f.number == frame.number then frame ∷ frames else f ∷ replace_frame frame frames

-- the frame after the page is installed: it also pins the page if it waits for it
abbrev pub frame_after_install : List Want → ℕ → Frame → Frame
frame_after_install wants page f =
    if waits_for wants f.number page then record f { pins = slice_set f.pins page true } else f

-- Live frames and their pins: Pin makes its frame live, owned by the maker, and pins what is resident;
-- Settle and Narrow, which only the owner makes, pin their pages instead; Unpin ends the frame
abbrev pub frames_after : State → ℕ → What → List Frame
frames_after s by (Pin frame) =
    replace_frame (record { number = frame; owner = by; pins = s.resident }) s.frames
frames_after s by (Settle frame pages missing) =
    replace_frame (record { number = frame; owner = by; pins = marked (length s.resident) pages }) s.frames
frames_after s by (Narrow frame pages) =
    replace_frame (record { number = frame; owner = by; pins = marked (length s.resident) pages }) s.frames
frames_after s by (Unpin frame) = filter (λ f. not (f.number == frame)) s.frames
frames_after s by (Install page digest) = map (frame_after_install s.wants page) s.frames
frames_after s by _ = s.frames

-- the wants of other frames than this one that are live
abbrev pub wants_of_others : State → ℕ → List Want
wants_of_others s frame = filter (λ w. not (w.frame == frame) && is_live s.frames w.frame) s.wants

-- a want of each of the pages, in order
abbrev pub wants_of : ℕ → Bool → List ℕ → List Want
wants_of frame settled pages = map (λ page. record { frame = frame; page = page; settled = settled }) pages

abbrev pub wants_without : ℕ → List Want → List Want
wants_without page wants = filter (λ w. not (w.page == page)) wants

-- Wants: Settle and Ask append theirs after those of the other live frames, the end of a load removes
-- all wants of its page
abbrev pub wants_after : State → What → List Want
wants_after s (Settle frame pages missing) = wants_of_others s frame ++ wants_of frame true missing
wants_after s (Ask frame pages) = wants_of_others s frame ++ wants_of frame false pages
wants_after s what = option_map_or (λ page. wants_without page s.wants) (page_ended what) s.wants

abbrev pub set_last_used : ℕ → List ℕ → List ℕ → List ℕ
set_last_used place pages last_used = fold (λ all page. slice_set all page place) last_used pages

-- Last use: Settle and Narrow use their pages, Install uses its page
abbrev pub last_used_after : State → What → List ℕ
last_used_after s (Settle frame pages missing) = set_last_used (s.entries + 1) pages s.last_used
last_used_after s (Narrow frame pages) = set_last_used (s.entries + 1) pages s.last_used
last_used_after s (Install page digest) = set_last_used (s.entries + 1) (page ∷ []) s.last_used
last_used_after s _ = s.last_used

abbrev pub stopped_after : What → Bool → Bool
stopped_after Stop stopped = true
stopped_after _ stopped = stopped

-- the state after an event, but for the count of entries
abbrev pub state_after_event : State → ℕ → What → State
state_after_event s by what = record {
  resident = resident_after what s.resident;
  loading = loading_after by what s.loading;
  frames = frames_after s by what;
  wants = wants_after s what;
  last_used = last_used_after s what;
  stopped = stopped_after what s.stopped;
  entries = s.entries;
}

-- the state after an entry
abbrev pub state_after : State → Entry → State
state_after s entry = record (state_after_event s entry.by entry.what) { entries = s.entries + 1 }

-- the state after a journal
abbrev pub state_of : Layout → List Entry → State
state_of layout journal = fold state_after (initial_state layout) journal

-- the residency after a journal: the numbers of the resident pages, ascending
abbrev pub residency : Layout → List Entry → List ℕ
residency layout journal = filter (is_resident (state_of layout journal)) (page_numbers layout)

-- Which entry is allowed next in a journal, and which journals are legal.
use Rattle.std.specs.Prelude.{◌≡◌, ◌==◌, ◌-◌, ◌^◌, ◌&&◌, ◌||◌, ℕ, Bool, true, false, not, List, [], ◌∷◌, ◌++◌, length}
use Rattle.std.specs.Prelude.{fold, nat_eq, nat_lt, nat_le, Option, None, Some, slice_index_or}
use Rattle.std.specs.List.{list_all, list_any}
use lib.Pointwise.{pointwise}
use Rattle.geom_core.specs.declared.limits.TheConstants.{PAGE_BYTES}
use Rattle.journal.specs.declared.entries.Entry.{Entry}
use Rattle.journal.specs.declared.entries.Spoilt.{Spoilt}
use Rattle.journal.specs.declared.entries.Spoilt.TheVariants.{Digest, Grammar, Short}
use Rattle.journal.specs.declared.entries.What.{What}
use Rattle.journal.specs.declared.entries.What.TheVariants.{Pin, Settle, Ask, Narrow, Unpin, Take, Install, Fail, Spoil}
use Rattle.journal.specs.declared.entries.What.TheVariants.{Starve, Full, Stop}
use Rattle.journal.specs.declared.layouts.Layout.{Layout}
use Rattle.journal.specs.Layout.{ascends, all_below}
use Rattle.pool_rules.specs.Events.{frame_of}
use Rattle.pool_rules.specs.Numbers.{holds}
use Rattle.pool_rules.specs.Next.{next_in, is_take, is_full}
use Rattle.pool_rules.specs.State.{State, is_resident, state_of}

-- whether the frame is live and owned by this maker
abbrev pub owns : State → ℕ → ℕ → Bool
owns s by frame = list_any (λ f. (f.number == frame) && (f.owner == by)) s.frames

-- whether the frame pins the page
abbrev pub pins : State → ℕ → ℕ → Bool
pins s frame page = list_any (λ f. (f.number == frame) && slice_index_or f.pins page false) s.frames

-- whether this maker is loading the page
abbrev pub loads : State → ℕ → ℕ → Bool
loads s by page = holds (slice_index_or s.loading page None) by

-- whether it is an entry of the frame: one that names it
abbrev pub is_entry_of : ℕ → What → Bool
is_entry_of frame what = holds (frame_of what) frame

abbrev pub has_entry : ℕ → List Entry → Bool
has_entry frame journal = list_any (λ e. is_entry_of frame e.what) journal

-- the count of faults after a Fail of this maker; any other entry leaves the last one
abbrev pub after_fail : Bool → What → ℕ → ℕ
after_fail true (Fail page before after) last = after
after_fail _ _ last = last

-- the count of faults after the maker's last Fail, 0 where it has none
abbrev pub last_after : ℕ → List Entry → ℕ
last_after by journal = fold (λ last e. after_fail (e.by == by) e.what last) 0 journal

-- pages that ascend, each below the number of pages
abbrev pub is_page_list : Layout → List ℕ → Bool
is_page_list layout pages = ascends pages && all_below layout.pages pages

abbrev pub all_resident : State → List ℕ → Bool
all_resident s pages = list_all (is_resident s) pages

abbrev pub any_resident : State → List ℕ → Bool
any_resident s pages = list_any (is_resident s) pages

-- the count of faults rose, or was and is at its maximum
abbrev pub rose : ℕ → ℕ → Bool
rose before after = nat_lt before after || ((before == 2 ^ 64 - 1) && (after == 2 ^ 64 - 1))

-- whether the bytes were wrong as the entry says: two different digests; one of the four rules of the grammar
-- of pages, at an offset within the page; or fewer bytes than a page has
abbrev pub is_wrong : Spoilt → Bool
is_wrong (Digest stated found) = not (pointwise nat_eq stated.bytes found.bytes)
is_wrong (Grammar rule offset) = nat_le 1 rule && (nat_le rule 4 && nat_lt offset PAGE_BYTES)
is_wrong (Short got) = nat_lt got PAGE_BYTES

-- the table of entries: whether a maker may append this to the journal, whose state is s
abbrev pub allows : Layout → State → List Entry → ℕ → What → Bool
allows layout s journal by (Pin frame) = owns s by frame || not (has_entry frame journal)
allows layout s journal by (Settle frame pages missing) =
    owns s by frame
    && (is_page_list layout pages
    && (is_page_list layout missing && (all_resident s pages && not (any_resident s missing))))
allows layout s journal by (Ask frame pages) =
    owns s by frame && (is_page_list layout pages && not (any_resident s pages))
allows layout s journal by (Narrow frame pages) =
    owns s by frame && (ascends pages && list_all (pins s frame) pages)
allows layout s journal by (Unpin frame) = owns s by frame
allows layout s journal by (Take None page victim) =
    not s.stopped && is_take (next_in layout s None) page victim
allows layout s journal by (Take (Some frame) page victim) =
    not s.stopped && (is_take (next_in layout s (Some frame)) page victim && owns s by frame)
allows layout s journal by (Install page digest) = loads s by page
allows layout s journal by (Fail page before after) =
    loads s by page && (rose before after && nat_le (last_after by journal) before)
allows layout s journal by (Spoil page why) = loads s by page && is_wrong why
allows layout s journal by (Starve page) = loads s by page
allows layout s journal by (Full frame) =
    not s.stopped && (owns s by frame && is_full (next_in layout s (Some frame)))
allows layout s journal by Stop = not s.stopped

-- whether the entry is allowed next after the journal
abbrev pub is_allowed : Layout → List Entry → Entry → Bool
is_allowed layout journal entry = allows layout (state_of layout journal) journal entry.by entry.what

abbrev pub refused_or : Bool → ℕ → Option ℕ → Option ℕ
refused_or true place later = later
refused_or false place later = Some place

-- the index of the first of these entries that isn't allowed after those before it
abbrev pub first_refused_after : Layout → List Entry → List Entry → Option ℕ
first_refused_after layout before [] = None
first_refused_after layout before (entry ∷ entries) =
    refused_or (is_allowed layout before entry) (length before)
    (first_refused_after layout (before ++ entry ∷ []) entries)

abbrev pub first_refused : Layout → List Entry → Option ℕ
first_refused layout journal = first_refused_after layout [] journal

-- a legal journal: each entry is allowed after the entries before it
abbrev pub IsLegal : Layout → List Entry → Type 0
IsLegal layout journal = first_refused layout journal ≡ None

-- What a loader may do next, for a frame or for all.
use Rattle.std.specs.Prelude.{◌==◌, ◌&&◌, ℕ, List, Bool, true, false, not, find, nat_eq, nat_lt, if◌then◌else◌, Option}
use Rattle.std.specs.Prelude.{None, Some}
use Rattle.std.specs.List.{list_all}
use Rattle.std.specs.Option.{option_eq}
use Rattle.journal.specs.declared.entries.Entry.{Entry}
use Rattle.pool_rules.specs.declared.want.Want.{Want}
use Rattle.journal.specs.declared.layouts.Layout.{Layout}
use Rattle.pool_rules.specs.declared.next_load.Next.{Next}
use Rattle.pool_rules.specs.declared.next_load.Next.TheVariants.{Take, Full, Busy, Nothing}
use Rattle.journal.specs.Layout.{uppers_of}
use Rattle.pool_rules.specs.State.{State, is_resident, is_loading, is_held, held_count, state_of}
use Rattle.pool_rules.specs.Victim.{victim_for}

-- whether it is a want of this frame; of any frame if none is given
abbrev pub is_want_for : Option ℕ → Want → Bool
is_want_for None want = true
is_want_for (Some frame) want = want.frame == frame

-- whether the page can be taken: it is neither resident nor being loaded, and its uppers are resident
abbrev pub can_take : Layout → State → ℕ → Bool
can_take layout s page = not (is_held s page) && list_all (is_resident s) (uppers_of layout page)

abbrev pub is_takeable : Layout → State → Option ℕ → Want → Bool
is_takeable layout s frame want = is_want_for frame want && can_take layout s want.page

-- the first want whose page can be taken
abbrev pub first_takeable : Layout → State → Option ℕ → Option Want
first_takeable layout s frame = find (is_takeable layout s frame) s.wants

abbrev pub is_busy : State → ℕ → Want → Bool
is_busy s frame want = (want.frame == frame) && is_loading s want.page

-- the frame's first want whose page is being loaded
abbrev pub first_loading : State → ℕ → Option Want
first_loading s frame = find (is_busy s frame) s.wants

-- a page that can be taken is taken into a free slot, or for a victim
abbrev pub next_with : ℕ → Option ℕ → Next
next_with page None = Full page
next_with page (Some victim) = Take page (Some victim)

abbrev pub next_at : Layout → State → ℕ → Next
next_at layout s page =
    if nat_lt (held_count s) layout.slots then Take page None else next_with page (victim_for layout s page)

abbrev pub busy_with : Option Want → Next
busy_with None = Nothing
busy_with (Some want) = Busy want.page

-- if no page can be taken, and a frame is given, the answer is the frame's first want that is being loaded
abbrev pub next_without : State → Option ℕ → Next
next_without s None = Nothing
next_without s (Some frame) = busy_with (first_loading s frame)

abbrev pub next_of : Layout → State → Option ℕ → Option Want → Next
next_of layout s frame None = next_without s frame
next_of layout s frame (Some want) = next_at layout s want.page

abbrev pub next_in : Layout → State → Option ℕ → Next
next_in layout s frame = next_of layout s frame (first_takeable layout s frame)

-- what a loader may do next after a journal
abbrev pub next_after : Layout → List Entry → Option ℕ → Next
next_after layout journal frame = next_in layout (state_of layout journal) frame

-- whether the answer is to take this page for this victim
abbrev pub is_take : Next → ℕ → Option ℕ → Bool
is_take (Take p v) page victim = (p == page) && option_eq nat_eq v victim
is_take _ page victim = false

abbrev pub is_full : Next → Bool
is_full (Full page) = true
is_full _ = false

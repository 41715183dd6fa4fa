-- Which entries may stand next, by worked journals, computed.
use Rattle.std.proofs.Common.{◌≡◌, ℕ, ◌-◌, ◌^◌, Bool, true, false, List, [], ◌∷◌, ◌++◌, map, Some, None, Option, refl}
use Rattle.std.specs.Prelude.{replicate}
use Rattle.geom_core.specs.declared.digests.Digest32.{Digest32}
use Rattle.journal.specs.declared.entries.Entry.{Entry}
use Rattle.journal.specs.declared.entries.Spoilt.TheVariants.{Digest, Grammar, Short}
use Rattle.journal.specs.declared.entries.What.{What}
use Rattle.journal.specs.declared.entries.What.TheVariants.{Pin, Settle, Ask, Narrow, Unpin, Take, Install, Fail, Spoil}
use Rattle.journal.specs.declared.entries.What.TheVariants.{Starve, Full, Stop}
use Rattle.journal.specs.declared.layouts.Layout.{Layout}
use Rattle.pool_rules.proofs.Examples.{entry, digest, shared, asked_shared, queued, flat, loading_1, other_ends}
use Rattle.pool_rules.proofs.Examples.{asked_1}
use Rattle.pool_rules.specs.Rules.{first_refused, is_allowed, is_entry_of, is_wrong, last_after, owns, rose}
use Rattle.pool_rules.specs.State.{state_of}

-- Two pages, of which neither stands on the other.
abbrev two : Layout
two = record { pages = 2; roots = 1; slots = 2; uppers = [] ∷ [] ∷ [] }

-- a frame that ended doesn't begin again
pub pin_again : first_refused two (entry 0 (Pin 0) ∷ entry 0 (Unpin 0) ∷ entry 0 (Pin 0) ∷ []) ≡ Some 2
pin_again = refl

-- one that is live looks again
pub pin_live : first_refused two (entry 0 (Pin 0) ∷ entry 0 (Pin 0) ∷ []) ≡ None
pin_live = refl

-- a frame is its owner's alone
pub other_maker : first_refused two (entry 0 (Pin 0) ∷ entry 1 (Unpin 0) ∷ []) ≡ Some 1
other_maker = refl

pub own_maker : first_refused two (entry 0 (Pin 0) ∷ entry 0 (Unpin 0) ∷ []) ≡ None
own_maker = refl

-- of two makers each owns its own frame
pub owns_own : map (λ by. map (owns (state_of shared queued) by) (0 ∷ 1 ∷ [])) (0 ∷ 1 ∷ 2 ∷ [])
    ≡ (true ∷ false ∷ []) ∷ (false ∷ true ∷ []) ∷ (false ∷ false ∷ []) ∷ []
owns_own = refl

-- the first entry that is refused
pub refused_first : first_refused two (entry 0 (Pin 0) ∷ entry 1 (Unpin 0) ∷ entry 0 (Starve 1) ∷ entry 0 (Unpin 0)
    ∷ []) ≡ Some 1
refused_first = refl

-- the second stop
pub stop_again : first_refused two (entry 0 Stop ∷ entry 0 Stop ∷ []) ≡ Some 1
stop_again = refl

pub stop_once : first_refused two (entry 0 (Pin 0) ∷ entry 0 Stop ∷ []) ≡ None
stop_once = refl

-- a failed read raises the count of faults
pub fail_unraised : first_refused two (entry 0 (Pin 0) ∷ entry 0 (Settle 0 (0 ∷ []) (1 ∷ [])) ∷ entry 0
    (Take (Some 0) 1 None) ∷ entry 0 (Fail 1 3 3) ∷ []) ≡ Some 3
fail_unraised = refl

pub fail_raised : first_refused two (entry 0 (Pin 0) ∷ entry 0 (Settle 0 (0 ∷ []) (1 ∷ [])) ∷ entry 0
    (Take (Some 0) 1 None) ∷ entry 0 (Fail 1 3 4) ∷ []) ≡ None
fail_raised = refl

-- both counts stay at the greatest
pub fail_greatest : first_refused two (entry 0 (Pin 0) ∷ entry 0 (Settle 0 (0 ∷ []) (1 ∷ [])) ∷ entry 0
    (Take (Some 0) 1 None) ∷ entry 0 (Fail 1 (2 ^ 64 - 1) (2 ^ 64 - 1)) ∷ []) ≡ None
fail_greatest = refl

-- from the greatest no other count is a rise
pub fail_from_greatest : map (λ after. rose (2 ^ 64 - 1) after) (0 ∷ 5 ∷ (2 ^ 64 - 2) ∷ (2 ^ 64 - 1) ∷ [])
    ≡ false ∷ false ∷ false ∷ true ∷ []
fail_from_greatest = refl

-- a read that failed raised the count to 4, and the page is being loaded again
abbrev failed : List Entry
failed =
    entry 0 (Pin 0) ∷ entry 0 (Settle 0 (0 ∷ []) (1 ∷ [])) ∷ entry 0 (Take (Some 0) 1 None) ∷ entry 0 (Fail 1 3 4)
    ∷ entry 0 (Ask 0 (1 ∷ [])) ∷ entry 0 (Take (Some 0) 1 None) ∷ []

pub fail_below_last : first_refused two (failed ++ entry 0 (Fail 1 3 5) ∷ []) ≡ Some 6
fail_below_last = refl

pub fail_from_last : first_refused two (failed ++ entry 0 (Fail 1 4 5) ∷ []) ≡ None
fail_from_last = refl

-- the count may have risen since
pub fail_above_last : first_refused two (failed ++ entry 0 (Fail 1 6 7) ∷ []) ≡ None
fail_above_last = refl

-- the last count is the maker's own, and 0 of one that had no Fail
pub last_of_makers : map (λ by. last_after by
    (entry 0 (Fail 1 2 3) ∷ entry 0 (Fail 1 3 6) ∷ entry 1 (Fail 2 8 9) ∷ entry 0 Stop ∷ [])) (0 ∷ 1 ∷ 2 ∷ [])
    ≡ 6 ∷ 9 ∷ 0 ∷ []
last_of_makers = refl

-- Lists of pages: 0 and 1 of four pages are resident, and frame 0 pins page 0 alone.
abbrev may : What → Bool
may what = is_allowed flat asked_1 (entry 0 what)

-- those of a Settle ascend, the first of resident pages, the second of others
pub settle_both : may (Settle 0 (0 ∷ 1 ∷ []) (2 ∷ 3 ∷ [])) ≡ true
settle_both = refl

pub settle_falling : map may (Settle 0 (1 ∷ 0 ∷ []) [] ∷ Settle 0 [] (3 ∷ 2 ∷ []) ∷ []) ≡ false ∷ false ∷ []
settle_falling = refl

pub settle_twice : map may (Settle 0 (1 ∷ 1 ∷ []) [] ∷ Settle 0 [] (2 ∷ 2 ∷ []) ∷ []) ≡ false ∷ false ∷ []
settle_twice = refl

pub settle_absent : may (Settle 0 (0 ∷ 2 ∷ []) []) ≡ false
settle_absent = refl

pub settle_there : may (Settle 0 (0 ∷ []) (1 ∷ 2 ∷ [])) ≡ false
settle_there = refl

pub settle_beyond : may (Settle 0 [] (3 ∷ 4 ∷ [])) ≡ false
settle_beyond = refl

-- an Ask is for pages that there are, none of them resident
pub ask_missing : may (Ask 0 (2 ∷ 3 ∷ [])) ≡ true
ask_missing = refl

pub ask_there : may (Ask 0 (1 ∷ 2 ∷ [])) ≡ false
ask_there = refl

pub ask_falling : map may (Ask 0 (3 ∷ 2 ∷ []) ∷ Ask 0 (2 ∷ 2 ∷ []) ∷ []) ≡ false ∷ false ∷ []
ask_falling = refl

pub ask_beyond : may (Ask 0 (3 ∷ 4 ∷ [])) ≡ false
ask_beyond = refl

-- a page that is being loaded may be asked for
pub ask_loading : is_allowed flat loading_1 (entry 0 (Ask 0 (1 ∷ 2 ∷ []))) ≡ true
ask_loading = refl

-- a frame keeps what it pins: page 1 is resident, but came after the frame was pinned
pub narrow_pinned : map may (Narrow 0 (0 ∷ []) ∷ Narrow 0 [] ∷ []) ≡ true ∷ true ∷ []
narrow_pinned = refl

pub narrow_twice : may (Narrow 0 (0 ∷ 0 ∷ [])) ≡ false
narrow_twice = refl

pub narrow_unpinned : may (Narrow 0 (0 ∷ 1 ∷ [])) ≡ false
narrow_unpinned = refl

-- nor is it pinned by frame 0 where frame 1 pins it
pub narrow_other : map (λ frame. is_allowed flat (asked_1 ++ entry 0 (Pin 1) ∷ [])
    (entry 0 (Narrow frame (0 ∷ 1 ∷ [])))) (0 ∷ 1 ∷ []) ≡ false ∷ true ∷ []
narrow_other = refl

-- Makers: what frame 0 does is entered by its owner, maker 0.
abbrev of_frame : List What
of_frame = Pin 0 ∷ Settle 0 (0 ∷ []) (2 ∷ []) ∷ Ask 0 (2 ∷ []) ∷ Narrow 0 (0 ∷ []) ∷ Unpin 0 ∷ []

pub frame_owner : map may of_frame ≡ replicate 5 true
frame_owner = refl

pub frame_other : map (λ what. is_allowed flat asked_1 (entry 1 what)) of_frame ≡ replicate 5 false
frame_other = refl

-- a Stop changes nothing for frames, and another one may begin
pub frame_stopped : map (λ what. is_allowed flat (asked_1 ++ entry 1 Stop ∷ []) (entry 0 what)) (Pin 7 ∷ of_frame)
    ≡ replicate 6 true
frame_stopped = refl

-- Takes: what comes next for frame 0 is to take page 1 into a free slot.
abbrev take_shared : ℕ → What → Option ℕ
take_shared by what = first_refused shared (asked_shared ++ entry by what ∷ [])

pub take_own : take_shared 0 (Take (Some 0) 1 None) ≡ None
take_own = refl

-- a load for a frame is its owner's, a load for all is anybody's
pub take_other : take_shared 1 (Take (Some 0) 1 None) ≡ Some 2
take_other = refl

pub take_for_all : take_shared 1 (Take None 1 None) ≡ None
take_for_all = refl

-- of the page that comes next
pub take_later : map (λ frame. take_shared 0 (Take frame 2 None)) (None ∷ Some 0 ∷ []) ≡ Some 2 ∷ Some 2 ∷ []
take_later = refl

-- page 1 is next for all, but not for frame 0, which wants page 2
pub take_unwanted : map (λ frame. is_allowed shared queued (entry 0 (Take frame 1 None))) (None ∷ Some 0 ∷ [])
    ≡ true ∷ false ∷ []
take_unwanted = refl

-- a frame isn't full while a slot is free
pub full_free : take_shared 0 (Full 0) ≡ Some 2
full_free = refl

abbrev full_one : List Entry → Option ℕ
full_one entries = first_refused (record shared { slots = 1 }) (asked_shared ++ entries)

pub full_own : full_one (entry 0 (Full 0) ∷ []) ≡ None
full_own = refl

pub full_other : full_one (entry 1 (Full 0) ∷ []) ≡ Some 2
full_other = refl

-- nor is a frame that wants nothing
pub full_unwanted : full_one (entry 1 (Pin 1) ∷ entry 1 (Full 1) ∷ []) ≡ Some 3
full_unwanted = refl

-- after a Stop nothing is taken, and nobody is told of a full pool
pub take_stopped : map (λ frame. first_refused shared (asked_shared ++ entry 0 Stop ∷ entry 0 (Take frame 1 None) ∷ []))
    (None ∷ Some 0 ∷ []) ≡ Some 3 ∷ Some 3 ∷ []
take_stopped = refl

pub full_stopped : full_one (entry 0 Stop ∷ entry 0 (Full 0) ∷ []) ≡ Some 3
full_stopped = refl

-- but what is being loaded may come, or its load end otherwise
pub ends_stopped : map (λ what. first_refused flat (loading_1 ++ entry 0 Stop ∷ entry 2 what ∷ []))
    (Install 1 digest ∷ other_ends) ≡ replicate 4 None
ends_stopped = refl

pub install_stopped : first_refused shared
    (asked_shared ++ entry 0 (Take (Some 0) 1 None) ∷ entry 0 Stop ∷ entry 0 (Install 1 digest) ∷ []) ≡ None
install_stopped = refl

-- Ends of loads: maker 2 loads page 1.
abbrev ends : ℕ → What → Option ℕ
ends by what = first_refused flat (loading_1 ++ entry by what ∷ [])

-- a load is ended by its maker
pub ends_own : map (ends 2) (Install 1 digest ∷ other_ends) ≡ replicate 4 None
ends_own = refl

pub ends_other : map (ends 0) (Install 1 digest ∷ other_ends) ≡ replicate 4 (Some 5)
ends_other = refl

-- and is of the page that is being loaded
pub ends_unloaded : ends 2 (Install 2 digest) ≡ Some 5
ends_unloaded = refl

-- What may be spoilt: the digests differ, be it by one byte.
abbrev other_digest : Digest32
other_digest = record { bytes = replicate 31 7 ++ 8 ∷ [] }

pub spoil_differing : ends 2 (Spoil 1 (Digest digest other_digest)) ≡ None
spoil_differing = refl

pub spoil_equal : ends 2 (Spoil 1 (Digest digest digest)) ≡ Some 5
spoil_equal = refl

-- or a rule from 1 to 4 is broken
pub spoilt_rules : map (λ rule. is_wrong (Grammar rule 0)) (0 ∷ 1 ∷ 4 ∷ 5 ∷ []) ≡ false ∷ true ∷ true ∷ false ∷ []
spoilt_rules = refl

-- within the 65,536 bytes of a page
pub spoilt_offsets : map (λ offset. is_wrong (Grammar 1 offset)) (65535 ∷ 65536 ∷ []) ≡ true ∷ false ∷ []
spoilt_offsets = refl

-- or fewer bytes came than a page has
pub spoilt_lengths : map (λ got. is_wrong (Short got)) (0 ∷ 65535 ∷ 65536 ∷ []) ≡ true ∷ true ∷ false ∷ []
spoilt_lengths = refl

-- Entries of frame 3: those that name it, so no Install of page 3, and no Take of it for all.
pub entries_of_frame : map (is_entry_of 3) (Pin 3 ∷ Unpin 3 ∷ Take (Some 3) 1 None ∷ Full 3 ∷ [])
    ≡ true ∷ true ∷ true ∷ true ∷ []
entries_of_frame = refl

pub entries_of_others : map (is_entry_of 3) (Pin 2 ∷ Take (Some 2) 3 None ∷ Take None 3 None ∷ Install 3 digest ∷ [])
    ≡ false ∷ false ∷ false ∷ false ∷ []
entries_of_others = refl

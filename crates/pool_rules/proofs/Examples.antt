-- Worked journals, computed: how the pool stands after them, what comes next and which page is evicted.
use Rattle.std.proofs.Common.{◌≡◌, ℕ, zero, suc, inl, inr, arith, Bool, true, false, List, [], ◌∷◌, ◌++◌, map, Some}
use Rattle.std.proofs.Common.{None, Option, refl}
use Rattle.std.specs.Prelude.{replicate}
use Rattle.geom_core.specs.declared.digests.Digest32.{Digest32}
use Rattle.journal.specs.declared.entries.Entry.{Entry}
use Rattle.journal.specs.declared.entries.Spoilt.TheVariants.{Short}
use Rattle.journal.specs.declared.entries.What.{What}
use Rattle.journal.specs.declared.entries.What.TheVariants.{Pin, Settle, Ask, Narrow, Unpin, Take, Install, Fail, Spoil}
use Rattle.journal.specs.declared.entries.What.TheVariants.{Starve, Full, Stop}
use Rattle.journal.specs.declared.layouts.Layout.{Layout}
use Rattle.pool_rules.specs.declared.next_load.Next.TheVariants as Next
use Rattle.pool_rules.specs.declared.want.Want.{Want}
use Rattle.pool_rules.specs.Next.{can_take, next_after}
use Rattle.pool_rules.specs.Rules.{first_refused}
use Rattle.pool_rules.specs.State.{State, initial_state, held_count, is_loading, is_resident, residency, state_of}
use Rattle.pool_rules.specs.Victim.{HasNoVictim, IsLessRecent, victim_after, victim_for}

abbrev pub entry : ℕ → What → Entry
entry by what = record { by = by; what = what }

abbrev pub digest : Digest32
digest = record { bytes = replicate 32 7 }

-- Page 2 stands on the pages 0 and 1, page 1 on page 0.
abbrev pub shared : Layout
shared = record { pages = 3; roots = 1; slots = 3; uppers = [] ∷ (0 ∷ []) ∷ (0 ∷ 1 ∷ []) ∷ [] }

abbrev pub asked_shared : List Entry
asked_shared = entry 0 (Pin 0) ∷ entry 0 (Settle 0 (0 ∷ []) (1 ∷ 2 ∷ [])) ∷ []

abbrev loaded_shared : List Entry
loaded_shared =
    asked_shared ++ entry 0 (Take (Some 0) 1 None) ∷ entry 0 (Install 1 digest) ∷ entry 0 (Take (Some 0) 2 None) ∷ entry
    0 (Install 2 digest) ∷ []

-- each page after its uppers: legal
pub shared_in_order : first_refused shared loaded_shared ≡ None
shared_in_order = refl

-- page 2 first: its upper 1 isn't resident
pub shared_too_soon : first_refused shared (asked_shared ++ entry 0 (Take (Some 0) 2 None) ∷ []) ≡ Some 2
shared_too_soon = refl

-- Six pages and five slots, so that the last page is taken for a victim.
abbrev crowded : Layout
crowded = record {
  pages = 6;
  roots = 1;
  slots = 5;
  uppers = [] ∷ (0 ∷ []) ∷ (0 ∷ 1 ∷ []) ∷ (0 ∷ []) ∷ (0 ∷ []) ∷ (0 ∷ []) ∷ [];
}

-- the load of a page by maker 0 for frame 0
abbrev pub load : ℕ → List Entry
load page = entry 0 (Take (Some 0) page None) ∷ entry 0 (Install page digest) ∷ []

abbrev crowded_journal : List Entry
crowded_journal =
    entry 0 (Pin 0) ∷ entry 0 (Settle 0 (0 ∷ []) (1 ∷ 2 ∷ 3 ∷ 4 ∷ [])) ∷ load 1 ++ load 2 ++ load 3 ++ load 4
    ++ entry 0 (Pin 0) ∷ entry 0 (Narrow 0 (2 ∷ 3 ∷ [])) ∷ entry 0 (Narrow 0 (3 ∷ []))
    ∷ entry 1 (Pin 1) ∷ entry 1 (Settle 1 (0 ∷ []) (5 ∷ [])) ∷ []

abbrev take_5 : Option ℕ → List Entry
take_5 victim = crowded_journal ++ entry 1 (Take (Some 1) 5 victim) ∷ []

-- 4 was last used at place 9, 2 at place 11: 4 is evicted
pub crowded_oldest : first_refused crowded (take_5 (Some 4)) ≡ None
crowded_oldest = refl

-- 2 was used later
pub crowded_later : first_refused crowded (take_5 (Some 2)) ≡ Some 15
crowded_later = refl

-- 3 is pinned
pub crowded_pinned : first_refused crowded (take_5 (Some 3)) ≡ Some 15
crowded_pinned = refl

-- 1 is an upper of 2
pub crowded_upper : first_refused crowded (take_5 (Some 1)) ≡ Some 15
crowded_upper = refl

-- no slot is free
pub crowded_free : first_refused crowded (take_5 None) ≡ Some 15
crowded_free = refl

-- What comes next: a page into a free slot, a page for a victim, no victim, a page that is loading, nothing.
pub next_free : next_after shared asked_shared (Some 0) ≡ Next.Take 1 None
next_free = refl

pub next_for_victim : next_after crowded crowded_journal (Some 1) ≡ Next.Take 5 (Some 4)
next_for_victim = refl

pub next_full : next_after (record shared { slots = 1 }) asked_shared (Some 0) ≡ Next.Full 1
next_full = refl

abbrev loading_shared : List Entry
loading_shared = asked_shared ++ entry 0 (Take (Some 0) 1 None) ∷ []

pub next_busy : next_after shared loading_shared (Some 0) ≡ Next.Busy 1
next_busy = refl

-- No page has an upper, and frame 0 waits for the pages 1 and 2, which are both being loaded.
abbrev pub flat : Layout
flat = record { pages = 4; roots = 1; slots = 3; uppers = [] ∷ [] ∷ [] ∷ [] ∷ [] }

abbrev loading_both : List Entry
loading_both =
    entry 0 (Pin 0) ∷ entry 0 (Settle 0 (0 ∷ []) (1 ∷ 2 ∷ [])) ∷ entry 0 (Take (Some 0) 1 None) ∷ entry 0
    (Take (Some 0) 2 None) ∷ []

-- of two wants whose pages are being loaded the first is reported
pub next_busy_first : next_after flat loading_both (Some 0) ≡ Next.Busy 1
next_busy_first = refl

-- no frame is given, so none is busy
pub next_nothing : next_after shared loading_shared None ≡ Next.Nothing
next_nothing = refl

-- the residency, ascending
pub residency_shared : residency shared loaded_shared ≡ 0 ∷ 1 ∷ 2 ∷ []
residency_shared = refl

-- at first the root pages are resident, and no page is that the layout doesn't have
pub resident_first : map (is_resident (state_of flat [])) (0 ∷ 1 ∷ 4 ∷ []) ≡ true ∷ false ∷ false ∷ []
resident_first = refl

-- a page can be taken that is neither resident nor being loaded, and whose uppers are resident: not page 2,
-- while page 1 is being loaded
pub take_apart : map (λ journal. map (can_take shared (state_of shared journal)) (0 ∷ 1 ∷ 2 ∷ []))
    (asked_shared ∷ loading_shared ∷ loaded_shared ∷ [])
    ≡ (false ∷ true ∷ false ∷ []) ∷ (false ∷ false ∷ false ∷ []) ∷ (false ∷ false ∷ false ∷ []) ∷ []
take_apart = refl

-- the victim's slot is the loading page's
pub taken_resident : (state_of crowded (take_5 (Some 4))).resident ≡ true ∷ true ∷ true ∷ true ∷ false ∷ false ∷ []
taken_resident = refl

pub taken_loading : (state_of crowded (take_5 (Some 4))).loading ≡ None ∷ None ∷ None ∷ None ∷ None ∷ Some 1 ∷ []
taken_loading = refl

pub taken_held : held_count (state_of crowded (take_5 (Some 4))) ≡ 5
taken_held = refl

-- Wants: frame 0 waits for page 2, then frame 1 asks for the pages 1 and 2.
abbrev want : ℕ → ℕ → Bool → Want
want frame page settled = record { frame = frame; page = page; settled = settled }

abbrev pub queued : List Entry
queued =
    entry 0 (Pin 0) ∷ entry 1 (Pin 1) ∷ entry 0 (Settle 0 (0 ∷ []) (2 ∷ [])) ∷ entry 1 (Ask 1 (1 ∷ 2 ∷ [])) ∷ []

-- what is wanted after these entries more
abbrev wants_then : List Entry → List Want
wants_then entries = (state_of shared (queued ++ entries)).wants

-- an Ask stands behind what was wanted before, and doesn't wait
pub ask_queues : wants_then [] ≡ want 0 2 true ∷ want 1 1 false ∷ want 1 2 false ∷ []
ask_queues = refl

-- a Settle takes the place of all that its frame wanted, and stands behind the others
pub settle_replaces : wants_then (entry 0 (Settle 0 (0 ∷ []) (1 ∷ [])) ∷ [])
    ≡ want 1 1 false ∷ want 1 2 false ∷ want 0 1 true ∷ []
settle_replaces = refl

-- what an ended frame wanted stays
pub ended_stays : wants_then (entry 1 (Unpin 1) ∷ entry 0 (Narrow 0 (0 ∷ [])) ∷ [])
    ≡ want 0 2 true ∷ want 1 1 false ∷ want 1 2 false ∷ []
ended_stays = refl

-- until some frame settles or asks
pub ended_goes : wants_then (entry 1 (Unpin 1) ∷ entry 0 (Ask 0 (1 ∷ [])) ∷ []) ≡ want 0 1 false ∷ []
ended_goes = refl

-- no other event than an end of a load, a Settle or an Ask changes the wants
pub others_keep : map (λ what. wants_then (entry 0 what ∷ []))
    (Pin 0 ∷ Narrow 0 [] ∷ Unpin 0 ∷ Take None 1 None ∷ Full 0 ∷ Stop ∷ []) ≡ replicate 6 (wants_then [])
others_keep = refl

-- page 2 has to wait for its upper 1: a loader for all takes that, one for frame 0 has nothing to do
pub next_for_all : next_after shared queued None ≡ Next.Take 1 None
next_for_all = refl

pub next_for_one : next_after shared queued (Some 0) ≡ Next.Nothing
next_for_one = refl

-- once page 1 is being loaded, that is told to frame 1, which wants it, and not to frame 0
pub next_busy_own : next_after shared (queued ++ entry 2 (Take None 1 None) ∷ []) (Some 1) ≡ Next.Busy 1
next_busy_own = refl

pub next_busy_other : next_after shared (queued ++ entry 2 (Take None 1 None) ∷ []) (Some 0) ≡ Next.Nothing
next_busy_other = refl

-- Both frames want page 1, frame 0 waits for it, and maker 2 loads it.
abbrev pub loading_1 : List Entry
loading_1 =
    entry 0 (Pin 0) ∷ entry 1 (Pin 1) ∷ entry 0 (Settle 0 (0 ∷ []) (1 ∷ [])) ∷ entry 1 (Ask 1 (1 ∷ 2 ∷ []))
    ∷ entry 2 (Take None 1 None) ∷ []

-- how the pool stands once the load has ended so
abbrev ended_by : What → State
ended_by what = state_of flat (loading_1 ++ entry 2 what ∷ [])

pub loading_maker : (state_of flat loading_1).loading ≡ None ∷ Some 2 ∷ None ∷ None ∷ []
loading_maker = refl

-- an Install adds the page to the pins of frame 0 alone
pub install_pins : map (λ f. f.pins) (ended_by (Install 1 digest)).frames
    ≡ (true ∷ true ∷ false ∷ false ∷ []) ∷ (true ∷ false ∷ false ∷ false ∷ []) ∷ []
install_pins = refl

-- nor is it added where the frame waits for another page
pub install_pins_none : map (λ f. f.pins)
    (state_of flat (entry 0 (Pin 0) ∷ entry 0 (Settle 0 (0 ∷ []) (2 ∷ [])) ∷ entry 1 (Pin 1) ∷ entry 1 (Ask 1 (1 ∷ []))
    ∷ entry 1 (Take (Some 1) 1 None) ∷ entry 1 (Install 1 digest) ∷ [])).frames
    ≡ replicate 2 (true ∷ false ∷ false ∷ false ∷ [])
install_pins_none = refl

-- Ends of the load: an Install, or one of these.
abbrev pub other_ends : List What
other_ends = Fail 1 0 1 ∷ Spoil 1 (Short 9) ∷ Starve 1 ∷ []

-- each takes out the wants of both frames
pub ends_wants : map (λ what. (ended_by what).wants) (Install 1 digest ∷ other_ends) ≡ replicate 4 (want 1 2 false ∷ [])
ends_wants = refl

-- by each the page is loaded no more, and by the Install alone it is resident
pub ends_loading : map (λ what. is_loading (ended_by what) 1) (Install 1 digest ∷ other_ends) ≡ replicate 4 false
ends_loading = refl

pub ends_resident : map (λ what. is_resident (ended_by what) 1) (Install 1 digest ∷ other_ends)
    ≡ true ∷ false ∷ false ∷ false ∷ []
ends_resident = refl

-- what the frames pin after these entries
abbrev pins_after : List Entry → List (List Bool)
pins_after journal = map (λ f. f.pins) (state_of flat journal).frames

-- frame 0 asks for page 1, which comes
abbrev pub asked_1 : List Entry
asked_1 = entry 0 (Pin 0) ∷ entry 0 (Ask 0 (1 ∷ [])) ∷ load 1

-- a Pin is of what is resident then
pub pin_then : pins_after asked_1 ≡ (true ∷ false ∷ false ∷ false ∷ []) ∷ []
pin_then = refl

-- a live frame that pins again stands where it stood
pub pin_anew : pins_after (asked_1 ++ entry 1 (Pin 1) ∷ entry 1 (Narrow 1 []) ∷ entry 0 (Pin 0) ∷ [])
    ≡ (true ∷ true ∷ false ∷ false ∷ []) ∷ (false ∷ false ∷ false ∷ false ∷ []) ∷ []
pin_anew = refl

-- Settle and Narrow leave their pages alone pinned, and Unpin none
pub settle_pins : pins_after (asked_1 ++ entry 0 (Settle 0 (1 ∷ []) (2 ∷ [])) ∷ [])
    ≡ (false ∷ true ∷ false ∷ false ∷ []) ∷ []
settle_pins = refl

pub narrow_pins : pins_after (asked_1 ++ entry 0 (Pin 0) ∷ entry 0 (Narrow 0 (1 ∷ [])) ∷ [])
    ≡ (false ∷ true ∷ false ∷ false ∷ []) ∷ []
narrow_pins = refl

pub unpin_pins : pins_after (asked_1 ++ entry 0 (Unpin 0) ∷ []) ≡ []
unpin_pins = refl

-- the Unpin of one frame leaves the other
pub unpin_other : pins_after (asked_1 ++ entry 1 (Pin 1) ∷ entry 0 (Unpin 0) ∷ [])
    ≡ (true ∷ true ∷ false ∷ false ∷ []) ∷ []
unpin_other = refl

-- Which page is evicted: pages 1 and 2 came in this order, were used again by these entries, and nobody pins them.
abbrev idle : List Entry → List Entry
idle entries =
    entry 0 (Pin 0) ∷ entry 0 (Settle 0 (0 ∷ []) (1 ∷ 2 ∷ [])) ∷ load 1 ++ load 2 ++ entries ++ entry 0 (Unpin 0) ∷ []

-- the Settle uses page 0, and each Install its own
pub last_used_installed : (state_of flat (idle [])).last_used ≡ 2 ∷ 4 ∷ 6 ∷ 0 ∷ []
last_used_installed = refl

-- Settle uses its pages and not its missing ones, and no other event uses a page
pub last_used_otherwise : map (λ what. (state_of flat (idle (entry 0 what ∷ []))).last_used)
    (Settle 0 (1 ∷ []) (3 ∷ []) ∷ Pin 0 ∷ Ask 0 (3 ∷ []) ∷ Take None 3 (Some 1) ∷ Starve 1 ∷ Full 0 ∷ Stop ∷ [])
    ≡ (2 ∷ 7 ∷ 6 ∷ 0 ∷ []) ∷ replicate 6 (2 ∷ 4 ∷ 6 ∷ 0 ∷ [])
last_used_otherwise = refl

-- page 1 was used first
pub victim_first : victim_after flat (idle []) 3 ≡ Some 1
victim_first = refl

-- a Narrow uses its pages
pub last_used_narrowed : (state_of flat (idle (entry 0 (Narrow 0 (1 ∷ [])) ∷ []))).last_used ≡ 2 ∷ 7 ∷ 6 ∷ 0 ∷ []
last_used_narrowed = refl

-- a Narrow uses page 1 again, so page 2 is evicted
pub victim_used_again : victim_after flat (idle (entry 0 (Narrow 0 (1 ∷ [])) ∷ [])) 3 ≡ Some 2
victim_used_again = refl

-- used by the same entry: the greater number is evicted
pub victim_equal : victim_after flat (idle (entry 0 (Narrow 0 (1 ∷ 2 ∷ [])) ∷ [])) 3 ≡ Some 2
victim_equal = refl

-- what was never used is evicted first
pub victim_unused : victim_for flat (record (state_of flat (idle [])) { last_used = 2 ∷ 4 ∷ 0 ∷ 0 ∷ [] }) 3 ≡ Some 2
victim_unused = refl

-- page 1 was used less recently than page 2, or, used by the same entry, the greater number is first
pub recent_first : IsLessRecent (state_of flat (idle [])) 1 2
recent_first = inl (omega arith)

pub recent_equal : IsLessRecent (state_of flat (idle (entry 0 (Narrow 0 (1 ∷ 2 ∷ [])) ∷ []))) 2 1
recent_equal = inr (refl, omega arith)

-- at first no page may be evicted
pub no_victim_first : HasNoVictim flat (initial_state flat) 3
no_victim_first zero below h = cc
no_victim_first (suc zero) below h = cc
no_victim_first (suc (suc zero)) below h = cc
no_victim_first (suc (suc (suc zero))) below h = cc
no_victim_first (suc (suc (suc (suc q)))) below h = cc

-- but not where page 1 may be
pub no_victim_idle : HasNoVictim flat (state_of flat (idle [])) 3 → ⊥
no_victim_idle none = none 1 (omega arith) refl

-- page 1, which nobody pins, goes, and it stays once a frame pins it
pub victim_unpinned : victim_after flat asked_1 3 ≡ Some 1
victim_unpinned = refl

pub victim_pinned : victim_after flat (asked_1 ++ entry 1 (Pin 1) ∷ []) 3 ≡ None
victim_pinned = refl

-- a root page never goes, though nobody pins it
pub victim_root : victim_after flat [] 3 ≡ None
victim_root = refl

-- Pages 1 and 3 stand on the root page, page 2 on page 1. A frame asks for all, so that it pins none of them.
abbrev branch : Layout
branch = record { pages = 4; roots = 1; slots = 3; uppers = [] ∷ (0 ∷ []) ∷ (1 ∷ []) ∷ (0 ∷ []) ∷ [] }

abbrev came_1 : List Entry
came_1 = entry 0 (Pin 0) ∷ entry 0 (Ask 0 (1 ∷ 2 ∷ 3 ∷ [])) ∷ load 1

-- page 1 goes for page 3, but not for page 2, which stands on it
pub victim_apart : victim_after branch came_1 3 ≡ Some 1
victim_apart = refl

pub victim_own_upper : victim_after branch came_1 2 ≡ None
victim_own_upper = refl

-- while page 2 is being loaded, page 1 doesn't go for page 3
abbrev loading_2 : List Entry
loading_2 = came_1 ++ entry 0 (Take (Some 0) 2 None) ∷ []

pub next_under_loading : next_after branch loading_2 (Some 0) ≡ Next.Full 3
next_under_loading = refl

-- once it came, it goes itself
pub next_of_leaf : next_after branch (loading_2 ++ entry 0 (Install 2 digest) ∷ []) (Some 0) ≡ Next.Take 3 (Some 2)
next_of_leaf = refl

-- once its load failed for want of memory, a slot is free
pub next_in_freed : next_after branch (loading_2 ++ entry 0 (Starve 2) ∷ []) (Some 0) ≡ Next.Take 3 None
next_in_freed = refl

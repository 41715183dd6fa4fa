-- Worked examples of a pool's history, computed.
use Rattle.std.proofs.Common.{◌≡◌, ℕ, true, false, [], ◌∷◌, None, refl}
use Rattle.journal.specs.declared.entries.Entry.{Entry}
use Rattle.journal.specs.declared.entries.What.{What}
use Rattle.journal.specs.declared.entries.What.TheVariants.{Full, Pin, Stop, Take, Unpin}
use Rattle.journal.specs.declared.layouts.Layout.{Layout}
use Rattle.residency.specs.History.{begun, entered, entered_in_spare, needs_no_memory, replayed, with_spare}

abbrev entry : ℕ → What → Entry
entry by what = record { by = by; what = what }

-- two pages, of which neither stands on the other
abbrev two : Layout
two = record { pages = 2; roots = 1; slots = 2; uppers = [] ∷ [] ∷ [] }

-- a pool begins without an entry, and each comes after those before it
pub entered_in_order : (entered (entered (begun two) (entry 0 (Pin 3))) (entry 1 Stop)).journal
    ≡ entry 0 (Pin 3) ∷ entry 1 Stop ∷ []
entered_in_order = refl

pub entered_layout : (entered (begun two) (entry 0 (Pin 3))).layout ≡ two
entered_layout = refl

-- a new pool has room for a Stop, a replayed one has none to spare
pub begun_spare : (begun two).spare ≡ 1
begun_spare = refl

pub replayed_spare : (replayed two (entry 0 (Pin 3) ∷ [])).spare ≡ 0
replayed_spare = refl

-- step leaves the spare room, reserve adds to it, step_kept uses one
pub entered_spare : (entered (begun two) (entry 0 (Pin 3))).spare ≡ 1
entered_spare = refl

pub with_spare_two : (with_spare 2 (begun two)).spare ≡ 3
with_spare_two = refl

pub entered_in_spare_one : (entered_in_spare (begun two) (entry 0 Stop)).spare ≡ 0
entered_in_spare_one = refl

pub entered_in_spare_journal : (entered_in_spare (begun two) (entry 0 Stop)).journal ≡ entry 0 Stop ∷ []
entered_in_spare_journal = refl

-- which events need no memory
pub unpin_needs_none : needs_no_memory (Unpin 3) ≡ true
unpin_needs_none = refl

pub stop_needs_none : needs_no_memory Stop ≡ true
stop_needs_none = refl

pub take_needs_memory : needs_no_memory (Take None 1 None) ≡ false
take_needs_memory = refl

pub full_needs_memory : needs_no_memory (Full 3) ≡ false
full_needs_memory = refl

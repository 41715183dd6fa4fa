-- What an event is about: the frame that it names, the page whose load it ends, and whether it is a Stop.
use Rattle.std.specs.Prelude.{◌==◌, ℕ, Bool, true, false, List, Option, None, Some}
use Rattle.std.specs.List.{list_any}
use Rattle.journal.specs.declared.entries.Entry.{Entry}
use Rattle.journal.specs.declared.entries.What.{What}
use Rattle.journal.specs.declared.entries.What.TheVariants.{Pin, Settle, Ask, Narrow, Unpin, Take, Install, Fail, Spoil}
use Rattle.journal.specs.declared.entries.What.TheVariants.{Starve, Full, Stop}
use Rattle.pool_rules.specs.Numbers.{holds}

-- the frame that the event names; none if it is an event of no frame
abbrev pub frame_of : What → Option ℕ
frame_of (Pin frame) = Some frame
frame_of (Settle frame pages missing) = Some frame
frame_of (Ask frame pages) = Some frame
frame_of (Narrow frame pages) = Some frame
frame_of (Unpin frame) = Some frame
frame_of (Take frame page victim) = frame
frame_of (Install page digest) = None
frame_of (Fail page before after) = None
frame_of (Spoil page why) = None
frame_of (Starve page) = None
frame_of (Full frame) = Some frame
frame_of Stop = None

-- the page whose load the event ends, if it ends one
abbrev pub page_ended : What → Option ℕ
page_ended (Pin frame) = None
page_ended (Settle frame pages missing) = None
page_ended (Ask frame pages) = None
page_ended (Narrow frame pages) = None
page_ended (Unpin frame) = None
page_ended (Take frame page victim) = None
page_ended (Install page digest) = Some page
page_ended (Fail page before after) = Some page
page_ended (Spoil page why) = Some page
page_ended (Starve page) = Some page
page_ended (Full frame) = None
page_ended Stop = None

-- the page whose load the event ends without it, if it ends one so
abbrev pub page_failed : What → Option ℕ
page_failed (Install page digest) = None
page_failed what = page_ended what

-- whether one of the entries ends a load of the page without it
abbrev pub has_failed : ℕ → List Entry → Bool
has_failed page entries = list_any (λ e. holds (page_failed e.what) page) entries

-- whether the event begins, changes or ends what the frame pins or wants
abbrev pub changes_frame : What → ℕ → Bool
changes_frame (Take frame page victim) f = false
changes_frame (Full frame) f = false
changes_frame what f = holds (frame_of what) f

-- whether the event replaces the wants of the frame
abbrev pub replaces_wants : What → ℕ → Bool
replaces_wants (Settle frame pages missing) f = frame == f
replaces_wants (Ask frame pages) f = frame == f
replaces_wants _ f = false

abbrev pub is_stop : What → Bool
is_stop Stop = true
is_stop _ = false

-- whether one of the entries is a Stop
abbrev pub has_stop : List Entry → Bool
has_stop entries = list_any (λ e. is_stop e.what) entries

-- whether the frame found the pool full
abbrev pub is_full_of : What → ℕ → Bool
is_full_of (Full frame) f = frame == f
is_full_of _ f = false

abbrev pub has_full : ℕ → List Entry → Bool
has_full frame entries = list_any (λ e. is_full_of e.what frame) entries

-- What events are about, by event, and tests on numbers, computed.
use Rattle.std.proofs.Common.{◌≡◌, true, false, List, [], ◌∷◌, ◌++◌, map, replicate, Some, None, refl}
use Rattle.journal.specs.declared.entries.Spoilt.TheVariants.{Short}
use Rattle.journal.specs.declared.entries.What.{What}
use Rattle.journal.specs.declared.entries.What.TheVariants.{Pin, Settle, Ask, Narrow, Unpin, Take, Install, Fail, Spoil}
use Rattle.journal.specs.declared.entries.What.TheVariants.{Starve, Full, Stop}
use Rattle.pool_rules.proofs.Examples.{digest, entry}
use Rattle.pool_rules.specs.Events.{changes_frame, frame_of, has_failed, has_full, has_stop, is_full_of, is_stop}
use Rattle.pool_rules.specs.Events.{page_ended, page_failed, replaces_wants}
use Rattle.pool_rules.specs.Numbers.{holds, is_among}

-- One event of each kind: those of a frame are of frame 3, and those of a page of page 2.
abbrev of_frame : List What
of_frame = Pin 3 ∷ Settle 3 [] [] ∷ Ask 3 [] ∷ Narrow 3 [] ∷ Unpin 3 ∷ Take (Some 3) 2 (Some 1) ∷ Full 3 ∷ []

abbrev ends : List What
ends = Install 2 digest ∷ Fail 2 0 1 ∷ Spoil 2 (Short 9) ∷ Starve 2 ∷ []

pub frame_of_each : map frame_of of_frame ≡ Some 3 ∷ Some 3 ∷ Some 3 ∷ Some 3 ∷ Some 3 ∷ Some 3 ∷ Some 3 ∷ []
frame_of_each = refl

-- an end of a load, a Take for all frames and a Stop name no frame
pub frame_of_others : map frame_of (Take None 2 (Some 1) ∷ Stop ∷ ends) ≡ None ∷ None ∷ None ∷ None ∷ None ∷ None ∷ []
frame_of_others = refl

pub page_ended_each : map page_ended ends ≡ Some 2 ∷ Some 2 ∷ Some 2 ∷ Some 2 ∷ []
page_ended_each = refl

-- no other event ends a load
pub page_ended_others : map page_ended (Stop ∷ of_frame) ≡ None ∷ None ∷ None ∷ None ∷ None ∷ None ∷ None ∷ None ∷ []
page_ended_others = refl

pub holds_each : map (λ option. holds option 2) (Some 2 ∷ Some 3 ∷ None ∷ []) ≡ true ∷ false ∷ false ∷ []
holds_each = refl

pub among_each : map (is_among (4 ∷ 2 ∷ [])) (4 ∷ 2 ∷ 3 ∷ []) ≡ true ∷ true ∷ false ∷ []
among_each = refl

pub among_none : is_among [] 0 ≡ false
among_none = refl

-- a Settle and an Ask replace the wants of their own frame
pub replaces_own : map (λ what. replaces_wants what 3) of_frame
    ≡ false ∷ true ∷ true ∷ false ∷ false ∷ false ∷ false ∷ []
replaces_own = refl

pub replaces_other : map (λ what. replaces_wants what 2) (Stop ∷ of_frame ++ ends) ≡ replicate 12 false
replaces_other = refl

pub stop_alone : map has_stop ([] ∷ (entry 2 (Pin 3) ∷ []) ∷ (entry 2 (Pin 3) ∷ entry 2 Stop ∷ entry 2 (Pin 3) ∷ [])
    ∷ []) ≡ false ∷ false ∷ true ∷ []
stop_alone = refl

pub stop_no_other : map is_stop (of_frame ++ ends) ≡ replicate 11 false
stop_no_other = refl

-- an Install ends a load with its page
pub page_failed_each : map page_failed ends ≡ None ∷ Some 2 ∷ Some 2 ∷ Some 2 ∷ []
page_failed_each = refl

pub page_failed_others : map page_failed (Stop ∷ of_frame) ≡ replicate 8 None
page_failed_others = refl

pub failed_each : map (λ page. has_failed page
    (entry 2 (Install 4 digest) ∷ entry 2 (Starve 2) ∷ entry 0 (Fail 3 0 1) ∷ [])) (2 ∷ 3 ∷ 4 ∷ [])
    ≡ true ∷ true ∷ false ∷ []
failed_each = refl

-- a Take and a Full change nothing for their frame
pub changes_own : map (λ what. changes_frame what 3) of_frame ≡ true ∷ true ∷ true ∷ true ∷ true ∷ false ∷ false ∷ []
changes_own = refl

pub changes_other : map (λ what. changes_frame what 2) (Stop ∷ of_frame ++ ends) ≡ replicate 12 false
changes_other = refl

pub full_own : map (λ what. is_full_of what 3) of_frame ≡ false ∷ false ∷ false ∷ false ∷ false ∷ false ∷ true ∷ []
full_own = refl

pub full_other : map (λ what. is_full_of what 2) (Stop ∷ of_frame ++ ends) ≡ replicate 12 false
full_other = refl

pub full_each : map (λ frame. has_full frame (entry 2 (Pin 3) ∷ entry 2 (Full 2) ∷ entry 2 (Pin 3) ∷ [])) (2 ∷ 3 ∷ [])
    ≡ true ∷ false ∷ []
full_each = refl

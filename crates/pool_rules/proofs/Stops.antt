-- A journal's state is stopped if some entry is a Stop.
use Rattle.std.proofs.Common.{◌≡◌, List, [], ◌∷◌, Bool, true, false, ◌||◌, fold, refl, sym, ◌∙◌}
use Rattle.journal.specs.declared.entries.Entry.{Entry}
use Rattle.journal.specs.declared.entries.What.{What}
use Rattle.journal.specs.declared.entries.What.TheVariants.{Stop}
use Rattle.journal.specs.declared.layouts.Layout.{Layout}
use Rattle.pool_rules.specs.Events.{is_stop, has_stop}
use Rattle.pool_rules.specs.State.{State, initial_state, stopped_after, state_after, state_of}

stopped_after-stop : (what : What) (stopped : Bool) → stopped_after what stopped ≡ (stopped || is_stop what)
stopped_after-stop Stop true = refl
stopped_after-stop Stop false = refl
stopped_after-stop _ true = refl
stopped_after-stop _ false = refl

or-nothing : (b : Bool) → (b || false) ≡ b
or-nothing true = refl
or-nothing false = refl

-- a Stop first, or one later
or-later : (before now : Bool) (later state : Bool) → state ≡ (before || now) →
    (state || later) ≡ (before || (now || later))
or-later true now later true h = refl
or-later true now later false h = cc
or-later false true later true h = refl
or-later false true later false h = cc
or-later false false later true h = cc
or-later false false later false h = refl

stopped-from : (journal : List Entry) (s : State) →
    (fold state_after s journal).stopped ≡ (s.stopped || has_stop journal)
stopped-from [] s = sym (or-nothing s.stopped)
stopped-from (e ∷ journal) s =
    stopped-from journal (state_after s e) ∙ or-later s.stopped (is_stop e.what) (has_stop journal)
    (stopped_after e.what s.stopped) (stopped_after-stop e.what s.stopped)

pub stopped-has_stop : (layout : Layout) (journal : List Entry) → (state_of layout journal).stopped ≡ has_stop journal
stopped-has_stop layout journal = stopped-from journal (initial_state layout)

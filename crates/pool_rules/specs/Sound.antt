-- What holds after every legal journal.
use Rattle.std.specs.Prelude.{◌<◌, ◌≤◌, ℕ, IsTrue}
use Rattle.journal.specs.declared.layouts.Layout.{Layout}
use Rattle.journal.specs.Layout.{is_upper}
use Rattle.pool_rules.specs.State.{State, is_resident, is_loading, is_held, held_count}
use Rattle.pool_rules.specs.Victim.{is_pinned}

pub record IsSound (layout : Layout) (s : State) : Type 0 where
  -- root pages are resident
  pub roots_stay : (page : ℕ) → page < layout.roots → IsTrue (is_resident s page)
  -- the uppers of each resident or loading page are resident
  pub uppers_stay : (page upper : ℕ) → IsTrue (is_held s page) → IsTrue (is_upper layout upper page) →
      IsTrue (is_resident s upper)
  -- no page is both resident and being loaded
  pub apart : (page : ℕ) → IsTrue (is_resident s page) → IsTrue (is_loading s page) → ⊥
  -- resident and loading pages are together at most the slots
  pub within_slots : held_count s ≤ layout.slots
  -- each pinned page is resident
  pub pins_stay : (page : ℕ) → IsTrue (is_pinned s page) → IsTrue (is_resident s page)

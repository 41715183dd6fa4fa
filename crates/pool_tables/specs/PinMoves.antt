-- What a change of explicit pins of many pages leaves of each record.
use Rattle.std.specs.Prelude.{◌≡◌, ◌+◌, ℕ, length}
use Rattle.pool_tables.specs.PageRecords.{PageRecords, record_at}

-- of each page so many explicit pins went, and so many came; nothing else changed
pub record MovesPins (went came : ℕ → ℕ) (old new : PageRecords) : Type 0 where
  pub roots : new.roots ≡ old.roots
  pub len : length new.records ≡ length old.records
  pub others : (page : ℕ) → record_at new.records page
      ≡ record (record_at old.records page) { pins = (record_at new.records page).pins }
  pub pins : (page : ℕ) → (record_at new.records page).pins + went page ≡ (record_at old.records page).pins + came page

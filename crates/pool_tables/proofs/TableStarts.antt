-- Before any entry the tables of frames, wants and makers say what the state says.
use Rattle.std.proofs.Common.{◌≡◌, ℕ, zero, suc, List, [], Bool, Option, None, get_or, refl, arith, replicate}
use Rattle.std.specs.List.Sorted.{IsStrictlySortedBy}
use Rattle.pool_tables.specs.FrameItems.{FrameItems}
use Rattle.pool_tables.specs.FrameMeaning.{AreFrames, IsTimelyTable}
use Rattle.pool_tables.specs.MakerMeaning.{AreMakers}
use Rattle.pool_tables.specs.WantMeaning.{AreWants}
use Rattle.pool_tables.specs.WantQueue.{WantCounts}

pub AreFrames-new : (resident : List Bool) (installed_at : ℕ → ℕ) → AreFrames resident installed_at [] []
unfolding IsStrictlySortedBy
AreFrames-new resident installed_at = record { distinct = tt; ordered = tt; items = λ n. tt }

pub IsTimelyTable-new : (table : FrameItems) → table.items ≡ [] → table.last_asked ≡ 0 → IsTimelyTable 0 table
IsTimelyTable-new table none asked = record {
  items = λ n item at. let absent = rw none at at in cc;
  last_asked = omega (arith, asked);
}

pub AreWants-new : (counts : WantCounts) → AreWants 0 counts [] []
AreWants-new counts = record { standing = refl; timely = tt }

unloaded : (pages page : ℕ) → get_or {A = Option ℕ} (replicate pages None) page None ≡ None
unloaded zero page = refl
unloaded (suc pages) zero = refl
unloaded (suc pages) (suc page) = unloaded pages page

pub AreMakers-new : (pages : ℕ) → AreMakers [] (replicate pages None) []
AreMakers-new pages = record { faults = λ maker. refl; loaders = λ page maker at. let none = unloaded pages page in cc }

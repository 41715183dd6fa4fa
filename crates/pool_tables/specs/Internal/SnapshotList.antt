-- The list of snapshots: a snapshot may have no frame any more, but the last one has.
use Rattle.std.specs.Prelude.{◌≡◌, ◌==◌, ◌&&◌, ◌-◌, ◌<◌, ℕ, Bool, true, List, [], ◌∷◌, length, Some}
use Rattle.std.specs.List.{AllByRecursion, list_any, slice_get}
use Rattle.pool_tables.specs.FrameItems.{item_in, snapshot_in}
use Rattle.pool_tables.specs.declared.frame_item.FrameItem.{FrameItem}
use Rattle.pool_tables.specs.declared.snapshot.Snapshot.{Snapshot}

-- the counts ascend
abbrev pub AreAscending : List Snapshot → Type 0
AreAscending [] = Unit {0}
AreAscending (s ∷ snapshots) = AllByRecursion (λ (t : Snapshot). s.count < t.count) snapshots × AreAscending snapshots

abbrev pub is_listed : List Snapshot → ℕ → ℕ → Bool
is_listed snapshots frame count = list_any (λ s. (s.frame == frame) && (s.count == count)) snapshots

-- whether the item of the snapshot's frame has it
abbrev pub IsCurrent : List (ℕ × FrameItem) → Snapshot → Type 0
IsCurrent items s = snapshot_in (item_in items s.frame) ≡ Some s.count

pub record AreListed (items : List (ℕ × FrameItem)) (snapshots : List Snapshot) : Type 0 where
  pub ascending : AreAscending snapshots
  pub listed : (frame count : ℕ) → snapshot_in (item_in items frame) ≡ Some count →
      is_listed snapshots frame count ≡ true

pub record IsSnapshotList (items : List (ℕ × FrameItem)) (snapshots : List Snapshot) : Type 0 where
  pub all : AreListed items snapshots
  pub last : (s : Snapshot) → slice_get snapshots (length snapshots - 1) ≡ Some s → IsCurrent items s

-- The list of snapshots: its last one is the latest, a stale last one can go, and a new one comes after all.
use Rattle.std.proofs.Common.{◌≡◌, ℕ, zero, suc, ◌-◌, ◌<◌, ◌≤◌, ◌==◌, List, [], ◌∷◌, ◌++◌, Bool, true, false, cond}
use Rattle.std.proofs.Common.{◌&&◌, ⊎_elim, Option, Some, None, length, take, refl, sym, ap, ◌∙◌, subst, arith, eq-eqb}
use Rattle.std.specs.List.{AllByRecursion, slice_get}
use Rattle.pool_rules.proofs.Tests.{and-both, or-cases, or-left, or-right, same-eqb}
use Rattle.std.specs.Option.{option_map}
use Rattle.pool_tables.specs.FrameItems.{IsLatest, PutsItem, asked_item, ended_item, installed_item, item_in}
use Rattle.pool_tables.specs.FrameItems.{narrowed_item, pinned_item, settled_item, snapshot_in}
use Rattle.pool_tables.specs.PinLists.{PinLists}
use Rattle.pool_tables.specs.declared.page_record.MakerId.{MakerId}
use Rattle.pool_tables.specs.Internal.SnapshotList.{AreAscending, AreListed, IsCurrent, IsSnapshotList, is_listed}
use Rattle.pool_tables.specs.declared.frame_item.FrameItem.{FrameItem}
use Rattle.pool_tables.specs.declared.snapshot.Snapshot.{Snapshot}

-- ---- the last one

last-cons : (x y : Snapshot) (rest : List Snapshot)
    → slice_get (x ∷ y ∷ rest) (length (x ∷ y ∷ rest) - 1) ≡ slice_get (y ∷ rest) (length (y ∷ rest) - 1)
last-cons x y rest =
    let e : length (x ∷ y ∷ rest) - 1 ≡ suc (length (y ∷ rest) - 1) = omega arith in
    ap (slice_get (x ∷ y ∷ rest)) e

front-cons : (x y : Snapshot) (rest : List Snapshot)
    → take (length (x ∷ y ∷ rest) - 1) (x ∷ y ∷ rest) ≡ x ∷ take (length (y ∷ rest) - 1) (y ∷ rest)
front-cons x y rest =
    let e : length (x ∷ y ∷ rest) - 1 ≡ suc (length (y ∷ rest) - 1) = omega arith in
    ap (λ k. take k (x ∷ y ∷ rest)) e

all-get : (P : Snapshot → Type 0) (xs : List Snapshot) (i : ℕ) (s : Snapshot) → AllByRecursion P xs
    → slice_get xs i ≡ Some s → P s
all-get P [] i s all at = cc
all-get P (x ∷ xs) zero s all at = let same : x ≡ s = cc in subst P same all.0
all-get P (x ∷ xs) (suc i) s all at = all-get P xs i s all.1 at

-- whether it is the snapshot of this frame with this count
abbrev is_of : ℕ → ℕ → Snapshot → Bool
is_of n c s = (s.frame == n) && (s.count == c)

-- no count is above the last one
listed-last : (xs : List Snapshot) (n c : ℕ) (s : Snapshot) → AreAscending xs → is_listed xs n c ≡ true
    → slice_get xs (length xs - 1) ≡ Some s → c ≤ s.count
listed-last [] n c s up listed at = cc
listed-last (x ∷ []) n c s up listed at =
    let same : x ≡ s = cc in
    ⊎_elim
    (λ here. let count = same-eqb x.count c (and-both (x.frame == n) (x.count == c) here).1 in let same_count : x.count
    ≡ s.count = ap (λ (t : Snapshot). t.count) same in omega (arith, count, same_count))
    (λ later. cc)
    (or-cases (is_of n c x) false listed)
listed-last (x ∷ y ∷ rest) n c s up listed at =
    let at_rest = sym (last-cons x y rest) ∙ at in
    ⊎_elim
    (λ here. let count = same-eqb x.count c (and-both (x.frame == n) (x.count == c) here).1 in let less =
    all-get (λ (t : Snapshot). x.count < t.count) (y ∷ rest) (length (y ∷ rest) - 1) s up.0 at_rest in omega
    (arith, count, less))
    (λ later. listed-last (y ∷ rest) n c s up.1 later at_rest)
    (or-cases (is_of n c x) (is_listed (y ∷ rest) n c) listed)

-- what is listed and is not the last one is listed before it
listed-front : (xs : List Snapshot) (n c : ℕ) (s : Snapshot) → is_listed xs n c ≡ true
    → slice_get xs (length xs - 1) ≡ Some s → is_of n c s ≡ false → is_listed (take (length xs - 1) xs) n c ≡ true
listed-front [] n c s listed at other = cc
listed-front (x ∷ []) n c s listed at other =
    let same : x ≡ s = cc in
    ⊎_elim (λ here. let yes : is_of n c s ≡ true = subst (λ t. is_of n c t ≡ true) same here in cc) (λ later. cc)
    (or-cases (is_of n c x) false listed)
listed-front (x ∷ y ∷ rest) n c s listed at other =
    let before = take (length (y ∷ rest) - 1) (y ∷ rest) in
    let there : is_listed (x ∷ before) n c ≡ true = ⊎_elim
    (λ here. or-left (is_of n c x) (is_listed before n c) here)
    (λ later. or-right (is_of n c x) (is_listed before n c)
    (listed-front (y ∷ rest) n c s later (sym (last-cons x y rest) ∙ at) other))
    (or-cases (is_of n c x) (is_listed (y ∷ rest) n c) listed) in
    ap (λ ys. is_listed ys n c) (front-cons x y rest) ∙ there

-- ---- fewer and more

all-take : (P : Snapshot → Type 0) (k : ℕ) (xs : List Snapshot) → AllByRecursion P xs → AllByRecursion P (take k xs)
all-take P zero xs all = tt
all-take P (suc k) [] all = tt
all-take P (suc k) (x ∷ xs) all = (all.0, all-take P k xs all.1)

AreAscending-take : (k : ℕ) (xs : List Snapshot) → AreAscending xs → AreAscending (take k xs)
AreAscending-take zero xs up = tt
AreAscending-take (suc k) [] up = tt
AreAscending-take (suc k) (x ∷ xs) up =
    (all-take (λ (t : Snapshot). x.count < t.count) k xs up.0, AreAscending-take k xs up.1)

all-push : (P : Snapshot → Type 0) (xs : List Snapshot) (s : Snapshot) → AllByRecursion P xs → P s
    → AllByRecursion P (xs ++ s ∷ [])
all-push P [] s all p = (p, tt)
all-push P (x ∷ xs) s all p = (all.0, all-push P xs s all.1 p)

AreAscending-push : (xs : List Snapshot) (s : Snapshot) → AreAscending xs
    → AllByRecursion (λ (t : Snapshot). t.count < s.count) xs → AreAscending (xs ++ s ∷ [])
AreAscending-push [] s up below = (tt, tt)
AreAscending-push (x ∷ xs) s up below =
    (all-push (λ (t : Snapshot). x.count < t.count) xs s up.0 below.0, AreAscending-push xs s up.1 below.1)

last-push : (xs : List Snapshot) (s : Snapshot) → slice_get (xs ++ s ∷ []) (length (xs ++ s ∷ []) - 1) ≡ Some s
last-push [] s = refl
last-push (x ∷ []) s = refl
last-push (x ∷ y ∷ rest) s = last-cons x y (rest ++ s ∷ []) ∙ last-push (y ∷ rest) s

listed-push : (xs : List Snapshot) (s : Snapshot) (n c : ℕ) → is_listed xs n c ≡ true
    → is_listed (xs ++ s ∷ []) n c ≡ true
listed-push [] s n c h = cc
listed-push (x ∷ xs) s n c h =
    ⊎_elim
    (λ here. or-left (is_of n c x) (is_listed (xs ++ s ∷ []) n c) here)
    (λ later. or-right (is_of n c x) (is_listed (xs ++ s ∷ []) n c) (listed-push xs s n c later))
    (or-cases (is_of n c x) (is_listed xs n c) h)

listed-new : (xs : List Snapshot) (s : Snapshot) → is_listed (xs ++ s ∷ []) s.frame s.count ≡ true
listed-new [] s =
    rw (eq-eqb s.frame s.frame refl, eq-eqb s.count s.count refl) refl
listed-new (x ∷ xs) s =
    or-right (is_of s.frame s.count x) (is_listed (xs ++ s ∷ []) s.frame s.count) (listed-new xs s)

-- counts up to a last one that is below a count are below it
below-last : (xs : List Snapshot) (count : ℕ) → AreAscending xs
    → ((s : Snapshot) → slice_get xs (length xs - 1) ≡ Some s → s.count < count)
    → AllByRecursion (λ (t : Snapshot). t.count < count) xs
below-last [] count up below = tt
below-last (x ∷ []) count up below = (below x refl, tt)
below-last (x ∷ y ∷ rest) count up below =
    let later = below-last (y ∷ rest) count up.1 (λ s at. below s (last-cons x y rest ∙ at)) in
    (omega (arith, up.0.0, later.0), later)

-- ---- the table of frames

-- a last snapshot that no frame has any more goes
pub AreListed-front : (items : List (ℕ × FrameItem)) (xs : List Snapshot) (s : Snapshot) → AreListed items xs
    → slice_get xs (length xs - 1) ≡ Some s → (IsCurrent items s → ⊥) → AreListed items (take (length xs - 1) xs)
AreListed-front items xs s old at stale = record {
  ascending = AreAscending-take (length xs - 1) xs old.ascending;
  listed = λ n c has. listed-front xs n c s (old.listed n c has) at (other n c has);
}
  where
    other : (n c : ℕ) → snapshot_in (item_in items n) ≡ Some c → is_of n c s ≡ false
    other n c has =
        elim (is_of n c s) as (λ b. is_of n c s ≡ b → b ≡ false) [
          | true ↦ λ e.
              let parts = and-both (s.frame == n) (s.count == c) e in
              let frame = same-eqb s.frame n parts.0 in
              let count = same-eqb s.count c parts.1 in
              absurd (stale (ap (λ m. snapshot_in (item_in items m)) frame ∙ (has ∙ ap (λ k. Some k) (sym count))))
          | false ↦ λ e. refl
        ] refl

-- the frames keep their snapshots, but for one that has none any more
pub AreListed-unlisted : (frame : ℕ) (item : Option FrameItem) (old new : List (ℕ × FrameItem)) (xs : List Snapshot)
    → PutsItem frame item old new → snapshot_in item ≡ None → IsSnapshotList old xs → AreListed new xs
AreListed-unlisted frame item old new xs puts gone list = record {
  ascending = list.all.ascending;
  listed = λ n c has. list.all.listed n c (before n c (frame == n) (sym (ap snapshot_in (puts.items n)) ∙ has));
}
  where
    before : (n c : ℕ) (b : Bool) → snapshot_in (cond b item (item_in old n)) ≡ Some c
        → snapshot_in (item_in old n) ≡ Some c
    before n c true has = cc
    before n c false has = has

-- all frames keep their snapshots
pub IsSnapshotList-same : (frame : ℕ) (item : Option FrameItem) (old new : List (ℕ × FrameItem)) (xs : List Snapshot)
    → PutsItem frame item old new → snapshot_in item ≡ snapshot_in (item_in old frame) → IsSnapshotList old xs
    → IsSnapshotList new xs
IsSnapshotList-same frame item old new xs puts kept list = record {
  all = record {
    ascending = list.all.ascending;
    listed = λ n c has. list.all.listed n c (sym (same n) ∙ has);
  };
  last = λ s at. same s.frame ∙ list.last s at;
}
  where
    pick : (n : ℕ) (b : Bool) → (frame == n) ≡ b
        → snapshot_in (cond b item (item_in old n)) ≡ snapshot_in (item_in old n)
    pick n true e = kept ∙ ap (λ m. snapshot_in (item_in old m)) (same-eqb frame n e)
    pick n false e = refl

    same : (n : ℕ) → snapshot_in (item_in new n) ≡ snapshot_in (item_in old n)
    same n = ap snapshot_in (puts.items n) ∙ pick n (frame == n) refl

-- a frame has a new snapshot, after all others
pub IsSnapshotList-push : (frame count : ℕ) (item : FrameItem) (old new : List (ℕ × FrameItem)) (xs : List Snapshot)
    → PutsItem frame (Some item) old new → item.snapshot ≡ Some count
    → ((n c : ℕ) → snapshot_in (item_in old n) ≡ Some c → c < count) → IsSnapshotList old xs
    → IsSnapshotList new (xs ++ record { count = count; frame = frame } ∷ [])
IsSnapshotList-push frame count item old new xs puts has later list =
    let s : Snapshot = record { count = count; frame = frame } in
    let here : snapshot_in (item_in new frame) ≡ Some count =
    ap snapshot_in (puts.items frame ∙ ap (λ b. cond b (Some item) (item_in old frame)) (eq-eqb frame frame refl)) ∙
    has in
    record {
      all = record {
        ascending =
            AreAscending-push xs s list.all.ascending
            (below-last xs count list.all.ascending (λ t at. later t.frame t.count (list.last t at)));
        listed = λ n c at. pick n c (frame == n) refl at;
      };
      last = λ t at.
          let same : s ≡ t = cc (last-push xs s) in
          subst (λ u. IsCurrent new u) same here;
    }
  where
    pick : (n c : ℕ) (b : Bool) → (frame == n) ≡ b → snapshot_in (item_in new n) ≡ Some c
        → is_listed (xs ++ record { count = count; frame = frame } ∷ []) n c ≡ true
    pick n c true e at =
        let same = same-eqb frame n e in
        let is : snapshot_in (item_in new n) ≡ Some count =
        ap snapshot_in (puts.items n ∙ ap (λ b. cond b (Some item) (item_in old n)) e) ∙ has in
        let same_count : count ≡ c = cc in
        let new_one = listed-new xs (record { count = count; frame = frame }) in
        subst (λ m. is_listed (xs ++ record { count = count; frame = frame } ∷ []) m c ≡ true) same
        (subst (λ k. is_listed (xs ++ record { count = count; frame = frame } ∷ []) frame k ≡ true) same_count
        new_one)
    pick n c false e at =
        let was : snapshot_in (item_in old n) ≡ Some c =
        sym (ap snapshot_in (puts.items n ∙ ap (λ b. cond b (Some item) (item_in old n)) e)) ∙ at in
        listed-push xs (record { count = count; frame = frame }) n c (list.all.listed n c was)

-- the last one is the latest
pub IsLatest-last : (items : List (ℕ × FrameItem)) (xs : List Snapshot) (s : Snapshot) → IsSnapshotList items xs
    → slice_get xs (length xs - 1) ≡ Some s → IsLatest items (Some s.count)
IsLatest-last items xs s list at =
    ((s.frame, list.last s at), λ n c has. listed-last xs n c s list.all.ascending (list.all.listed n c has) at)

empty : (xs : List Snapshot) (n c : ℕ) → slice_get xs (length xs - 1) ≡ None → is_listed xs n c ≡ true → ⊥
empty [] n c none listed = cc
empty (x ∷ []) n c none listed = cc
empty (x ∷ y ∷ rest) n c none listed = some (y ∷ rest) y rest refl (sym (last-cons x y rest) ∙ none)
  where
    some : (ys : List Snapshot) (z : Snapshot) (zs : List Snapshot) → ys ≡ z ∷ zs
        → slice_get ys (length ys - 1) ≡ None → ⊥
    some [] z zs is at = cc
    some (u ∷ []) z zs is at = cc
    some (u ∷ v ∷ us) z zs is at = some (v ∷ us) v us refl (sym (last-cons u v us) ∙ at)

pub IsLatest-none : (items : List (ℕ × FrameItem)) (xs : List Snapshot) → IsSnapshotList items xs
    → slice_get xs (length xs - 1) ≡ None → IsLatest items None
IsLatest-none items xs list none = λ n. no n (snapshot_in (item_in items n)) refl
  where
    no : (n : ℕ) (o : Option ℕ) → snapshot_in (item_in items n) ≡ o → snapshot_in (item_in items n) ≡ None
    no n None is = is
    no n (Some c) is = absurd (empty xs n c none (list.all.listed n c is))

-- ---- the snapshot of a frame after an event

pub pinned-snapshot : (by : MakerId) (count : ℕ) (item : Option FrameItem)
    → (pinned_item by count item).snapshot ≡ Some count
pinned-snapshot by count None = refl
pinned-snapshot by count (Some item) = refl

pub settled-snapshot : (by : MakerId) (count : ℕ) (pins : PinLists) (item : Option FrameItem)
    → snapshot_in (option_map (settled_item by count pins) item) ≡ None
settled-snapshot by count pins None = refl
settled-snapshot by count pins (Some item) = refl

pub narrowed-snapshot : (by : MakerId) (pages : List ℕ) (item : Option FrameItem)
    → snapshot_in (option_map (narrowed_item by pages) item) ≡ None
narrowed-snapshot by pages None = refl
narrowed-snapshot by pages (Some item) = refl

pub ended-snapshot : (count : ℕ) (item : Option FrameItem) → snapshot_in (option_map (ended_item count) item) ≡ None
ended-snapshot count None = refl
ended-snapshot count (Some item) = refl

pub asked-snapshot : (count : ℕ) (item : Option FrameItem)
    → snapshot_in (option_map (asked_item count) item) ≡ snapshot_in item
asked-snapshot count None = refl
asked-snapshot count (Some item) = refl

pub installed-snapshot : (page : ℕ) (item : Option FrameItem)
    → snapshot_in (option_map (installed_item page) item) ≡ snapshot_in item
installed-snapshot page None = refl
installed-snapshot page (Some item) = refl

-- The frames that have an entry are those that have an item, after one entry more.
use Rattle.std.proofs.Common.{◌≡◌, ℕ, ◌==◌, List, [], ◌∷◌, ◌++◌, Bool, true, false, not, cond, ◌||◌, ⊎_elim, Option}
use Rattle.std.proofs.Common.{Some, None, is_some, refl, sym, ap, ◌∙◌}
use Rattle.std.specs.List.{list_any}
use Rattle.journal.specs.declared.entries.Entry.{Entry}
use Rattle.pool_rules.specs.Events.{frame_of}
use Rattle.pool_rules.specs.Numbers.{holds}
use Rattle.pool_rules.specs.Rules.{has_entry, is_entry_of, owns}
use Rattle.pool_rules.specs.State.{State}
use Rattle.pool_rules.proofs.Tests.{or-cases, not-false, same-eqb}
use Rattle.pool_tables.specs.FrameItems.{PutsItem, item_in}
use Rattle.pool_tables.specs.FrameMeaning.{AreBegun, AreFrames}
use Rattle.pool_tables.specs.FrameQueries.{is_owned}
use Rattle.pool_tables.specs.declared.frame_item.FrameItem.{FrameItem}
use Rattle.pool_tables.proofs.PinCounts.{owns-item}

any-push : (test : Entry → Bool) (journal : List Entry) (e : Entry)
    → list_any test (journal ++ e ∷ []) ≡ (list_any test journal || test e)
any-push test [] e = last (test e)
  where
    last : (b : Bool) → (b || false) ≡ b
    last true = refl
    last false = refl
any-push test (x ∷ journal) e =
    elim (test x) as (λ b. (b || list_any test (journal ++ e ∷ [])) ≡ ((b || list_any test journal) || test e))
    [ true ↦ refl | false ↦ any-push test journal e ]

pub has_entry-push : (n : ℕ) (journal : List Entry) (e : Entry)
    → has_entry n (journal ++ e ∷ []) ≡ (has_entry n journal || is_entry_of n e.what)
has_entry-push n journal e = any-push (λ (x : Entry). is_entry_of n x.what) journal e

pub AreBegun-new : AreBegun [] []
AreBegun-new = λ n. refl

or-none : (b : Bool) → (b || false) ≡ b
or-none true = refl
or-none false = refl

or-some : (b : Bool) → (b || true) ≡ true
or-some true = refl
or-some false = refl

-- an entry of a frame that has an item now
pub AreBegun-put : (journal : List Entry) (e : Entry) (frame : ℕ) (item : Option FrameItem)
    (old new : List (ℕ × FrameItem))
    → AreBegun journal old → frame_of e.what ≡ Some frame → is_some item ≡ true → PutsItem frame item old new
    → AreBegun (journal ++ e ∷ []) new
AreBegun-put journal e frame item old new begun of some puts = λ n.
    has_entry-push n journal e ∙ (ap (λ o. has_entry n journal || holds o n) of ∙
    (pick n (frame == n) ∙ sym (ap is_some (puts.items n))))
  where
    pick : (n : ℕ) (b : Bool) → (has_entry n journal || b) ≡ is_some (cond b item (item_in old n))
    pick n true = or-some (has_entry n journal) ∙ sym some
    pick n false = or-none (has_entry n journal) ∙ begun n

-- an entry that changes no item, of a frame that has one
pub AreBegun-known : (journal : List Entry) (e : Entry) (frame : ℕ) (items : List (ℕ × FrameItem))
    → AreBegun journal items → frame_of e.what ≡ Some frame → is_some (item_in items frame) ≡ true
    → AreBegun (journal ++ e ∷ []) items
AreBegun-known journal e frame items begun of some = λ n.
    has_entry-push n journal e ∙ (ap (λ o. has_entry n journal || holds o n) of ∙ pick n (frame == n) refl)
  where
    pick : (n : ℕ) (b : Bool) → (frame == n) ≡ b → (has_entry n journal || b) ≡ is_some (item_in items n)
    pick n true e =
        or-some (has_entry n journal) ∙ sym (ap (λ m. is_some (item_in items m)) (sym (same-eqb frame n e)) ∙ some)
    pick n false e = or-none (has_entry n journal) ∙ begun n

-- an entry of no frame, after which the same frames have an item
pub AreBegun-same : (journal : List Entry) (e : Entry) (old new : List (ℕ × FrameItem)) → AreBegun journal old
    → frame_of e.what ≡ None → ((n : ℕ) → is_some (item_in new n) ≡ is_some (item_in old n))
    → AreBegun (journal ++ e ∷ []) new
AreBegun-same journal e old new begun of same = λ n.
    has_entry-push n journal e ∙ (ap (λ o. has_entry n journal || holds o n) of ∙
    (or-none (has_entry n journal) ∙ (begun n ∙ sym (same n))))

-- a frame that may be pinned, and has an item, is live
pub may_pin-live : (s : State) (installed_at : ℕ → ℕ) (items : List (ℕ × FrameItem)) (journal : List Entry)
    (by frame : ℕ)
    → AreFrames s.resident installed_at s.frames items → AreBegun journal items
    → (owns s by frame || not (has_entry frame journal)) ≡ true → (item : FrameItem)
    → item_in items frame ≡ Some item → item.ended_at ≡ None
may_pin-live s installed_at items journal by frame are begun allowed item at = ⊎_elim
    (λ own. live item.ended_at refl (sym (owns-item s installed_at items by frame are ∙ ap (is_owned by) at) ∙ own))
    (λ new. let none = not-false (has_entry frame journal) new in let some : has_entry frame journal ≡ true =
    begun frame ∙ ap is_some at in cc)
    (or-cases (owns s by frame) (not (has_entry frame journal)) allowed)
  where
    live : (o : Option ℕ) → item.ended_at ≡ o → is_owned by (Some item) ≡ true → item.ended_at ≡ None
    live None is owned = is
    live (Some e) is owned = let ended : is_owned by (Some item) ≡ false = rw is refl in cc

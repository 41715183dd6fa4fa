-- A loop that installs a page for each want of it: one want more.
use Rattle.std.proofs.Common.{◌≡◌, ℕ, ◌+◌, ◌==◌, List, [], ◌∷◌, Bool, true, false, cond, ◌&&◌, ◌||◌, Option, Some, None}
use Rattle.std.proofs.Common.{refl, sym, ap, ◌∙◌, arith}
use Rattle.std.specs.Option.{option_map}
use Rattle.pool_rules.specs.State.{waits_for}
use Rattle.pool_tables.specs.FrameItems.{FrameItems, asked_in, ended_in, installed_item, item_of}
use Rattle.pool_tables.specs.PinLists.{with_flag}
use Rattle.pool_tables.specs.WantQueue.{WantCounts, counts_in, is_waiting, standing}
use Rattle.pool_tables.specs.declared.frame_item.FrameItem.{FrameItem}
use Rattle.pool_tables.specs.declared.page_record.PageRecord.{PageRecord}
use Rattle.pool_tables.specs.declared.queued_want.QueuedWant.{QueuedWant}
use Rattle.pool_tables.proofs.WantLists.{waits-cons}

or-twice : (a b : Bool) → (a || (a || b)) ≡ (a || b)
or-twice true b = refl
or-twice false b = refl

with_flag-twice : (page : ℕ) (missing : List ℕ) (flags : List Bool)
    → with_flag page missing (with_flag page missing flags) ≡ with_flag page missing flags
with_flag-twice page [] flags = refl
with_flag-twice page (p ∷ missing) [] = refl
with_flag-twice page (p ∷ missing) (flag ∷ flags) =
    ap (λ b. b ∷ with_flag page missing (with_flag page missing flags)) (or-twice (p == page) flag) ∙
    ap (λ rest. ((p == page) || flag) ∷ rest) (with_flag-twice page missing flags)

-- the item, or the item with the page installed
abbrev pub grown : Bool → ℕ → Option FrameItem → Option FrameItem
grown b page item = cond b (option_map (installed_item page) item) item

installed-twice : (page : ℕ) (item : Option FrameItem)
    → option_map (installed_item page) (option_map (installed_item page) item) ≡ option_map (installed_item page) item
installed-twice page None = refl
installed-twice page (Some item) =
    let with_flags : List Bool → Option FrameItem =
    λ flags. Some (record item { pins = record item.pins { flags = flags } }) in
    ap with_flags (with_flag-twice page item.pins.missing item.pins.flags)

pub grown-grown : (a b : Bool) (page : ℕ) (item : Option FrameItem)
    → grown b page (grown a page item) ≡ grown (a || b) page item
grown-grown true true page item = installed-twice page item
grown-grown true false page item = refl
grown-grown false b page item = refl

asked-installed : (page : ℕ) (item : Option FrameItem)
    → asked_in (option_map (installed_item page) item) ≡ asked_in item
asked-installed page None = refl
asked-installed page (Some item) = refl

ended-installed : (page : ℕ) (item : Option FrameItem)
    → ended_in (option_map (installed_item page) item) ≡ ended_in item
ended-installed page None = refl
ended-installed page (Some item) = refl

pub asked-grown : (b : Bool) (page : ℕ) (item : Option FrameItem) → asked_in (grown b page item) ≡ asked_in item
asked-grown true page item = asked-installed page item
asked-grown false page item = refl

pub ended-grown : (b : Bool) (page : ℕ) (item : Option FrameItem) → ended_in (grown b page item) ≡ ended_in item
ended-grown true page item = ended-installed page item
ended-grown false page item = refl

-- whether a want waits is the same for tables with the same counts
pub is_waiting-alike : (records : List PageRecord) (new old : FrameItems) (page : ℕ) (w : QueuedWant)
    → asked_in (item_of new w.frame.0) ≡ asked_in (item_of old w.frame.0)
    → ended_in (item_of new w.frame.0) ≡ ended_in (item_of old w.frame.0) → new.last_asked ≡ old.last_asked
    → is_waiting (counts_in records new) page w ≡ is_waiting (counts_in records old) page w
is_waiting-alike records new old page w asked ended last = rw (asked, ended, last) refl

-- the frames after one want more, and then after those that are left
pub items-step : (counts : WantCounts) (page n : ℕ) (w : QueuedWant) (all rest : List QueuedWant) (b : Bool)
    (item now target : Option FrameItem)
    → all ≡ w ∷ rest → grown (waits_for (standing counts all) n page) page item ≡ target
    → b ≡ is_waiting counts page w → now ≡ grown (b && (w.frame.0 == n)) page item
    → grown (waits_for (standing counts rest) n page) page now ≡ target
items-step counts page n w all rest b item now target is before waiting after =
    let a = is_waiting counts page w && (w.frame.0 == n) in
    let later = waits_for (standing counts rest) n page in
    ap (grown later page) (after ∙ ap (λ t. grown (t && (w.frame.0 == n)) page item) waiting)
    ∙ (grown-grown a later page item
    ∙ (ap (λ t. grown t page item) (sym (waits-cons counts w rest n page))
    ∙ (ap (λ ws. grown (waits_for (standing counts ws) n page) page item) (sym is) ∙ before)))

-- the count of frames that pin the page only from now on
pub pins-step : (b : Bool) (old before after pins one : ℕ) → before ≡ old + cond b pins 0
    → after ≡ before + cond b one 0 → after ≡ old + cond b (pins + one) 0
pins-step true old before after pins one h k = omega (arith, h, k)
pins-step false old before after pins one h k = omega (arith, h, k)

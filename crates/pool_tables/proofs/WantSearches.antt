-- What searches through the list of wants find is what the rules look for.
use Rattle.std.proofs.Common.{◌≡◌, ℕ, ◌==◌, List, [], ◌∷◌, Bool, not, cond, ◌&&◌, ◌||◌, Option, Some, is_some, find}
use Rattle.std.proofs.Common.{refl, ap, ◌∙◌}
use Rattle.std.specs.List.{list_all}
use Rattle.journal.specs.Layout.{uppers_of}
use Rattle.journal.specs.declared.layouts.Layout.{Layout}
use Rattle.pool_rules.specs.Next.{can_take, first_loading, first_takeable, is_busy, is_takeable, is_want_for}
use Rattle.pool_rules.specs.State.{State, is_loading, is_resident}
use Rattle.pool_rules.specs.declared.want.Want.{Want}
use Rattle.pool_tables.specs.PageRecords.{record_at}
use Rattle.pool_tables.specs.WantQueue.{can_take_in, is_loading_in, is_takeable_in}
use Rattle.pool_tables.specs.declared.page_record.PageRecord.{PageRecord}

all-alike : (p q : ℕ → Bool) (ns : List ℕ) → ((n : ℕ) → p n ≡ q n) → list_all p ns ≡ list_all q ns
all-alike p q [] same = refl
all-alike p q (n ∷ ns) same =
    ap (λ b. b && list_all p ns) (same n) ∙ ap (λ b. q n && b) (all-alike p q ns same)

find-alike : (p q : Want → Bool) (ws : List Want) → ((w : Want) → p w ≡ q w) → find p ws ≡ find q ws
find-alike p q [] same = refl
find-alike p q (w ∷ ws) same =
    ap (λ b. cond b (Some w) (find p ws)) (same w) ∙
    ap (λ (o : Option Want). cond (q w) (Some w) o) (find-alike p q ws same)

-- the records say which pages are resident and which are being loaded
pub record SayHeld (records : List PageRecord) (s : State) : Type 0 where
  pub resident : (page : ℕ) → (record_at records page).resident ≡ is_resident s page
  pub loading : (page : ℕ) → is_some (record_at records page).loader ≡ is_loading s page

pub can_take-state : (layout : Layout) (records : List PageRecord) (s : State) (page : ℕ) → SayHeld records s
    → can_take_in layout records page ≡ can_take layout s page
can_take-state layout records s page say =
    ap (λ b. not (b || is_some (record_at records page).loader) && list_all
    (λ upper. (record_at records upper).resident) (uppers_of layout page)) (say.resident page)
    ∙ (ap (λ b. not (is_resident s page || b) && list_all (λ upper. (record_at records upper).resident)
    (uppers_of layout page)) (say.loading page)
    ∙ ap (λ b. not (is_resident s page || is_loading s page) && b)
    (all-alike (λ upper. (record_at records upper).resident) (is_resident s) (uppers_of layout page) say.resident))

-- the first want whose page can be taken
pub first_takeable-state : (layout : Layout) (records : List PageRecord) (s : State) (frame : Option ℕ)
    (wants : List Want)
    → SayHeld records s → wants ≡ s.wants
    → find (is_takeable_in layout records frame) wants ≡ first_takeable layout s frame
first_takeable-state layout records s frame wants say same =
    find-alike (is_takeable_in layout records frame) (is_takeable layout s frame) wants
    (λ w. ap (λ b. is_want_for frame w && b) (can_take-state layout records s w.page say))
    ∙ ap (find (is_takeable layout s frame)) same

-- the frame's first want whose page is being loaded
pub first_loading-state : (records : List PageRecord) (s : State) (frame : ℕ) (wants : List Want)
    → SayHeld records s → wants ≡ s.wants → find (is_loading_in records frame) wants ≡ first_loading s frame
first_loading-state records s frame wants say same =
    find-alike (is_loading_in records frame) (is_busy s frame) wants
    (λ w. ap (λ b. (w.frame == frame) && b) (say.loading w.page))
    ∙ ap (find (is_busy s frame)) same

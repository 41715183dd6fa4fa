-- What the pages of an allowed entry are: resident, or not, or not pinned.
use Rattle.std.proofs.Common.{◌≡◌, ℕ, ◌==◌, ◌<◌, List, [], ◌∷◌, Bool, true, false, not, ◌&&◌, ⊎_elim, Option, Some}
use Rattle.std.proofs.Common.{None, length, get_or, refl, arith}
use Rattle.std.specs.List.{list_all}
use Rattle.std.specs.Option.{IfSome, is_some}
use Rattle.journal.specs.declared.entries.Entry.{Entry}
use Rattle.journal.specs.declared.entries.What.TheVariants.{Settle, Ask, Narrow, Take}
use Rattle.journal.specs.declared.layouts.Layout.{Layout}
use Rattle.journal.specs.Layout.{ascends}
use Rattle.pool_rules.specs.Next.{is_take, next_in}
use Rattle.pool_rules.specs.Rules.{allows, owns, pins, loads, all_resident}
use Rattle.pool_rules.specs.Sound.{IsSound}
use Rattle.pool_rules.specs.State.{State, is_live, is_resident}
use Rattle.pool_rules.specs.Victim.{is_pinned}
use Rattle.pool_rules.proofs.Arms.{settle-parts, ask-parts, narrow-pinned}
use Rattle.pool_rules.proofs.Choices.{IsTaken, IsTaken-from_next}
use Rattle.pool_rules.proofs.Flags.{place-within}
use Rattle.pool_rules.proofs.Lengths.{HasItemAPage}
use Rattle.pool_rules.proofs.Soundness.{loose, loads-loading}
use Rattle.pool_rules.proofs.Tests.{and-both, any-weaker, both}

pub settled-resident : (layout : Layout) (s : State) (journal : List Entry) (by frame : ℕ) (pages missing : List ℕ) →
    allows layout s journal by (Settle frame pages missing) ≡ true → all_resident s pages ≡ true
settled-resident layout s journal by frame pages missing h =
    (settle-parts layout s journal by frame pages missing h).resident

owned-live : (s : State) (by frame : ℕ) → owns s by frame ≡ true → is_live s.frames frame ≡ true
owned-live s by frame h =
    any-weaker (λ f. (f.number == frame) && (f.owner == by)) (λ f. f.number == frame) s.frames
    (λ f k. (and-both (f.number == frame) (f.owner == by) k).0) h

-- who settles is live, and what it misses ascends
pub settled-missing : (layout : Layout) (s : State) (journal : List Entry) (by frame : ℕ) (pages missing : List ℕ) →
    allows layout s journal by (Settle frame pages missing) ≡ true →
    (is_live s.frames frame ≡ true) × (ascends missing ≡ true)
settled-missing layout s journal by frame pages missing h =
    let parts = settle-parts layout s journal by frame pages missing h in
    (owned-live s by frame parts.owned, parts.missing_list.ascending)

-- who asks is live, and what it asks for ascends
pub asked-pages : (layout : Layout) (s : State) (journal : List Entry) (by frame : ℕ) (pages : List ℕ) →
    allows layout s journal by (Ask frame pages) ≡ true → (is_live s.frames frame ≡ true) × (ascends pages ≡ true)
asked-pages layout s journal by frame pages h =
    let parts = ask-parts layout s journal by frame pages h in
    (owned-live s by frame parts.owned, parts.page_list.ascending)

all-weaker : (strong weak : ℕ → Bool) (xs : List ℕ) → ((x : ℕ) → strong x ≡ true → weak x ≡ true) →
    list_all strong xs ≡ true → list_all weak xs ≡ true
all-weaker strong weak [] weakens h = refl
all-weaker strong weak (x ∷ xs) weakens h =
    let parts = and-both (strong x) (list_all strong xs) h in
    both (weak x) (list_all weak xs) (weakens x parts.0) (all-weaker strong weak xs weakens parts.1)

pub narrowed-resident : (layout : Layout) (s : State) (journal : List Entry) (by frame : ℕ) (pages : List ℕ) →
    IsSound layout s → allows layout s journal by (Narrow frame pages) ≡ true → all_resident s pages ≡ true
narrowed-resident layout s journal by frame pages sound h =
    all-weaker (pins s frame) (is_resident s) pages
    (λ page pinned. sound.pins_stay page (any-weaker (λ g. (g.number == frame) && get_or g.pins page false)
    (λ g. get_or g.pins page false) s.frames (λ g k. (and-both (g.number == frame) (get_or g.pins page false) k).1)
    pinned))
    (narrow-pinned layout s journal by frame pages h)

loose-of : (layout : Layout) (s : State) (page : ℕ) (victim : Option ℕ) → IsTaken layout s page victim →
    IfSome victim (λ v. is_pinned s v ≡ false)
loose-of layout s page None told = tt
loose-of layout s page (Some victim) told =
    ⊎_elim
    (λ free. cc)
    (λ evicts. let same : evicts.0 ≡ victim = cc in (loose layout s page victim (rw same at evicts.2)).unpinned)
    told.room

pub taken-loose : (layout : Layout) (s : State) (journal : List Entry) (by : ℕ) (frame : Option ℕ) (page : ℕ)
    (victim : Option ℕ) → allows layout s journal by (Take frame page victim) ≡ true →
    IfSome victim (λ v. is_pinned s v ≡ false)
taken-loose layout s journal by None page victim h =
    loose-of layout s page victim (IsTaken-from_next layout s None page victim
    (and-both (not s.stopped) (is_take (next_in layout s None) page victim) h).1)
taken-loose layout s journal by (Some frame) page victim h =
    let a = and-both (not s.stopped) (is_take (next_in layout s (Some frame)) page victim && owns s by frame) h in
    loose-of layout s page victim (IsTaken-from_next layout s (Some frame) page victim
    (and-both (is_take (next_in layout s (Some frame)) page victim) (owns s by frame) a.1).0)

pub installed-absent : (layout : Layout) (s : State) (by page : ℕ) → IsSound layout s → loads s by page ≡ true →
    is_resident s page ≡ false
installed-absent layout s by page sound h =
    elim (is_resident s page) as (λ b. is_resident s page ≡ b →
    b ≡ false) [ true ↦ λ here. absurd (sound.apart page here (loads-loading s by page h)) | false ↦ λ none. refl ]
    refl

pub installed-below : (layout : Layout) (s : State) (by page : ℕ) → HasItemAPage layout s → loads s by page ≡ true →
    page < length s.resident
installed-below layout s by page lists h =
    omega (
      arith,
      place-within is_some s.loading page None refl (loads-loading s by page h),
      lists.maker_a_page,
      lists.flag_a_page,
    )

-- a Take asks nothing of the journal
pub take-journal : (layout : Layout) (s : State) (journal : List Entry) (by : ℕ) (frame : Option ℕ) (page : ℕ)
    (victim : Option ℕ) → allows layout s [] by (Take frame page victim)
    ≡ allows layout s journal by (Take frame page victim)
take-journal layout s journal by None page victim = refl
take-journal layout s journal by (Some frame) page victim = refl

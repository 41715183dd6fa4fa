-- Wants: none is of a resident page, and none of a live frame is removed but with the end of its page.
use Rattle.std.proofs.Common.{◌≡◌, ℕ, zero, suc, ◌==◌, List, [], ◌∷◌, ◌++◌, Bool, true, false, not, cond, ◌&&◌, ◌⊎◌}
use Rattle.std.proofs.Common.{inl, inr, ⊎_elim, Some, None, filter, get_or, set, refl, ap, ◌∙◌, arith, get_or-set_other}
use Rattle.std.proofs.lemmas.Bool.Decides.{Decides-eqb}
use Rattle.std.proofs.lemmas.List.Elements.{All-nil, All-append, All-filter, All-map, All-weaker, filter_passes}
use Rattle.std.proofs.lemmas.List.Elements.{Contains-append_left}
use Rattle.std.specs.List.{All, Contains}
use Rattle.journal.specs.declared.entries.Entry.{Entry}
use Rattle.journal.specs.declared.entries.What.{What}
use Rattle.journal.specs.declared.entries.What.TheVariants.{Pin, Settle, Ask, Narrow, Unpin, Take, Install, Fail, Spoil}
use Rattle.journal.specs.declared.entries.What.TheVariants.{Starve, Full, Stop}
use Rattle.journal.specs.declared.layouts.Layout.{Layout}
use Rattle.pool_rules.specs.declared.want.Want.{Want}
use Rattle.pool_rules.specs.Events.{page_ended, replaces_wants}
use Rattle.pool_rules.specs.Numbers.{holds}
use Rattle.pool_rules.specs.Rules.{allows, IsLegal}
use Rattle.pool_rules.specs.State.{State, is_resident, is_live, initial_state, resident_after, wants_after, wants_of}
use Rattle.pool_rules.specs.State.{wants_of_others, wants_without, state_of}
use Rattle.pool_rules.proofs.Arms.{settle-parts, ask-parts}
use Rattle.pool_rules.proofs.Flags.{get_or-set_cases}
use Rattle.pool_rules.proofs.LegalJournals.{state_of-push, legal-keeps}
use Rattle.pool_rules.proofs.Tests.{all-fail, both, not-false, same-eqb}

-- ---- no want of a resident page

abbrev IsAbsentIn : List Bool → ℕ → Type 0
IsAbsentIn resident page = get_or resident page false ≡ false

abbrev AreAbsent : List Bool → List Want → Type 0
AreAbsent resident wants = All (λ want. IsAbsentIn resident want.page) wants

wants_of-absent : (resident : List Bool) (frame : ℕ) (settled : Bool) (pages : List ℕ) →
    All (IsAbsentIn resident) pages → AreAbsent resident (wants_of frame settled pages)
wants_of-absent resident frame settled pages absent =
    All-map (λ want. IsAbsentIn resident want.page) (λ page. record { frame = frame; page = page; settled = settled })
    pages absent

-- a page that is absent is so after an eviction
evicted-absent : (resident : List Bool) (victim page : ℕ) → IsAbsentIn resident page →
    IsAbsentIn (set resident victim false) page
evicted-absent resident victim page h =
    ⊎_elim (λ same. same ∙ h) (λ here. here.1) (get_or-set_cases resident victim page false false)

-- and after the Install of another page
installed-absent : (resident : List Bool) (installed page : ℕ) → not (page == installed) ≡ true →
    IsAbsentIn resident page → IsAbsentIn (set resident installed true) page
installed-absent resident installed page other h =
    get_or-set_other resident installed page true false
    (λ same. let yes = (Decides-eqb page installed).1 same in let no = not-false (page == installed) other in cc)
    ∙ h

others-absent : (s : State) (frame : ℕ) → AreAbsent s.resident s.wants → AreAbsent s.resident (wants_of_others s frame)
others-absent s frame absent =
    All-filter (λ w. not (w.frame == frame) && is_live s.frames w.frame) (λ want. IsAbsentIn s.resident want.page)
    s.wants absent

without-absent : (resident : List Bool) (page : ℕ) (wants : List Want) → AreAbsent resident wants →
    AreAbsent resident (wants_without page wants)
without-absent resident page wants absent =
    All-filter (λ w. not (w.page == page)) (λ want. IsAbsentIn resident want.page) wants absent

-- each allowed entry leaves the wants those of absent pages
absent-after : (layout : Layout) (s : State) (journal : List Entry) (by : ℕ) (what : What) →
    AreAbsent s.resident s.wants → allows layout s journal by what ≡ true →
    AreAbsent (resident_after what s.resident) (wants_after s what)
absent-after layout s journal by (Pin frame) absent h = absent
absent-after layout s journal by (Settle frame pages missing) absent h =
    All-append (λ want. IsAbsentIn s.resident want.page) (wants_of_others s frame) (wants_of frame true missing)
    (others-absent s frame absent) (wants_of-absent s.resident frame true missing
    (all-fail (is_resident s) missing (settle-parts layout s journal by frame pages missing h).absent))
absent-after layout s journal by (Ask frame pages) absent h =
    All-append (λ want. IsAbsentIn s.resident want.page) (wants_of_others s frame) (wants_of frame false pages)
    (others-absent s frame absent) (wants_of-absent s.resident frame false pages
    (all-fail (is_resident s) pages (ask-parts layout s journal by frame pages h).absent))
absent-after layout s journal by (Narrow frame pages) absent h = absent
absent-after layout s journal by (Unpin frame) absent h = absent
absent-after layout s journal by (Take frame page None) absent h = absent
absent-after layout s journal by (Take frame page (Some victim)) absent h =
    All-weaker (λ want. IsAbsentIn s.resident want.page) (λ want. IsAbsentIn (set s.resident victim false) want.page)
    (λ want k. evicted-absent s.resident victim want.page k) s.wants absent
absent-after layout s journal by (Install page digest) absent h =
    λ k d below. installed-absent s.resident page (get_or (wants_without page s.wants) k d).page
    (filter_passes (λ w. not (w.page == page)) s.wants k d below)
    (without-absent s.resident page s.wants absent k d below)
absent-after layout s journal by (Fail page before after) absent h = without-absent s.resident page s.wants absent
absent-after layout s journal by (Spoil page why) absent h = without-absent s.resident page s.wants absent
absent-after layout s journal by (Starve page) absent h = without-absent s.resident page s.wants absent
absent-after layout s journal by (Full frame) absent h = absent
absent-after layout s journal by Stop absent h = absent

-- after every legal journal no resident page is wanted
pub wants-absent : (layout : Layout) (journal : List Entry) → IsLegal layout journal →
    All (λ want. is_resident (state_of layout journal) want.page ≡ false) (state_of layout journal).wants
wants-absent layout journal legal =
    legal-keeps layout (λ j. AreAbsent (state_of layout j).resident (state_of layout j).wants)
    (λ j e allowed absent. rw (state_of-push layout j e)
    (absent-after layout (state_of layout j) j e.by e.what absent allowed))
    (All-nil (λ want. IsAbsentIn (initial_state layout).resident want.page)) journal legal

-- ---- what removes a want

Contains-here : {X : Type 0} (x y : X) (xs : List X) → y ≡ x → Contains (y ∷ xs) x
Contains-here x y xs same = (0, omega arith, same)

Contains-later : {X : Type 0} (x y : X) (xs : List X) → Contains xs x → Contains (y ∷ xs) x
Contains-later x y xs (k, below, at) = (suc k, omega arith, at)

Contains-cases : {X : Type 0} (x y : X) (xs : List X) → Contains (y ∷ xs) x → (y ≡ x) ⊎ Contains xs x
Contains-cases x y xs (zero, below, at) = inl at
Contains-cases x y xs (suc k, below, at) = inr (k, omega arith, at)

-- an element that passes stays in a filter
pub Contains-filter : {X : Type 0} (test : X → Bool) (xs : List X) (x : X) → test x ≡ true → Contains xs x →
    Contains (filter test xs) x
Contains-filter test [] x passes (k, below, at) = absurd (omega arith)
Contains-filter {X} test (y ∷ xs) x passes has =
    elim (test y) as (λ b. test y ≡ b → Contains (cond b (y ∷ filter test xs) (filter test xs)) x) [
      | true ↦ λ e. ⊎_elim (λ here. Contains-here x y (filter test xs) here)
          (λ later. Contains-later x y (filter test xs) (Contains-filter test xs x passes later))
          (Contains-cases x y xs has)
      | false ↦ λ e. ⊎_elim (λ here. let no : test x ≡ false = rw here at e in cc)
          (λ later. Contains-filter test xs x passes later) (Contains-cases x y xs has)
    ] refl

eqb-swap : (a b : ℕ) → (a == b) ≡ false → (b == a) ≡ false
eqb-swap a b h =
    elim (b == a) as (λ t. (b == a) ≡ t → t ≡ false) [
      | true ↦ λ e. let same = same-eqb b a e in
          let yes = (Decides-eqb a b).1 cc in cc
      | false ↦ λ e. refl
    ] refl

-- a want of another live frame stays at a Settle or an Ask
others-kept : (s : State) (frame : ℕ) (more : List Want) (want : Want) → is_live s.frames want.frame ≡ true →
    (frame == want.frame) ≡ false → Contains s.wants want → Contains (wants_of_others s frame ++ more) want
others-kept s frame more want live other has =
    Contains-append_left (wants_of_others s frame) more want
    (Contains-filter (λ w. not (w.frame == frame) && is_live s.frames w.frame) s.wants want
    (both (not (want.frame == frame)) (is_live s.frames want.frame) (ap not (eqb-swap frame want.frame other)) live)
    has)

-- a want of another page stays at the end of a load
without-kept : (page : ℕ) (wants : List Want) (want : Want) → (page == want.page) ≡ false → Contains wants want →
    Contains (wants_without page wants) want
without-kept page wants want other has =
    Contains-filter (λ w. not (w.page == page)) wants want (ap not (eqb-swap page want.page other)) has

pub wants_after-kept : (s : State) (what : What) (want : Want) → is_live s.frames want.frame ≡ true →
    holds (page_ended what) want.page ≡ false → replaces_wants what want.frame ≡ false → Contains s.wants want →
    Contains (wants_after s what) want
wants_after-kept s (Pin frame) want live page own has = has
wants_after-kept s (Settle frame pages missing) want live page own has =
    others-kept s frame (wants_of frame true missing) want live own has
wants_after-kept s (Ask frame pages) want live page own has =
    others-kept s frame (wants_of frame false pages) want live own has
wants_after-kept s (Narrow frame pages) want live page own has = has
wants_after-kept s (Unpin frame) want live page own has = has
wants_after-kept s (Take frame page victim) want live ended own has = has
wants_after-kept s (Install page digest) want live ended own has = without-kept page s.wants want ended has
wants_after-kept s (Fail page before after) want live ended own has = without-kept page s.wants want ended has
wants_after-kept s (Spoil page why) want live ended own has = without-kept page s.wants want ended has
wants_after-kept s (Starve page) want live ended own has = without-kept page s.wants want ended has
wants_after-kept s (Full frame) want live ended own has = has
wants_after-kept s Stop want live ended own has = has

pub wants-kept : (layout : Layout) (journal : List Entry) (e : Entry) (want : Want) →
    is_live (state_of layout journal).frames want.frame ≡ true → holds (page_ended e.what) want.page ≡ false →
    replaces_wants e.what want.frame ≡ false → Contains (state_of layout journal).wants want →
    Contains (state_of layout (journal ++ e ∷ [])).wants want
wants-kept layout journal e want live page own has =
    rw state_of-push (wants_after-kept (state_of layout journal) e.what want live page own has)

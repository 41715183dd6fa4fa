-- A frame that has settled, is left alone, and is told that nothing is left to take.
use Rattle.std.proofs.Common.{◌≡◌, ℕ, zero, suc, ◌+◌, ◌-◌, ◌==◌, ◌<◌, ◌≤◌, nat_lt, List, [], ◌∷◌, ◌++◌, Bool, true}
use Rattle.std.proofs.Common.{false, not, cond, ◌&&◌, ◌||◌, ⊎_elim, Option, Some, None, is_some, get_or, take, drop}
use Rattle.std.proofs.Common.{length, refl, ap, ◌∙◌, arith, append_assoc}
use Rattle.std.proofs.lemmas.Bool.Decides.{Decides-ltb}
use Rattle.std.proofs.lemmas.List.Elements.{All-head, All-tail}
use Rattle.std.proofs.Math.Seq.{take-append_seam, drop-append_seam}
use Rattle.std.specs.List.{All, list_any, list_all}
use Rattle.std.specs.Option.{option_map_or, option_or}
use Rattle.journal.specs.declared.entries.Entry.{Entry}
use Rattle.journal.specs.declared.entries.What.{What}
use Rattle.journal.specs.declared.entries.What.TheVariants.{Settle}
use Rattle.journal.specs.declared.layouts.Layout.{Layout}
use Rattle.journal.specs.Layout.{InBounds, all_below, uppers_of, is_upper}
use Rattle.pool_rules.specs.declared.next_load.Next.{Next}
use Rattle.pool_rules.specs.declared.want.Want.{Want}
use Rattle.pool_rules.specs.Events.{has_failed, has_full}
use Rattle.pool_rules.specs.Next.{can_take, is_takeable, first_takeable, is_busy, first_loading, next_with, next_at}
use Rattle.pool_rules.specs.Next.{busy_with, next_of, next_after}
use Rattle.pool_rules.specs.Numbers.{is_among}
use Rattle.pool_rules.specs.Rules.{pins, is_allowed, first_refused_after, IsLegal}
use Rattle.pool_rules.specs.Settled.{HasSettled, LastSettle, is_answered, IsSettled, settle_before, last_settle}
use Rattle.pool_rules.specs.Settled.{is_left_alone, lists_uppers, needs_within, needs, has_failed_need}
use Rattle.pool_rules.specs.Sound.{IsSound}
use Rattle.pool_rules.specs.State.{State, is_resident, is_loading, held_count, waits_for, state_of}
use Rattle.pool_rules.specs.Victim.{victim_for}
use Rattle.pool_rules.proofs.Arms.{settle-parts}
use Rattle.pool_rules.proofs.LegalJournals.{state_of-push, refused_or-none, legal-split}
use Rattle.pool_rules.proofs.Settled.{is_wait, wait-page, IsWaiting, IsWaiting-settled, waiting-through}
use Rattle.pool_rules.proofs.Soundness.{IsSound-state_of, upper-below}
use Rattle.pool_rules.proofs.Tests.{both, eqb-refl, and-both, same-eqb, or-cases, or-left, or-right, all-at_any}
use Rattle.pool_rules.proofs.Tests.{any-among, any-weaker, find-none, one-fails}

-- ---- which pages a page needs

-- with more steps no fewer pages are reached
needs-more : (layout : Layout) (steps more page q : ℕ) → steps ≤ more → needs_within layout steps page q ≡ true →
    needs_within layout more page q ≡ true
needs-more layout zero zero page q le h = h
needs-more layout zero (suc more) page q le h =
    or-left (page == q) (list_any (λ u. needs_within layout more u q) (uppers_of layout page)) h
needs-more layout (suc steps) zero page q le h = absurd (omega arith)
needs-more layout (suc steps) (suc more) page q le h =
    ⊎_elim
    (λ here. or-left (page == q) (list_any (λ u. needs_within layout more u q) (uppers_of layout page)) here)
    (λ later. or-right (page == q) (list_any (λ u. needs_within layout more u q) (uppers_of layout page))
    (any-weaker (λ u. needs_within layout steps u q) (λ u. needs_within layout more u q) (uppers_of layout page)
    (λ u k. needs-more layout steps more u q (omega arith) k) later))
    (or-cases (page == q) (list_any (λ u. needs_within layout steps u q) (uppers_of layout page)) h)

needs-itself : (layout : Layout) (steps page : ℕ) → needs_within layout steps page page ≡ true
needs-itself layout zero page = eqb-refl page
needs-itself layout (suc steps) page = or-left (page == page)
    (list_any (λ u. needs_within layout steps u page) (uppers_of layout page)) (eqb-refl page)

-- a page needs what its upper needs
needs-through : (layout : Layout) (steps page upper q : ℕ) → page ≡ steps → upper < page →
    is_upper layout upper page ≡ true → needs layout upper q ≡ true → needs_within layout steps page q ≡ true
needs-through layout zero page upper q same below up h = absurd (omega arith)
needs-through layout (suc steps) page upper q same below up h =
    or-right (page == q) (list_any (λ u. needs_within layout steps u q) (uppers_of layout page))
    (any-among (λ u. needs_within layout steps u q) (uppers_of layout page) upper up
    (needs-more layout upper steps upper q (omega arith) h))

abbrev is_failed_need : Layout → List Entry → ℕ → ℕ → Bool
is_failed_need layout after page q = needs layout page q && has_failed q after

-- ---- nothing is left to take

with-something : (page : ℕ) (victim : Option ℕ) → next_with page victim ≡ Next.Nothing → ⊥
with-something page None h = cc
with-something page (Some victim) h = cc

at-something : (layout : Layout) (s : State) (page : ℕ) → next_at layout s page ≡ Next.Nothing → ⊥
at-something layout s page h = by-slot (nat_lt (held_count s) layout.slots) h
  where
    by-slot : (free : Bool) → cond free (Next.Take page None) (next_with page (victim_for layout s page))
        ≡ Next.Nothing → ⊥
    by-slot true k = cc
    by-slot false k = with-something page (victim_for layout s page) k

none-busy : (want : Option Want) → busy_with want ≡ Next.Nothing → want ≡ None
none-busy None h = refl
none-busy (Some want) h = cc

none-takeable : (layout : Layout) (s : State) (frame : ℕ) (want : Option Want) →
    next_of layout s (Some frame) want ≡ Next.Nothing → (want ≡ None) × (first_loading s frame ≡ None)
none-takeable layout s frame None h = (refl, none-busy (first_loading s frame) h)
none-takeable layout s frame (Some want) h = absurd (at-something layout s want.page h)

-- a page for which the frame waits is then not being loaded, and could not be taken
waits-idle : (s : State) (frame page : ℕ) → first_loading s frame ≡ None → waits_for s.wants frame page ≡ true →
    is_loading s page ≡ false
waits-idle s frame page none waits =
    elim (is_loading s page) as (λ b. is_loading s page ≡ b → b ≡ false) [
      | true ↦ λ e. absurd (find-none (is_busy s frame) s.wants none
          (any-weaker (is_wait frame page) (is_busy s frame) s.wants
          (λ w k. both (w.frame == frame) (is_loading s w.page)
          (and-both (w.frame == frame) ((w.page == page) && w.settled) k).0
          (let same : w.page ≡ page = wait-page frame page w k in rw same e)) waits))
      | false ↦ λ e. refl
    ] refl

waits-stuck : (layout : Layout) (s : State) (frame page : ℕ) → first_takeable layout s (Some frame) ≡ None →
    waits_for s.wants frame page ≡ true → can_take layout s page ≡ false
waits-stuck layout s frame page none waits =
    elim (can_take layout s page) as (λ b. can_take layout s page ≡ b → b ≡ false) [
      | true ↦ λ e. absurd (find-none (is_takeable layout s (Some frame)) s.wants none
          (any-weaker (is_wait frame page) (is_takeable layout s (Some frame)) s.wants
          (λ w k. both (w.frame == frame) (can_take layout s w.page)
          (and-both (w.frame == frame) ((w.page == page) && w.settled) k).0
          (let same : w.page ≡ page = wait-page frame page w k in rw same e)) waits))
      | false ↦ λ e. refl
    ] refl

-- so some upper of it is not resident
stuck-upper : (layout : Layout) (s : State) (page : ℕ) → is_resident s page ≡ false → is_loading s page ≡ false →
    can_take layout s page ≡ false → (upper : ℕ) × (is_upper layout upper page ≡ true) × (is_resident s upper ≡ false)
stuck-upper layout s page absent idle stuck =
    one-fails (is_resident s) (uppers_of layout page)
    (uppers-fail (is_resident s page) (is_loading s page) (list_all (is_resident s) (uppers_of layout page)) absent
    idle stuck)
  where
    uppers-fail : (r l all : Bool) → r ≡ false → l ≡ false → (not (r || l) && all) ≡ false → all ≡ false
    uppers-fail true l all a b k = cc
    uppers-fail false true all a b k = cc
    uppers-fail false false all a b k = k

-- ---- the least page that fails

-- what is known of a settled frame at the end of a journal
record IsStuck (layout : Layout) (frame : ℕ) (pages missing : List ℕ) (s : State) (after : List Entry) : Type 0 where
  bounds : InBounds layout
  sound : IsSound layout s
  waiting : IsWaiting frame pages missing s after
  below : all_below layout.pages missing ≡ true
  listed : lists_uppers layout pages missing ≡ true
  takeable : first_takeable layout s (Some frame) ≡ None
  loading : first_loading s frame ≡ None

pinned-resident : (layout : Layout) (s : State) (frame page : ℕ) → IsSound layout s → pins s frame page ≡ true →
    is_resident s page ≡ true
pinned-resident layout s frame page sound pinned =
    sound.pins_stay page (any-weaker (λ g. (g.number == frame) && get_or g.pins page false)
    (λ g. get_or g.pins page false) s.frames (λ g k. (and-both (g.number == frame) (get_or g.pins page false) k).1)
    pinned)

-- a page with an upper that is not resident: a load failed of what that upper needs
upper-failed : (layout : Layout) (frame : ℕ) (pages missing : List ℕ) (s : State) (after : List Entry)
    (page upper : ℕ) → IsStuck layout frame pages missing s after → is_among missing page ≡ true →
    is_upper layout upper page ≡ true → is_resident s upper ≡ false →
    (upper < page → is_among missing upper ≡ true → has_failed_need layout missing after upper ≡ true) →
    has_failed_need layout missing after page ≡ true
upper-failed layout frame pages missing s after page upper stuck among up gone earlier =
    let in_layout : page < layout.pages = (Decides-ltb page layout.pages).0
    (all-at_any (λ m. nat_lt m layout.pages) missing page stuck.below among) in
    let less : upper < page = upper-below layout page upper stuck.bounds in_layout up in
    let own = all-at_any (λ p. list_all (λ u. is_among pages u || is_among missing u) (uppers_of layout p)) missing page
    stuck.listed among in
    let listed = all-at_any (λ u. is_among pages u || is_among missing u) (uppers_of layout page) upper own up in
    ⊎_elim
    (λ paged. let here = pinned-resident layout s frame upper stuck.sound (stuck.waiting.pinned upper paged) in cc)
    (λ missed. any-weaker (is_failed_need layout after upper) (is_failed_need layout after page) missing
    (λ q k. let parts = and-both (needs layout upper q) (has_failed q after) k in
    both (needs layout page q) (has_failed q after) (needs-through layout page page upper q refl less up parts.0)
    parts.1)
    (earlier less missed))
    (or-cases (is_among pages upper) (is_among missing upper) listed)

failed-below : (layout : Layout) (frame : ℕ) (pages missing : List ℕ) (s : State) (after : List Entry) →
    IsStuck layout frame pages missing s after → (n page : ℕ) → page < n → is_among missing page ≡ true →
    is_resident s page ≡ false → has_failed_need layout missing after page ≡ true
failed-below layout frame pages missing s after stuck zero page below among absent = absurd (omega arith)
failed-below layout frame pages missing s after stuck (suc n) page below among absent =
    ⊎_elim
    (λ waits.
    let found = stuck-upper layout s page absent (waits-idle s frame page stuck.loading waits)
    (waits-stuck layout s frame page stuck.takeable waits) in
    upper-failed layout frame pages missing s after page found.0 stuck among found.1 found.2
    (λ less missed. failed-below layout frame pages missing s after stuck n found.0 (omega arith) missed found.2))
    (λ rest. ⊎_elim
    (λ pinned. let here = pinned-resident layout s frame page stuck.sound pinned in cc)
    (λ failed. any-among (is_failed_need layout after page) missing page among
    (both (needs layout page page) (has_failed page after) (needs-itself layout page page) failed))
    rest)
    (stuck.waiting.handled page among)

-- ---- the last Settle of a journal

here-split : (frame : ℕ) (what : What) (entries : List Entry) (settle : LastSettle) →
    settle_before frame what entries ≡ Some settle →
    (what ≡ Settle frame settle.pages settle.missing) × (entries ≡ settle.after)
here-split frame (Settle f pages missing) entries settle h =
    elim (f == frame) as (λ b. (f == frame) ≡ b →
    cond b (Some (record { pages = pages; missing = missing; after = entries })) None ≡ Some settle →
    (Settle f pages missing ≡ Settle frame settle.pages settle.missing) × (entries ≡ settle.after)) [
      | true ↦ λ e k. let own : f ≡ frame = same-eqb f frame e in
          let same : record { pages = pages; missing = missing; after = entries } ≡ settle = cc in
          (rw (own, ← same) refl, ap (λ (r : LastSettle). r.after) same)
      | false ↦ λ e k. cc
    ] refl h
here-split frame _ entries settle h = cc

-- the journal is what came before, the Settle, and what came after
record IsSplit (frame : ℕ) (journal : List Entry) (settle : LastSettle) : Type 0 where
  before : List Entry
  by : ℕ
  same : journal ≡ before ++ (record { by = by; what = Settle frame settle.pages settle.missing }) ∷ settle.after

IsSplit-later : (frame : ℕ) (e : Entry) (journal : List Entry) (settle : LastSettle) → IsSplit frame journal settle →
    IsSplit frame (e ∷ journal) settle
IsSplit-later frame e journal settle split =
    record { before = e ∷ split.before; by = split.by; same = ap (λ rest. e ∷ rest) split.same }

IsSplit-here : (frame : ℕ) (e : Entry) (journal : List Entry) (settle : LastSettle) →
    settle_before frame e.what journal ≡ Some settle → IsSplit frame (e ∷ journal) settle
IsSplit-here frame e journal settle h =
    let parts = here-split frame e.what journal settle h in
    record {
      before = [];
      by = e.by;
      same = ap (λ w. (record { by = e.by; what = w }) ∷ journal) parts.0
          ∙ ap (λ rest. (record { by = e.by; what = Settle frame settle.pages settle.missing }) ∷ rest) parts.1;
    }

last_settle-split : (frame : ℕ) (journal : List Entry) (settle : LastSettle) → last_settle frame journal ≡ Some settle →
    IsSplit frame journal settle
last_settle-split frame [] settle h = cc
last_settle-split frame (e ∷ journal) settle h =
    elim (last_settle frame journal) as (λ o. last_settle frame journal ≡ o →
    option_or o (settle_before frame e.what journal) ≡ Some settle → IsSplit frame (e ∷ journal) settle) [
      | None ↦ λ is k. IsSplit-here frame e journal settle k
      | Some found ↦ λ is k. IsSplit-later frame e journal settle (last_settle-split frame journal settle (is ∙ k))
    ] refl h

-- ---- a settled frame

waiting-at : (layout : Layout) (frame by : ℕ) (before : List Entry) (settle : LastSettle) →
    first_refused_after layout before ((record { by = by; what = Settle frame settle.pages settle.missing })
    ∷ settle.after) ≡ None → is_left_alone frame settle.after ≡ true →
    (all_below layout.pages settle.missing ≡ true)
    × IsWaiting frame settle.pages settle.missing
    (state_of layout (before ++ (record { by = by; what = Settle frame settle.pages settle.missing })
    ∷ settle.after)) settle.after
waiting-at layout frame by before settle legal alone =
    let e : Entry = record { by = by; what = Settle frame settle.pages settle.missing } in
    let s = state_of layout before in
    let parts = refused_or-none (is_allowed layout before e) (length before)
    (first_refused_after layout (before ++ e ∷ []) settle.after) legal in
    let allowed = settle-parts layout s before by frame settle.pages settle.missing parts.0 in
    let first : IsWaiting frame settle.pages settle.missing (state_of layout (before ++ e ∷ [])) [] =
    rw (state_of-push layout before e) (IsWaiting-settled s by frame settle.pages settle.missing
    allowed.resident) in
    let last = waiting-through layout frame settle.pages settle.missing (before ++ e ∷ []) [] settle.after
    allowed.missing_list.below alone first in
    (allowed.missing_list.below, rw append_assoc at last)

waiting-now : (layout : Layout) (journal : List Entry) (frame : ℕ) (settle : LastSettle) → IsLegal layout journal →
    last_settle frame journal ≡ Some settle → is_left_alone frame settle.after ≡ true →
    (all_below layout.pages settle.missing ≡ true)
    × IsWaiting frame settle.pages settle.missing (state_of layout journal) settle.after
waiting-now layout journal frame settle legal last alone =
    let split = last_settle-split frame journal settle last in
    let all : IsLegal layout (split.before ++ (record
    { by = split.by; what = Settle frame settle.pages settle.missing }) ∷ settle.after) = rw split.same at legal in
    let rest = (legal-split layout [] split.before
    ((record { by = split.by; what = Settle frame settle.pages settle.missing }) ∷ settle.after) all).1 in
    rw split.same (waiting-at layout frame split.by split.before settle rest alone)

-- the pages of the last Settle are resident
pub settled-pages : (layout : Layout) (journal : List Entry) (frame : ℕ) (settle : LastSettle) →
    HasSettled layout journal frame settle → (page : ℕ) → is_among settle.pages page ≡ true →
    is_resident (state_of layout journal) page ≡ true
settled-pages layout journal frame settle settled page among =
    let waiting = (waiting-now layout journal frame settle settled.legal settled.last settled.left_alone).1 in
    pinned-resident layout (state_of layout journal) frame page
    (IsSound-state_of layout journal settled.in_bounds settled.legal) (waiting.pinned page among)

-- and a missing page that is not resident needs one of which a load failed
pub settled-missing : (layout : Layout) (journal : List Entry) (frame : ℕ) (settle : LastSettle) →
    HasSettled layout journal frame settle → lists_uppers layout settle.pages settle.missing ≡ true →
    next_after layout journal (Some frame) ≡ Next.Nothing → (page : ℕ) → is_among settle.missing page ≡ true →
    is_resident (state_of layout journal) page ≡ false → has_failed_need layout settle.missing settle.after page ≡ true
settled-missing layout journal frame settle settled listed nothing page among absent =
    let s = state_of layout journal in
    let waits = waiting-now layout journal frame settle settled.legal settled.last settled.left_alone in
    let none = none-takeable layout s frame (first_takeable layout s (Some frame)) nothing in
    failed-below layout frame settle.pages settle.missing s settle.after
    (record {
      bounds = settled.in_bounds;
      sound = IsSound-state_of layout journal settled.in_bounds settled.legal;
      waiting = waits.1;
      below = waits.0;
      listed = listed;
      takeable = none.0;
      loading = none.1;
    })
    (suc page) page (omega arith) among absent

-- ---- records

-- a record at the entry after a journal is settled where the journal's last Settle is answered and stays the last
pub IsSettled-after : (layout : Layout) (journal later : List Entry) (frame : ℕ) (settle : LastSettle)
    (missing : List ℕ) → last_settle frame journal ≡ Some settle → is_some (last_settle frame later) ≡ false →
    is_answered layout frame missing settle ≡ true →
    IsSettled layout (journal ++ later) frame (length journal + 1) missing
IsSettled-after layout journal later frame settle missing last no_later answered =
    let at : length journal + 1 - 1 ≡ length journal = omega arith in
    let front : take (length journal + 1 - 1) (journal ++ later) ≡ journal = rw at (take-append_seam journal later) in
    let back : drop (length journal + 1 - 1) (journal ++ later) ≡ later = rw at (drop-append_seam journal later) in
    both (not (is_some (last_settle frame (drop (length journal + 1 - 1) (journal ++ later)))))
    (option_map_or (is_answered layout frame missing)
    (last_settle frame (take (length journal + 1 - 1) (journal ++ later))) false)
    (rw (back, no_later)) (rw (front, last) answered)

all-failed : (test : ℕ → Bool) (P : ℕ → Type 0) (xs : List ℕ) → ((x : ℕ) → P x → test x ≡ true) → All P xs →
    list_all test xs ≡ true
all-failed test P [] passes all = refl
all-failed test P (x ∷ xs) passes all =
    both (test x) (list_all test xs) (passes x (All-head P x xs all))
    (all-failed test P xs passes (All-tail P x xs all))

abbrev IsMissed : Layout → List Entry → LastSettle → ℕ → Type 0
IsMissed layout journal settle page = (is_among settle.missing page ≡ true)
    × (is_resident (state_of layout journal) page ≡ false)

pub settled-nothing : (layout : Layout) (journal later : List Entry) (frame : ℕ) (settle : LastSettle)
    (missing : List ℕ) → HasSettled layout journal frame settle →
    lists_uppers layout settle.pages settle.missing ≡ true → next_after layout journal (Some frame) ≡ Next.Nothing →
    is_some (last_settle frame later) ≡ false →
    All (λ page. (is_among settle.missing page ≡ true) × (is_resident (state_of layout journal) page ≡ false)) missing →
    IsSettled layout (journal ++ later) frame (length journal + 1) missing
settled-nothing layout journal later frame settle missing settled listed nothing no_later missed =
    IsSettled-after layout journal later frame settle missing settled.last no_later
    (or-right (has_full frame settle.after) (list_all (has_failed_need layout settle.missing settle.after) missing)
    (all-failed (has_failed_need layout settle.missing settle.after) (IsMissed layout journal settle) missing
    (λ page h. settled-missing layout journal frame settle settled listed nothing page h.0 h.1) missed))

pub settled-full : (layout : Layout) (journal later : List Entry) (frame : ℕ) (settle : LastSettle) (missing : List ℕ) →
    last_settle frame journal ≡ Some settle → is_some (last_settle frame later) ≡ false →
    has_full frame settle.after ≡ true → IsSettled layout (journal ++ later) frame (length journal + 1) missing
settled-full layout journal later frame settle missing last no_later full =
    IsSettled-after layout journal later frame settle missing last no_later
    (or-left (has_full frame settle.after) (list_all (has_failed_need layout settle.missing settle.after) missing) full)

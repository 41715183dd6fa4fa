-- Lists of wants: what is left of them, and what a search through them finds.
use Rattle.std.proofs.Common.{◌≡◌, ℕ, List, [], ◌∷◌, ◌++◌, Bool, true, false, cond, ◌&&◌, ◌||◌, Option, Some, filter}
use Rattle.std.proofs.Common.{find, map, refl, sym, ap, ◌∙◌, suc, ◌+◌, ◌/◌, ◌<◌, ◌≤◌, ◌==◌, nat_le, drop, get_or}
use Rattle.std.proofs.Common.{length, arith}
use Rattle.std.proofs.Math.Seq.{drop-cons}
use Rattle.std.proofs.lemmas.Bool.Decides.{nat_tests}
use Rattle.std.specs.List.{AllByRecursion, count_by}
use Rattle.pool_rules.specs.State.{waits_for}
use Rattle.pool_rules.specs.declared.want.Want.{Want}
use Rattle.pool_rules.proofs.Tests.{and-both}
use Rattle.pool_tables.specs.WantQueue.{WantCounts, closed_up, is_waiting, standing, stands, want_of}
use Rattle.pool_tables.specs.declared.queued_want.QueuedWant.{QueuedWant}

-- ---- all of a list

pub all-weaker : (P Q : QueuedWant → Type 0) → ((w : QueuedWant) → P w → Q w) → (ws : List QueuedWant)
    → AllByRecursion P ws → AllByRecursion Q ws
all-weaker P Q weaker [] all = tt
all-weaker P Q weaker (w ∷ ws) all = (weaker w all.0, all-weaker P Q weaker ws all.1)

pub all-append : (P : QueuedWant → Type 0) (vs ws : List QueuedWant) → AllByRecursion P vs → AllByRecursion P ws
    → AllByRecursion P (vs ++ ws)
all-append P [] ws all more = more
all-append P (v ∷ vs) ws all more = (all.0, all-append P vs ws all.1 more)

pub all-filter : (P : QueuedWant → Type 0) (test : QueuedWant → Bool) (ws : List QueuedWant) → AllByRecursion P ws
    → AllByRecursion P (filter test ws)
all-filter P test [] all = tt
all-filter P test (w ∷ ws) all =
    elim (test w) as (λ b. AllByRecursion P (cond b (w ∷ filter test ws) (filter test ws)))
    [ true ↦ (all.0, all-filter P test ws all.1) | false ↦ all-filter P test ws all.1 ]

pub all-closed_up : (P : QueuedWant → Type 0) (counts : WantCounts) (ws : List QueuedWant) → AllByRecursion P ws
    → AllByRecursion P (closed_up counts ws)
all-closed_up P counts ws all =
    elim (nat_le (count_by (stands counts) ws) (length ws / 2)) as
    (λ b. AllByRecursion P (cond b (filter (stands counts) ws) ws))
    [ true ↦ all-filter P (stands counts) ws all | false ↦ all ]

-- ---- filters

narrower-step : (w : QueuedWant) (vs ws : List QueuedWant) (r : Want → Bool) (a b : Bool) → r (want_of w) ≡ b
    → map want_of vs ≡ filter r (map want_of ws)
    → map want_of (cond (a && b) (w ∷ vs) vs) ≡ filter r (map want_of (cond a (w ∷ ws) ws))
narrower-step w vs ws r true true e rest = rw e (ap (λ us. want_of w ∷ us) rest)
narrower-step w vs ws r true false e rest = rw e rest
narrower-step w vs ws r false b e rest = rest

-- a filter of what a filter left
pub filter-narrower : (p q : QueuedWant → Bool) (r : Want → Bool) (ws : List QueuedWant)
    → AllByRecursion (λ w. q w ≡ (p w && r (want_of w))) ws
    → map want_of (filter q ws) ≡ filter r (map want_of (filter p ws))
filter-narrower p q r [] all = refl
filter-narrower p q r (w ∷ ws) all =
    ap (λ b. map want_of (cond b (w ∷ filter q ws) (filter q ws))) all.0 ∙
    narrower-step w (filter q ws) (filter p ws) r (p w) (r (want_of w)) refl (filter-narrower p q r ws all.1)

pub filter-alike : (p q : QueuedWant → Bool) (ws : List QueuedWant) → AllByRecursion (λ w. q w ≡ p w) ws
    → filter q ws ≡ filter p ws
filter-alike p q [] all = refl
filter-alike p q (w ∷ ws) all =
    ap (λ b. cond b (w ∷ filter q ws) (filter q ws)) all.0 ∙
    ap (λ vs. cond (p w) (w ∷ vs) vs) (filter-alike p q ws all.1)

pub filter-joined : (p : QueuedWant → Bool) (vs ws : List QueuedWant) → filter p (vs ++ ws) ≡ filter p vs ++ filter p ws
filter-joined p [] ws = refl
filter-joined p (v ∷ vs) ws =
    elim (p v) as (λ b. cond b (v ∷ filter p (vs ++ ws)) (filter p (vs ++ ws)) ≡ cond b (v ∷ filter p vs)
    (filter p vs) ++ filter p ws) [
      | true ↦ ap (λ us. v ∷ us) (filter-joined p vs ws)
      | false ↦
          filter-joined p vs ws
    ]

pub map-joined : (vs ws : List QueuedWant) → map want_of (vs ++ ws) ≡ map want_of vs ++ map want_of ws
map-joined [] ws = refl
map-joined (v ∷ vs) ws = ap (λ us. want_of v ∷ us) (map-joined vs ws)

filter-twice : (p : QueuedWant → Bool) (ws : List QueuedWant) → filter p (filter p ws) ≡ filter p ws
filter-twice p [] = refl
filter-twice p (w ∷ ws) =
    elim (p w) as (λ b. p w ≡ b → filter p (cond b (w ∷ filter p ws) (filter p ws)) ≡ cond b (w ∷ filter p ws)
    (filter p ws)) [ true ↦ λ e. rw e (ap (λ us. w ∷ us) (filter-twice p ws)) | false ↦ λ e. filter-twice p ws ]
    refl

-- to close the list up changes no want that stands
pub standing-closed_up : (counts : WantCounts) (ws : List QueuedWant)
    → standing counts (closed_up counts ws) ≡ standing counts ws
standing-closed_up counts ws =
    elim (nat_le (count_by (stands counts) ws) (length ws / 2)) as
    (λ b. map want_of (filter (stands counts) (cond b (filter (stands counts) ws) ws)) ≡ standing counts ws)
    [ true ↦ ap (map want_of) (filter-twice (stands counts) ws) | false ↦ refl ]

-- ---- searches

pub find-pass : (counts : WantCounts) (test : Want → Bool) (w : QueuedWant) (ws : List QueuedWant)
    → (test (want_of w) && stands counts w) ≡ false
    → find test (standing counts (w ∷ ws)) ≡ find test (standing counts ws)
find-pass counts test w ws fails =
    elim (stands counts w) as (λ b. (test (want_of w) && b) ≡ false →
    find test (map want_of (cond b (w ∷ filter (stands counts) ws) (filter (stands counts) ws))) ≡ find test
    (standing counts ws)) [
      | true ↦ λ h. let no : test (want_of w) ≡ false = first (test (want_of w)) h in rw no refl
      | false ↦ λ h. refl
    ] fails
  where
    first : (b : Bool) → (b && true) ≡ false → b ≡ false
    first true h = h
    first false h = refl

pub find-here : (counts : WantCounts) (test : Want → Bool) (w : QueuedWant) (ws : List QueuedWant)
    → test (want_of w) ≡ true → stands counts w ≡ true → find test (standing counts (w ∷ ws)) ≡ Some (want_of w)
find-here counts test w ws passes stays = rw stays (rw passes refl)

-- the wants from a place on are the one at it and those after it
pub from-place : (ws : List QueuedWant) (k : ℕ) (none : QueuedWant) → k < length ws
    → drop k ws ≡ get_or ws k none ∷ drop (k + 1) ws
from-place ws k none within =
    let e : suc k ≡ k + 1 = omega arith in
    drop-cons ws k none within ∙ ap (λ m. get_or ws k none ∷ drop m ws) e

-- a search goes on after a want that does not pass
pub find-next : (counts : WantCounts) (test : Want → Bool) (ws : List QueuedWant) (k : ℕ) (none : QueuedWant)
    (found : Option Want)
    → k < length ws → (test (want_of (get_or ws k none)) && stands counts (get_or ws k none)) ≡ false
    → find test (standing counts (drop k ws)) ≡ found → find test (standing counts (drop (k + 1) ws)) ≡ found
find-next counts test ws k none found within fails before =
    sym (find-pass counts test (get_or ws k none) (drop (k + 1) ws) fails) ∙
    (ap (λ vs. find test (standing counts vs)) (sym (from-place ws k none within)) ∙ before)

-- and ends at one that passes
pub find-found : (counts : WantCounts) (test : Want → Bool) (ws : List QueuedWant) (k : ℕ) (none : QueuedWant)
    (found : Option Want)
    → k < length ws → (test (want_of (get_or ws k none)) && stands counts (get_or ws k none)) ≡ true
    → find test (standing counts (drop k ws)) ≡ found → Some (want_of (get_or ws k none)) ≡ found
find-found counts test ws k none found within passes before =
    let parts = and-both (test (want_of (get_or ws k none))) (stands counts (get_or ws k none)) passes in
    sym (find-here counts test (get_or ws k none) (drop (k + 1) ws) parts.0 parts.1) ∙
    (ap (λ vs. find test (standing counts vs)) (sym (from-place ws k none within)) ∙ before)

-- ---- who waits for a page

-- the frame waits by the first want, or by a later one
pub waits-cons : (counts : WantCounts) (w : QueuedWant) (ws : List QueuedWant) (n page : ℕ)
    → waits_for (standing counts (w ∷ ws)) n page ≡
    ((is_waiting counts page w && (w.frame.0 == n)) || waits_for (standing counts ws) n page)
waits-cons counts w ws n page =
    elim (stands counts w) as (λ b. waits_for
    (map want_of (cond b (w ∷ filter (stands counts) ws) (filter (stands counts) ws))) n page ≡
    (((b && ((w.page == page) && w.settled)) && (w.frame.0 == n)) || waits_for (standing counts ws) n page)) [
      | true ↦ ap (λ b. b || waits_for (standing counts ws) n page)
          (swap (w.frame.0 == n) ((w.page == page) && w.settled))
      | false ↦ refl
    ]
  where
    swap : (a b : Bool) → (a && b) ≡ (b && a)
    swap true true = refl
    swap true false = refl
    swap false true = refl
    swap false false = refl

-- the list is closed up if it is at least half over
pub closed_up-half : (counts : WantCounts) (ws : List QueuedWant) → count_by (stands counts) ws ≤ length ws / 2
    → closed_up counts ws ≡ filter (stands counts) ws
closed_up-half counts ws half =
    let yes : nat_le (count_by (stands counts) ws) (length ws / 2) ≡ true = grind (arith, nat_tests) in
    rw yes refl

-- Explicit pins of many pages, one page more.
use Rattle.std.proofs.Common.{◌≡◌, ◌≢◌, ℕ, suc, ◌+◌, ◌-◌, ◌<◌, ◌==◌, nat_lt, List, ◌∷◌, Bool, true, false, cond, ◌&&◌}
use Rattle.std.proofs.Common.{⊎_elim, drop, get_or, length, set, refl, sym, ap, ◌∙◌, subst, arith, eq-eqb, length-set}
use Rattle.std.proofs.Math.Seq.{drop-cons}
use Rattle.std.proofs.lemmas.Bool.{cases_eq}
use Rattle.std.proofs.lemmas.Bool.Decides.{nat_tests}
use Rattle.pool_rules.proofs.Flags.{place-within}
use Rattle.pool_tables.specs.Changes.{times}
use Rattle.pool_tables.specs.PageRecords.{PageRecords, no_record, record_at, with_record}
use Rattle.pool_tables.specs.PinLists.{flagged}
use Rattle.pool_tables.specs.PinMoves.{MovesPins}
use Rattle.pool_tables.specs.declared.page_record.PageRecord.{PageRecord}
use Rattle.pool_tables.proofs.Apart.{ne-eqb}
use Rattle.pool_tables.proofs.FlaggedPages.{times-cons}
use Rattle.pool_tables.proofs.UseOrder.{record-other, record-same}

-- the pages from a place on are the one at it and those after it
times-split : (pages : List ℕ) (k p : ℕ) → k < length pages
    → times (drop k pages) p ≡ cond (get_or pages k 0 == p) 1 0 + times (drop (k + 1) pages) p
times-split pages k p within =
    let e : suc k ≡ k + 1 = omega arith in
    let split : drop k pages ≡ get_or pages k 0 ∷ drop (k + 1) pages =
    drop-cons pages k 0 within ∙ ap (λ m. get_or pages k 0 ∷ drop m pages) e in
    ap (λ ps. times ps p) split ∙ times-cons (get_or pages k 0) (drop (k + 1) pages) p

pub times-here : (pages : List ℕ) (k : ℕ) → k < length pages
    → times (drop k pages) (get_or pages k 0) ≡ 1 + times (drop (k + 1) pages) (get_or pages k 0)
times-here pages k within =
    times-split pages k (get_or pages k 0) within ∙
    ap (λ b. cond b 1 0 + times (drop (k + 1) pages) (get_or pages k 0))
    (eq-eqb (get_or pages k 0) (get_or pages k 0) refl)

pub times-other : (pages : List ℕ) (k p : ℕ) → k < length pages → p ≢ get_or pages k 0
    → times (drop k pages) p ≡ times (drop (k + 1) pages) p
times-other pages k p within other =
    let none : ◌≡◌ {A = ℕ} (cond (get_or pages k 0 == p) 1 0) 0 =
    ap (λ b. cond b 1 0) (ne-eqb (get_or pages k 0) p (λ e. other (sym e))) in
    omega (arith, times-split pages k p within, none)

-- a page with explicit pins has a record
pub pinned-below : (records : List PageRecord) (page : ℕ) → 0 < (record_at records page).pins → page < length records
pinned-below records page some =
    let test : nat_lt 0 (record_at records page).pins ≡ true = grind (arith, nat_tests) in
    place-within (λ (r : PageRecord). nat_lt 0 r.pins) records page no_record refl test

-- the explicit pins of one page change besides
pub MovesPins-step : (went came went_now came_now : ℕ → ℕ) (old now : PageRecords) (page pins : ℕ)
    → MovesPins went came old now → page < length now.records
    → ((p : ℕ) → p ≢ page → went_now p ≡ went p) → ((p : ℕ) → p ≢ page → came_now p ≡ came p)
    → pins + went_now page ≡ (record_at old.records page).pins + came_now page
    → MovesPins went_now came_now old (with_record now page (record (record_at now.records page) { pins = pins }))
MovesPins-step went came went_now came_now old now page pins moves below went_same came_same here =
    let r : PageRecord = record (record_at now.records page) { pins = pins } in
    let at = record-same now.records page r below in
    record {
      roots = moves.roots;
      len = length-set now.records page r ∙ moves.len;
      others = λ p. ⊎_elim
          (λ same. subst (λ q. record_at (set now.records page r) q ≡ record
          (record_at old.records q) { pins = (record_at (set now.records page r) q).pins }) (sym same)
          (at ∙ (ap (λ (x : PageRecord). record x { pins = pins }) (moves.others page) ∙
          ap (λ n. record (record_at old.records page) { pins = n }) (sym (ap (λ (x : PageRecord). x.pins) at)))))
          (λ other.
          let there = record-other now.records page p r other in
          there ∙ (moves.others p ∙ ap (λ n. record (record_at old.records p) { pins = n })
          (sym (ap (λ (x : PageRecord). x.pins) there))))
          (cases_eq p page);
      pins = λ p. ⊎_elim
          (λ same. subst (λ q. (record_at (set now.records page r) q).pins + went_now q ≡
          (record_at old.records q).pins + came_now q) (sym same)
          (ap (λ (x : PageRecord). x.pins + went_now page) at ∙ here))
          (λ other.
          let there : (record_at (set now.records page r) p).pins ≡ (record_at now.records p).pins =
          ap (λ (x : PageRecord). x.pins) (record-other now.records page p r other) in
          omega (arith, there, moves.pins p, went_same p other, came_same p other))
          (cases_eq p page);
    }

-- one page less is flagged
pub flagged-split : (missing : List ℕ) (flags : List Bool) (k p : ℕ) → length flags ≡ length missing →
    k < length missing
    → times (flagged (drop k missing) (drop k flags)) p
    ≡ cond (get_or flags k false && (get_or missing k 0 == p)) 1 0 + times
    (flagged (drop (k + 1) missing) (drop (k + 1) flags)) p
flagged-split missing flags k p len within =
    let e : suc k ≡ k + 1 = omega arith in
    let within_flags : k < length flags = omega (arith, len, within) in
    let pages : drop k missing ≡ get_or missing k 0 ∷ drop (k + 1) missing =
    drop-cons missing k 0 within ∙ ap (λ m. get_or missing k 0 ∷ drop m missing) e in
    let marks : drop k flags ≡ get_or flags k false ∷ drop (k + 1) flags =
    drop-cons flags k false within_flags ∙ ap (λ m. get_or flags k false ∷ drop m flags) e in
    ap (λ ps. times (flagged ps (drop k flags)) p) pages
    ∙ (ap (λ bs. times (flagged (get_or missing k 0 ∷ drop (k + 1) missing) bs) p) marks ∙ pick (get_or flags k false))
  where
    pick : (b : Bool) → times (flagged (get_or missing k 0 ∷ drop (k + 1) missing) (b ∷ drop (k + 1) flags)) p
        ≡ cond (b && (get_or missing k 0 == p)) 1 0 + times (flagged (drop (k + 1) missing) (drop (k + 1) flags)) p
    pick true = times-cons (get_or missing k 0) (flagged (drop (k + 1) missing) (drop (k + 1) flags)) p
    pick false = omega arith

-- some pins go, and then some more
pub MovesPins-more : (went came step left : ℕ → ℕ) (old now new : PageRecords) → MovesPins went came old now
    → MovesPins step (λ p. 0) now new → ((p : ℕ) → came p ≡ step p + left p) → MovesPins went left old new
MovesPins-more went came step left old now new moves more split = record {
  roots = more.roots ∙ moves.roots;
  len = more.len ∙ moves.len;
  others =
      λ p. more.others p ∙ ap (λ (x : PageRecord). record x { pins = (record_at new.records p).pins }) (moves.others p);
  pins = λ p. omega (arith, moves.pins p, more.pins p, split p);
}

-- no pins move
pub MovesPins-none : (table : PageRecords) → MovesPins (λ p. 0) (λ p. 0) table table
MovesPins-none table = record { roots = refl; len = refl; others = λ p. refl; pins = λ p. refl }

-- the pins of one page, once less
pub MovesPins-one : (table : PageRecords) (page : ℕ) → 0 < (record_at table.records page).pins
    → MovesPins (λ p. cond (page == p) 1 0) (λ p. 0) table
    (with_record table page (record (record_at table.records page)
    { pins = (record_at table.records page).pins - 1 }))
MovesPins-one table page some =
    let one : ◌≡◌ {A = ℕ} (cond (page == page) 1 0) 1 = ap (λ b. cond b 1 0) (eq-eqb page page refl) in
    MovesPins-step (λ p. 0) (λ p. 0) (λ p. cond (page == p) 1 0) (λ p. 0) table table page
    ((record_at table.records page).pins - 1) (MovesPins-none table) (pinned-below table.records page some)
    (λ p other. ap (λ b. cond b 1 0) (ne-eqb page p (λ e. other (sym e)))) (λ p other. refl)
    (omega (arith, one, some))

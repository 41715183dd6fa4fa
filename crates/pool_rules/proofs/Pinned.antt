-- Which pages are pinned after frames, pins or marks changed.
use Rattle.std.proofs.Common.{◌≡◌, ℕ, zero, suc, ◌==◌, List, [], ◌∷◌, Bool, true, false, cond, ◌⊎◌, inl, inr, ⊎_elim}
use Rattle.std.proofs.Common.{get_or, set, replicate, map, fold, refl, sym}
use Rattle.std.proofs.lemmas.Bool.Decides.{Decides-eqb}
use Rattle.std.specs.List.{list_any}
use Rattle.pool_rules.specs.Frame.{Frame}
use Rattle.pool_rules.specs.declared.want.Want.{Want}
use Rattle.pool_rules.specs.State.{replace_frame, waits_for, frame_after_install, marked}
use Rattle.pool_rules.proofs.Flags.{get_or-set_cases}
use Rattle.pool_rules.proofs.Tests.{or-cases, or-left, or-right}

-- whether the frame pins the page, and whether some frame does
abbrev pub pinned_by : ℕ → Frame → Bool
pinned_by page f = get_or f.pins page false

abbrev pub pinned : ℕ → List Frame → Bool
pinned page frames = list_any (pinned_by page) frames

pub pinned-put : (page : ℕ) (f : Frame) (frames : List Frame) → pinned page (replace_frame f frames) ≡ true →
    (pinned_by page f ≡ true) ⊎ (pinned page frames ≡ true)
pinned-put page f [] h = ⊎_elim (λ here. inl here) (λ later. cc) (or-cases (pinned_by page f) false h)
pinned-put page f (g ∷ frames) h =
    elim (g.number == f.number) as (λ b. pinned page (cond b (f ∷ frames) (g ∷ replace_frame f frames)) ≡ true →
    (pinned_by page f ≡ true) ⊎ (pinned page (g ∷ frames) ≡ true)) [
      | true ↦ λ k. ⊎_elim (λ here. inl here) (λ later. inr (or-right (pinned_by page g) (pinned page frames) later))
          (or-cases (pinned_by page f) (pinned page frames) k)
      | false ↦ λ k. ⊎_elim (λ here. inr (or-left (pinned_by page g) (pinned page frames) here))
          (λ later. ⊎_elim (λ new. inl new) (λ old. inr (or-right (pinned_by page g) (pinned page frames) old))
          (pinned-put page f frames later)) (or-cases (pinned_by page g) (pinned page (replace_frame f frames)) k)
    ] h

with_installed-pins : (wants : List Want) (installed page : ℕ) (f : Frame) →
    pinned_by page (frame_after_install wants installed f) ≡ true → (page ≡ installed) ⊎ (pinned_by page f ≡ true)
with_installed-pins wants installed page f h =
    elim (waits_for wants f.number installed) as (λ b. pinned_by page
    (cond b (record f { pins = set f.pins installed true }) f) ≡ true →
    (page ≡ installed) ⊎ (pinned_by page f ≡ true)) [
      | true ↦ λ k. ⊎_elim (λ same. inr cc) (λ here. inl here.0) (get_or-set_cases f.pins installed page true false)
      | false ↦ λ k. inr k
    ] h

-- after an Install the page installed is pinned besides, at most
pub pinned-installed : (wants : List Want) (installed page : ℕ) (frames : List Frame) →
    pinned page (map (frame_after_install wants installed) frames) ≡ true →
    (page ≡ installed) ⊎ (pinned page frames ≡ true)
pinned-installed wants installed page [] h = cc
pinned-installed wants installed page (f ∷ frames) h =
    ⊎_elim
    (λ here. ⊎_elim (λ same. inl same) (λ old. inr (or-left (pinned_by page f) (pinned page frames) old))
    (with_installed-pins wants installed page f here))
    (λ later. ⊎_elim (λ same. inl same) (λ old. inr (or-right (pinned_by page f) (pinned page frames) old))
    (pinned-installed wants installed page frames later))
    (or-cases (pinned_by page (frame_after_install wants installed f))
    (pinned page (map (frame_after_install wants installed) frames)) h)

abbrev pub mark_all : List Bool → List ℕ → List Bool
mark_all start pages = fold (λ marks page. set marks page true) start pages

eqb-same : (p page : ℕ) → page ≡ p → (p == page) ≡ true
eqb-same p page e = (Decides-eqb p page).1 (sym e)

mark_all-cases : (start : List Bool) (pages : List ℕ) (page : ℕ) → get_or (mark_all start pages) page false ≡ true →
    (get_or start page false ≡ true) ⊎ (list_any (λ p. p == page) pages ≡ true)
mark_all-cases start [] page h = inl h
mark_all-cases start (p ∷ pages) page h =
    ⊎_elim
    (λ marked. ⊎_elim (λ same. inl cc) (λ here. inr
    (or-left (p == page) (list_any (λ q. q == page) pages) (eqb-same p page here.0)))
    (get_or-set_cases start p page true false))
    (λ later. inr (or-right (p == page) (list_any (λ q. q == page) pages) later))
    (mark_all-cases (set start p true) pages page h)

unmarked : (pages page : ℕ) → get_or (replicate pages false) page false ≡ false
unmarked zero page = refl
unmarked (suc pages) zero = refl
unmarked (suc pages) (suc page) = unmarked pages page

-- a page that is marked is one of those that were to be
pub marked-listed : (count : ℕ) (pages : List ℕ) (page : ℕ) → get_or (marked count pages) page false ≡ true →
    list_any (λ p. p == page) pages ≡ true
marked-listed count pages page h =
    ⊎_elim (λ start. let none = unmarked count page in cc) (λ listed. listed)
    (mark_all-cases (replicate count false) pages page h)

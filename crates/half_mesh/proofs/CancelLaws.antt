-- Terms in a table of slots: what the table and the terms that left it add up to.
use Rattle.std.proofs.Common.{◌≡◌, ℕ, zero, suc, ◌+◌, ◌%◌, ◌^◌, ◌<◌, Bool, true, false, cond, ℤ, pos, ◌+ℤ◌, ◌-ℤ◌}
use Rattle.std.proofs.Common.{List, [], ◌∷◌, ◌++◌, length, take, get_or, set, flat_map, replicate, FitsSigned, w32}
use Rattle.std.proofs.Common.{to_z, of_z, refl, sym, ap, ◌∙◌, arith, append_assoc, append-nil}
use Rattle.std.proofs.lemmas.Int.{ints, int_wrap-add_right, wrapping_add-bits, to_z-of_z}
use Rattle.std.proofs.Math.Facts.{Fits-of_z}
use Rattle.std.proofs.lemmas.List.{take_more}
use Rattle.std.proofs.lemmas.List.Elements.{All-append}
use Rattle.std.proofs.lemmas.Grind.{flat_map-append}
use Rattle.std.specs.Int.{int_wrap}
use Rattle.half_mesh.specs.declared.edges.Edge.{Edge}
use Rattle.half_mesh.specs.declared.terms.EdgeTerm.{EdgeTerm}
use Rattle.half_mesh.specs.Rim.{same_edge}
use Rattle.half_mesh.specs.Terms.{term, total_at, AreSmall, AddUpAlike, unless_cancelled}
use Rattle.half_mesh.proofs.EdgeLaws.{same_edge-from, derived_edge_eq, derived_edge_eq-is}
use Rattle.half_mesh.proofs.TermLaws.{total_at-append, total_at-push, total_at-unless_cancelled, alike-append}
use Rattle.half_mesh.proofs.TermLaws.{small_one, small_unless_cancelled, nothing_added}

-- what a term adds at an edge
abbrev part_at : Edge → EdgeTerm → ℤ
part_at e t = cond (same_edge t.edge e) t.sum (pos 0)

-- one slot is filled anew
total_at-set : (e : Edge) (slots : List EdgeTerm) (k : ℕ) (new d : EdgeTerm) → k < length slots →
    total_at e (set slots k new) +ℤ part_at e (get_or slots k d) ≡ total_at e slots +ℤ part_at e new
unfolding total_at
total_at-set e [] k new d below = absurd (omega arith)
total_at-set e (t ∷ slots) zero new d below =
    swapped (part_at e new) (total_at e slots) (part_at e t)
  where
    swapped : (a b c : ℤ) → (a +ℤ b) +ℤ c ≡ (c +ℤ b) +ℤ a
    swapped a b c = omega (arith, ints)
total_at-set e (t ∷ slots) (suc k) new d below =
    moved (part_at e t) (total_at e (set slots k new)) (part_at e (get_or slots k d)) (total_at e slots) (part_at e new)
    (total_at-set e slots k new d (omega arith))
  where
    moved : (a b c f g : ℤ) → b +ℤ c ≡ f +ℤ g → (a +ℤ b) +ℤ c ≡ (a +ℤ f) +ℤ g
    moved a b c f g same = omega (arith, ints, same)

-- a slot's edge gets another term
pub added_in_slot : (left slots : List EdgeTerm) (k : ℕ) (t d : EdgeTerm) (edge : Edge) (sum : ℤ) →
    k < length slots → edge ≡ (get_or slots k d).edge → same_edge edge t.edge ≡ true →
    sum ≡ int_wrap w32 ((get_or slots k d).sum +ℤ t.sum) →
    AddUpAlike (left ++ set slots k (term edge sum)) ((left ++ slots) ++ t ∷ [])
added_in_slot left slots k t d edge sum below held same is e =
    ap (int_wrap w32) (total_at-append e left (set slots k (term edge sum))) ∙
    by (same_edge edge e) refl ∙
    sym (ap (int_wrap w32) (total_at-push e (left ++ slots) t ∙
    ap (λ z. z +ℤ part_at e t) (total_at-append e left slots)))
  where
    here : edge ≡ t.edge
    here = same_edge-from edge t.edge same

    filled : total_at e (set slots k (term edge sum)) +ℤ part_at e (get_or slots k d) ≡
        total_at e slots +ℤ part_at e (term edge sum)
    filled = total_at-set e slots k (term edge sum) d below

    by : (b : Bool) → same_edge edge e ≡ b →
        int_wrap w32 (total_at e left +ℤ total_at e (set slots k (term edge sum))) ≡
        int_wrap w32 ((total_at e left +ℤ total_at e slots) +ℤ part_at e t)
    by false apart =
        let old : same_edge (get_or slots k d).edge e ≡ false = ap (λ f. same_edge f e) (sym held) ∙ apart in
        let new : same_edge t.edge e ≡ false = ap (λ f. same_edge f e) (sym here) ∙ apart in
        let kept = rw (old, apart) at filled in
        rw new (ap (int_wrap w32) (plain (total_at e left) (total_at e (set slots k (term edge sum))) (total_at e slots)
        kept))
      where
        plain : (a b c : ℤ) → b +ℤ pos 0 ≡ c +ℤ pos 0 → a +ℤ b ≡ (a +ℤ c) +ℤ pos 0
        plain a b c same = omega (arith, ints, same)
    by true at =
        let old : same_edge (get_or slots k d).edge e ≡ true = ap (λ f. same_edge f e) (sym held) ∙ at in
        let new : same_edge t.edge e ≡ true = ap (λ f. same_edge f e) (sym here) ∙ at in
        let kept = rw (old, at) at filled in
        rw new (ap (int_wrap w32) (summed (total_at e left) (total_at e (set slots k (term edge sum)))
        (total_at e slots) (get_or slots k d).sum sum kept) ∙
        ap (λ z. int_wrap w32 (rest +ℤ z)) is ∙
        int_wrap-add_right w32 rest ((get_or slots k d).sum +ℤ t.sum) ∙
        ap (int_wrap w32) (again (total_at e left) (total_at e slots) (get_or slots k d).sum t.sum))
      where
        rest : ℤ
        rest = (total_at e left +ℤ total_at e slots) -ℤ (get_or slots k d).sum

        summed : (a b c h s : ℤ) → b +ℤ h ≡ c +ℤ s → a +ℤ b ≡ ((a +ℤ c) -ℤ h) +ℤ s
        summed a b c h s same = omega (arith, ints, same)

        again : (a c h t : ℤ) → ((a +ℤ c) -ℤ h) +ℤ (h +ℤ t) ≡ (a +ℤ c) +ℤ t
        again a c h t = omega (arith, ints)

-- a slot gets another edge, and its term leaves
pub left_slot : (left grown slots : List EdgeTerm) (k : ℕ) (t d : EdgeTerm) → k < length slots →
    grown ≡ left ++ unless_cancelled (get_or slots k d) →
    AddUpAlike (grown ++ set slots k t) ((left ++ slots) ++ t ∷ [])
left_slot left grown slots k t d below pushed e =
    ap (int_wrap w32) (total_at-append e grown (set slots k t) ∙
    ap (λ z. z +ℤ total_at e (set slots k t)) (ap (total_at e) pushed ∙
    total_at-unless_cancelled e left (get_or slots k d) ∙ total_at-push e left (get_or slots k d)) ∙
    summed (total_at e left) (part_at e (get_or slots k d)) (total_at e (set slots k t)) (total_at e slots)
    (part_at e t) (total_at-set e slots k t d below) ∙
    sym (total_at-push e (left ++ slots) t ∙ ap (λ z. z +ℤ part_at e t) (total_at-append e left slots)))
  where
    summed : (a h b c s : ℤ) → b +ℤ h ≡ c +ℤ s → (a +ℤ h) +ℤ b ≡ (a +ℤ c) +ℤ s
    summed a h b c s same = omega (arith, ints, same)

pub alike-then : (xs ys zs : List EdgeTerm) → AddUpAlike xs ys → AddUpAlike ys zs → AddUpAlike xs zs
alike-then xs ys zs first second e = first e ∙ second e

-- one more term
pub one_put : (start terms now after : List EdgeTerm) (i : ℕ) (d : EdgeTerm) → i < length terms →
    AddUpAlike now (start ++ take i terms) → AddUpAlike after (now ++ get_or terms i d ∷ []) →
    AddUpAlike after (start ++ take (i + 1) terms)
one_put start terms now after i d below so_far put e =
    put e ∙
    alike-append now (start ++ take i terms) (get_or terms i d ∷ []) (get_or terms i d ∷ []) so_far (λ f. refl) e ∙
    ap (λ l. int_wrap w32 (total_at e l)) (append_assoc start (take i terms) (get_or terms i d ∷ []) ∙
    ap (λ l. start ++ l) (sym (take_more terms i d below)))

-- one more slot's term leaves
pub one_held : (start slots now after : List EdgeTerm) (i : ℕ) (d : EdgeTerm) → i < length slots →
    AddUpAlike now (start ++ take i slots) → after ≡ now ++ unless_cancelled (get_or slots i d) →
    AddUpAlike after (start ++ take (i + 1) slots)
one_held start slots now after i d below so_far pushed =
    one_put start slots now after i d below so_far
    (λ e. ap (int_wrap w32) (ap (total_at e) pushed ∙ total_at-unless_cancelled e now (get_or slots i d)))

-- one more piece
pub one_piece : {T : Type 0} (terms_at : T → List EdgeTerm) (rest piece later : List T)
    (start now after : List EdgeTerm) (all : List T) →
    AddUpAlike (now ++ flat_map terms_at rest) (start ++ flat_map terms_at all) → rest ≡ piece ++ later →
    AddUpAlike after (now ++ flat_map terms_at piece) →
    AddUpAlike (after ++ flat_map terms_at later) (start ++ flat_map terms_at all)
one_piece terms_at rest piece later start now after all so_far whole put e =
    alike-append after (now ++ flat_map terms_at piece) (flat_map terms_at later) (flat_map terms_at later)
    put (λ f. refl) e ∙
    ap (λ l. int_wrap w32 (total_at e l)) (append_assoc now (flat_map terms_at piece) (flat_map terms_at later) ∙
    ap (λ l. now ++ l) (sym (ap (flat_map terms_at) whole ∙ flat_map-append terms_at piece later))) ∙
    so_far e

-- the same, by what the code compares and adds
pub added_here : (left slots : List EdgeTerm) (k : ℕ) (t d : EdgeTerm) → k < length slots → AreSmall slots →
    FitsSigned w32 t.sum → derived_edge_eq (get_or slots k d).edge t.edge ≡ true →
    AddUpAlike (left ++ set slots k (term (get_or slots k d).edge
    (to_z w32 ((of_z w32 (get_or slots k d).sum + of_z w32 t.sum) % 2 ^ 32)))) ((left ++ slots) ++ t ∷ [])
added_here left slots k t d below small fits tie =
    let held : EdgeTerm = get_or slots k d in
    let held_fits : FitsSigned w32 held.sum = small k d below in
    added_in_slot left slots k t d held.edge (to_z w32 ((of_z w32 held.sum + of_z w32 t.sum) % 2 ^ 32)) below refl
    (sym (derived_edge_eq-is held.edge t.edge) ∙ tie)
    (wrapping_add-bits w32 (of_z w32 held.sum) (of_z w32 t.sum) (omega (arith, Fits-of_z held_fits))
    (omega (arith, Fits-of_z fits)) ∙
    ap (λ z. int_wrap w32 (z +ℤ to_z w32 (of_z w32 t.sum))) (to_z-of_z w32 held.sum held_fits) ∙
    ap (λ z. int_wrap w32 (held.sum +ℤ z)) (to_z-of_z w32 t.sum fits))

-- what leaves a slot is small
pub small_left : (left grown : List EdgeTerm) (t : EdgeTerm) → AreSmall left → FitsSigned w32 t.sum →
    grown ≡ left ++ unless_cancelled t → AreSmall grown
small_left left grown t small fits pushed =
    rw pushed (small_unless_cancelled left t
    (All-append (λ (t : EdgeTerm). FitsSigned w32 t.sum) left (t ∷ []) small (small_one t fits)))

-- empty slots add nothing
total_at-empty : (e : Edge) (n : ℕ) (edge : Edge) → total_at e (replicate n (term edge (pos 0))) ≡ pos 0
unfolding total_at
total_at-empty e zero edge = refl
total_at-empty e (suc n) edge =
    by (same_edge edge e) ∙ nothing_added (total_at e (replicate n (term edge (pos 0)))) ∙ total_at-empty e n edge
  where
    by : (b : Bool) → (cond b (pos 0) (pos 0)) +ℤ total_at e (replicate n (term edge (pos 0))) ≡
        pos 0 +ℤ total_at e (replicate n (term edge (pos 0)))
    by true = refl
    by false = refl

-- the table was empty at first
pub from_empty : (n : ℕ) (edge : Edge) (start slots terms left : List EdgeTerm) →
    start ≡ [] → slots ≡ replicate n (term edge (pos 0)) → AddUpAlike left ((start ++ slots) ++ terms) →
    AddUpAlike left terms
from_empty n edge start slots terms left none empty put e =
    put e ∙ ap (int_wrap w32) (total_at-append e (start ++ slots) terms ∙
    ap (λ z. z +ℤ total_at e terms) (ap (λ l. total_at e (l ++ slots)) none ∙ ap (total_at e) empty ∙
    total_at-empty e n edge) ∙ nothing_added (total_at e terms))

-- all pieces are done
pub all_put : {T : Type 0} (terms_at : T → List EdgeTerm) (rest : List T) (start now after : List EdgeTerm) →
    length rest ≡ 0 → AddUpAlike (now ++ flat_map terms_at rest) start → AddUpAlike after now → AddUpAlike after start
all_put terms_at (x ∷ rest) start now after none put held e = absurd (omega (arith, none))
all_put terms_at [] start now after none put held e =
    held e ∙ ap (λ l. int_wrap w32 (total_at e l)) (sym (append-nil now)) ∙ put e

-- Terms of edge sums: what lists of them add up to, and adding up a sorted list.
use Rattle.std.proofs.Common.{◌≡◌, ◌≢◌, ℕ, zero, suc, ◌+◌, ◌-◌, ◌%◌, ◌^◌, ◌<◌, ◌≤◌, inl, inr, Bool, true, false}
use Rattle.std.proofs.Common.{ℤ, pos, negsuc, ◌+ℤ◌, ◌-ℤ◌, neg_ℤ, List, [], ◌∷◌, ◌++◌, length, take, get_or, map}
use Rattle.std.proofs.Common.{flat_map, All, cond, Ordering, FitsSigned, Fits, w32, to_z, of_z, refl, sym, ap, ◌∙◌}
use Rattle.std.proofs.Common.{subst, arith}
use Rattle.std.proofs.lemmas.Int.{ints, SFits-int_wrap, int_wrap_fits, int_wrap-add_left, int_wrap-add_right}
use Rattle.std.proofs.lemmas.Int.{wrapping_add-bits, to_z-of_z}
use Rattle.std.proofs.Math.Facts.{Fits-of_z}
use Rattle.std.proofs.lemmas.List.{append-nil, append_assoc, map-append, take_more, take_all, get_or_default}
use Rattle.std.proofs.lemmas.List.{length-append, get_or_append_left, get_or-append_right}
use Rattle.std.proofs.lemmas.List.Elements.{All-nil, All-head, All-tail, All-append}
use Rattle.std.proofs.lemmas.List.Sums.{sum_by-cons}
use Rattle.std.proofs.lemmas.List.Sorted.{sum_by-IsPermutation}
use Rattle.std.proofs.lemmas.Bool.{cases_lt}
use Rattle.std.proofs.lemmas.Grind.{flat_map-append}
use Rattle.std.specs.Int.{int_wrap}
use Rattle.std.specs.List.{AllPairs, sum_by}
use Rattle.std.specs.List.Sorted.{IsPermutation}
use Rattle.std.specs.Ordering.{int_eq, is_lt, is_eq, ordering_reverse}
use Rattle.std.specs.declared.cmp.Ordering.TheVariants.{Less, Equal, Greater}
use Rattle.geom_core.specs.declared.points.Pt.{Pt}
use Rattle.geom_core.specs.declared.triangles.Tri.{Tri}
use Rattle.geom_core.specs.EdgeSum.{edges_of}
use Rattle.geom_core.specs.Order.{is_before}
use Rattle.half_mesh.specs.declared.edges.Edge.{Edge}
use Rattle.half_mesh.specs.declared.terms.EdgeTerm.{EdgeTerm}
use Rattle.half_mesh.specs.Order.{edge_cmp}
use Rattle.half_mesh.specs.Rim.{EdgeSums, IsAscending, same_edge}
use Rattle.half_mesh.specs.Terms.{edge_of, term, term_of, terms_of, total_at, AreSmall, unless_cancelled, terms_in}
use Rattle.half_mesh.specs.Terms.{terms_in_all, IsByEdge, AddUpAlike, IsSumOf}
use Rattle.half_mesh.proofs.EdgeLaws.{edge_cmp-total, same_edge-is, same_edge-from, same_edge-before}
use Rattle.half_mesh.proofs.EdgeLaws.{derived_edge_eq, derived_edge_eq-is}
use Rattle.geom_core.proofs.PointLaws.{true≢false}

-- ---- what lists add up to

regrouped : (a b c : ℤ) → a +ℤ (b +ℤ c) ≡ (a +ℤ b) +ℤ c
regrouped a b c = omega (arith, ints)

add_nothing : (a : ℤ) → a +ℤ pos 0 ≡ a
add_nothing a = omega (arith, ints)

pub nothing_added : (a : ℤ) → pos 0 +ℤ a ≡ a
nothing_added a = omega (arith, ints)

pub total_at-append : (e : Edge) (xs ys : List EdgeTerm) → total_at e (xs ++ ys) ≡ total_at e xs +ℤ total_at e ys
unfolding total_at
total_at-append e [] ys = sym (nothing_added (total_at e ys))
total_at-append e (x ∷ xs) ys =
    ap (λ z. (cond (same_edge x.edge e) x.sum (pos 0)) +ℤ z) (total_at-append e xs ys) ∙
    regrouped (cond (same_edge x.edge e) x.sum (pos 0)) (total_at e xs) (total_at e ys)

pub total_at-one : (e : Edge) (t : EdgeTerm) → total_at e (t ∷ []) ≡ (cond (same_edge t.edge e) t.sum (pos 0))
unfolding total_at
total_at-one e t = add_nothing (cond (same_edge t.edge e) t.sum (pos 0))

pub total_at-push : (e : Edge) (xs : List EdgeTerm) (t : EdgeTerm) →
    total_at e (xs ++ t ∷ []) ≡ total_at e xs +ℤ (cond (same_edge t.edge e) t.sum (pos 0))
total_at-push e xs t = total_at-append e xs (t ∷ []) ∙ ap (λ z. total_at e xs +ℤ z) (total_at-one e t)

pub total_at-absent : (e : Edge) (xs : List EdgeTerm) → All (λ (t : EdgeTerm). same_edge t.edge e ≡ false) xs →
    total_at e xs ≡ pos 0
unfolding total_at
total_at-absent e [] none = refl
total_at-absent e (x ∷ xs) none =
    rw (All-head (λ (t : EdgeTerm). same_edge t.edge e ≡ false) x xs none)
    (nothing_added (total_at e xs) ∙ total_at-absent e xs
    (All-tail (λ (t : EdgeTerm). same_edge t.edge e ≡ false) x xs none))

-- ---- the order of the terms doesn't matter

above : ℤ → ℕ
above (pos n) = n
above (negsuc n) = 0

below : ℤ → ℕ
below (pos n) = 0
below (negsuc n) = suc n

abbrev ups : Edge → EdgeTerm → ℕ
ups e t = cond (same_edge t.edge e) (above t.sum) 0

abbrev downs : Edge → EdgeTerm → ℕ
downs e t = cond (same_edge t.edge e) (below t.sum) 0

total_at-parts : (e : Edge) (xs : List EdgeTerm) → total_at e xs ≡ pos (sum_by (ups e) xs) -ℤ pos (sum_by (downs e) xs)
unfolding total_at above below
total_at-parts e [] = refl
total_at-parts e (x ∷ xs) =
    rw (total_at-parts e xs, sum_by-cons (ups e) x xs, sum_by-cons (downs e) x xs) (by (same_edge x.edge e) x.sum)
  where
    by : (b : Bool) (s : ℤ) → (cond b s (pos 0)) +ℤ (pos (sum_by (ups e) xs) -ℤ pos (sum_by (downs e) xs)) ≡
        pos ((cond b (above s) 0) + sum_by (ups e) xs) -ℤ pos ((cond b (below s) 0) + sum_by (downs e) xs)
    by false s = omega (arith, ints)
    by true (pos n) = omega (arith, ints)
    by true (negsuc n) = omega (arith, ints)

pub total_at-IsPermutation : (e : Edge) (xs ys : List EdgeTerm) → IsPermutation xs ys → total_at e ys ≡ total_at e xs
total_at-IsPermutation e xs ys moved =
    rw (
      total_at-parts e xs,
      total_at-parts e ys,
      sum_by-IsPermutation (ups e) xs ys moved,
      sum_by-IsPermutation (downs e) xs ys moved,
    ) refl

pub IsSumOf-IsPermutation : (xs ys sums : List EdgeTerm) → IsPermutation xs ys → IsSumOf ys sums → IsSumOf xs sums
IsSumOf-IsPermutation xs ys sums moved added = record {
  ascending = added.ascending;
  some = added.some;
  small = added.small;
  total = λ e. added.total e ∙ ap (int_wrap w32) (total_at-IsPermutation e xs ys moved);
}

-- ---- adding up a sorted list, term by term

pub All-map : {X Y : Type 0} (P : Y → Type 0) (f : X → Y) (xs : List X) → All P (map f xs) → All (λ x. P (f x)) xs
All-map P f [] all k d in_bounds = absurd (omega arith)
All-map P f (x ∷ xs) all zero d in_bounds = All-head P (f x) (map f xs) all
All-map P f (x ∷ xs) all (suc k) d in_bounds =
    All-map P f xs (All-tail P (f x) (map f xs) all) k d (omega arith)

pub AllPairs-left : {X : Type 0} (R : X → X → Type 0) (xs ys : List X) → AllPairs R (xs ++ ys) → AllPairs R xs
AllPairs-left R xs ys all i j d below in_bounds =
    let i_in : i < length xs = omega arith in
    subst (λ x. R x (get_or xs j d)) (get_or_append_left xs ys d i i_in)
    (subst (λ y. R (get_or (xs ++ ys) i d) y) (get_or_append_left xs ys d j in_bounds)
    (all i j d below (omega (arith, length-append xs ys))))

pub AllPairs-last : {X : Type 0} (R : X → X → Type 0) (xs : List X) (y : X) → AllPairs R (xs ++ y ∷ []) →
    All (λ x. R x y) xs
AllPairs-last R xs y all i d in_bounds =
    subst (λ x. R x y) (get_or_append_left xs (y ∷ []) d i in_bounds)
    (subst (λ z. R (get_or (xs ++ y ∷ []) i d) z)
    (get_or-append_right xs (y ∷ []) (length xs) (length xs) d refl (omega arith) ∙ last)
    (all i (length xs) d in_bounds (omega (arith, length-append xs (y ∷ [])))))
  where
    last : get_or (y ∷ []) (length xs - length xs) d ≡ y
    last = let none : length xs - length xs ≡ 0 = omega arith in rw none refl

pub AllPairs-push : {X : Type 0} (R : X → X → Type 0) (xs : List X) (y : X) → AllPairs R xs → All (λ x. R x y) xs →
    AllPairs R (xs ++ y ∷ [])
AllPairs-push {X} R xs y all upto i j d below in_bounds =
    let len = length-append xs (y ∷ []) in
    let i_in : i < length xs = omega arith in
    elim (cases_lt j (length xs)) [
      | inl j_in ↦ rw (get_or_append_left xs (y ∷ []) d i i_in, get_or_append_left xs (y ∷ []) d j j_in)
          (all i j d below j_in)
      | inr j_past ↦
          let none : j - length xs ≡ 0 = omega arith in
          rw (
            get_or_append_left xs (y ∷ []) d i i_in,
            get_or-append_right xs (y ∷ []) (length xs) j d refl j_past,
            none,
          ) (upto i d i_in)
    ]

abbrev edges_in : List EdgeTerm → List Edge
edges_in terms = map (λ (t : EdgeTerm). t.edge) terms

pub nothing_to_add : (terms : List EdgeTerm) → length terms ≡ 0 → IsSumOf terms []
unfolding total_at
nothing_to_add (t ∷ terms) none = absurd (omega arith)
nothing_to_add [] none = record {
  ascending = λ i j d below in_bounds. absurd (omega arith);
  some = All-nil (λ (t : EdgeTerm). t.sum ≢ pos 0);
  small = All-nil (λ (t : EdgeTerm). FitsSigned w32 t.sum);
  total = λ e. sym (int_wrap_fits w32 (pos 0) zero_fits);
}
  where
    zero_fits : FitsSigned w32 (pos 0)
    zero_fits = omega (arith, ints)

-- the terms up to here: those of the last edge so far are in `last`, and those of earlier edges are added up
pub record IsAdding (taken sums : List EdgeTerm) (last : EdgeTerm) : Type 0 where
  pub ascending : IsAscending (edges_in sums ++ last.edge ∷ [])
  pub some : All (λ (t : EdgeTerm). t.sum ≢ pos 0) sums
  pub small : AreSmall (sums ++ last ∷ [])
  pub total : (e : Edge) → total_at e (sums ++ last ∷ []) ≡ int_wrap w32 (total_at e taken)

pub small_one : (t : EdgeTerm) → FitsSigned w32 t.sum → AreSmall (t ∷ [])
small_one t fits zero d in_bounds = fits
small_one t fits (suc k) d in_bounds = absurd (omega arith)

All-front : {X : Type 0} (P : X → Type 0) (xs ys : List X) → All P (xs ++ ys) → All P xs
All-front P xs ys all k d in_bounds =
    subst P (get_or_append_left xs ys d k in_bounds) (all k d (omega (arith, length-append xs ys)))

small_push : (sums : List EdgeTerm) (last t : EdgeTerm) → AreSmall (sums ++ last ∷ []) → FitsSigned w32 t.sum →
    AreSmall (sums ++ t ∷ [])
small_push sums last t small fits =
    All-append (λ (t : EdgeTerm). FitsSigned w32 t.sum) sums (t ∷ [])
    (All-front (λ (t : EdgeTerm). FitsSigned w32 t.sum) sums (last ∷ []) small) (small_one t fits)

pub adding_first : (first : EdgeTerm) → FitsSigned w32 first.sum → IsAdding (first ∷ []) [] first
adding_first first fits = record {
  ascending = λ i j d below in_bounds. absurd (omega arith);
  some = All-nil (λ (t : EdgeTerm). t.sum ≢ pos 0);
  small = small_one first fits;
  total =
      λ e. sym (int_wrap_fits w32 (total_at e (first ∷ []))
      (subst (FitsSigned w32) (sym (total_at-one e first)) (by (same_edge first.edge e))));
}
  where
    by : (b : Bool) → FitsSigned w32 (cond b first.sum (pos 0))
    by true = fits
    by false = omega (arith, ints)

-- what is added up before the last edge has nothing at it
before_last : (taken sums : List EdgeTerm) (last : EdgeTerm) → IsAdding taken sums last →
    All (λ (t : EdgeTerm). edge_cmp t.edge last.edge ≡ Less) sums
before_last taken sums last so_far =
    All-map (λ e. edge_cmp e last.edge ≡ Less) (λ (t : EdgeTerm). t.edge) sums
    (AllPairs-last (λ e f. edge_cmp e f ≡ Less) (edges_in sums) last.edge so_far.ascending)

none_before : (taken sums : List EdgeTerm) (last : EdgeTerm) → IsAdding taken sums last →
    total_at last.edge sums ≡ pos 0
none_before taken sums last so_far =
    total_at-absent last.edge sums
    (λ k d in_bounds. same_edge-before (get_or sums k d).edge last.edge
    (before_last taken sums last so_far k d in_bounds))

pub adding_same : (taken sums : List EdgeTerm) (last next : EdgeTerm) (sum : ℤ) → IsAdding taken sums last →
    same_edge next.edge last.edge ≡ true → sum ≡ int_wrap w32 (last.sum +ℤ next.sum) →
    IsAdding (taken ++ next ∷ []) sums (term last.edge sum)
adding_same taken sums last next sum so_far same is = record {
  ascending = so_far.ascending;
  some = so_far.some;
  small =
      small_push sums last (term last.edge sum) so_far.small
      (subst (FitsSigned w32) (sym is) (SFits-int_wrap w32 (last.sum +ℤ next.sum)));
  total = λ e. by e (same_edge last.edge e) refl;
}
  where
    here : next.edge ≡ last.edge
    here = same_edge-from next.edge last.edge same

    by : (e : Edge) (b : Bool) → same_edge last.edge e ≡ b →
        total_at e (sums ++ term last.edge sum ∷ []) ≡ int_wrap w32 (total_at e (taken ++ next ∷ []))
    by e false apart =
        let old : total_at e sums +ℤ pos 0 ≡ int_wrap w32 (total_at e taken) =
        rw apart at (sym (total_at-push e sums last) ∙ so_far.total e) in
        total_at-push e sums (term last.edge sum) ∙
        rw apart
        (old ∙ ap (int_wrap w32) (sym (total_at-push e taken next ∙
        rw (ap (λ f. same_edge f e) here ∙ apart) (add_nothing (total_at e taken)))))
    by e true at =
        let none : total_at e sums ≡ pos 0 =
        ap (λ f. total_at f sums) (sym (same_edge-from last.edge e at)) ∙ none_before taken sums last so_far in
        let old : total_at e sums +ℤ last.sum ≡ int_wrap w32 (total_at e taken) =
        rw at at (sym (total_at-push e sums last) ∙ so_far.total e) in
        let last_is : last.sum ≡ int_wrap w32 (total_at e taken) =
        sym (ap (λ z. z +ℤ last.sum) none ∙ nothing_added last.sum) ∙ old in
        total_at-push e sums (term last.edge sum) ∙
        rw at (ap (λ z. z +ℤ sum) none ∙ nothing_added sum ∙ is ∙
        ap (λ z. int_wrap w32 (z +ℤ next.sum)) last_is ∙ int_wrap-add_left w32 (total_at e taken) next.sum ∙
        ap (int_wrap w32) (sym (total_at-push e taken next ∙ rw (ap (λ f. same_edge f e) here ∙ at) refl)))

-- leaving out a sum of 0 changes nothing
pub total_at-unless_cancelled : (e : Edge) (sums : List EdgeTerm) (last : EdgeTerm) →
    total_at e (sums ++ unless_cancelled last) ≡ total_at e (sums ++ last ∷ [])
total_at-unless_cancelled e sums last = by (int_eq last.sum (pos 0)) refl
  where
    by : (b : Bool) → int_eq last.sum (pos 0) ≡ b →
        total_at e (sums ++ unless_cancelled last) ≡ total_at e (sums ++ last ∷ [])
    by false some = rw some refl
    by true none =
        let nothing : last.sum ≡ pos 0 = zero_from last.sum none in
        rw none (ap (total_at e) (append-nil sums) ∙
        sym (total_at-push e sums last ∙ rw nothing (whichever (same_edge last.edge e))))
      where
        zero_from : (k : ℤ) → int_eq k (pos 0) ≡ true → k ≡ pos 0
        zero_from k h = grind (arith, ints)

        whichever : (b : Bool) → total_at e sums +ℤ (cond b (pos 0) (pos 0)) ≡ total_at e sums
        whichever true = add_nothing (total_at e sums)
        whichever false = add_nothing (total_at e sums)

some_unless_cancelled : (sums : List EdgeTerm) (last : EdgeTerm) → All (λ (t : EdgeTerm). t.sum ≢ pos 0) sums →
    All (λ (t : EdgeTerm). t.sum ≢ pos 0) (sums ++ unless_cancelled last)
some_unless_cancelled sums last some =
    All-append (λ (t : EdgeTerm). t.sum ≢ pos 0) sums (unless_cancelled last) some (by (int_eq last.sum (pos 0)) refl)
  where
    by : (b : Bool) → int_eq last.sum (pos 0) ≡ b → All (λ (t : EdgeTerm). t.sum ≢ pos 0) (unless_cancelled last)
    by true none = rw none (All-nil (λ (t : EdgeTerm). t.sum ≢ pos 0))
    by false other = rw other one
      where
        one : All (λ (t : EdgeTerm). t.sum ≢ pos 0) (last ∷ [])
        one zero d in_bounds = λ none. true≢false (sym (ap (λ k. int_eq k (pos 0)) none) ∙ other)
        one (suc k) d in_bounds = absurd (omega arith)

ascends_unless_cancelled : (sums : List EdgeTerm) (last : EdgeTerm) → IsAscending (edges_in sums ++ last.edge ∷ []) →
    IsAscending (edges_in (sums ++ unless_cancelled last))
ascends_unless_cancelled sums last ascends = by (int_eq last.sum (pos 0)) refl
  where
    by : (b : Bool) → int_eq last.sum (pos 0) ≡ b → IsAscending (edges_in (sums ++ unless_cancelled last))
    by true none =
        rw (none, append-nil sums) (AllPairs-left (λ e f. edge_cmp e f ≡ Less) (edges_in sums) (last.edge ∷ []) ascends)
    by false other = rw (other, map-append (λ (t : EdgeTerm). t.edge) sums (last ∷ [])) ascends

pub small_unless_cancelled : (sums : List EdgeTerm) (last : EdgeTerm) → AreSmall (sums ++ last ∷ []) →
    AreSmall (sums ++ unless_cancelled last)
small_unless_cancelled sums last small = by (int_eq last.sum (pos 0)) refl
  where
    by : (b : Bool) → int_eq last.sum (pos 0) ≡ b → AreSmall (sums ++ unless_cancelled last)
    by true none =
        rw (none, append-nil sums) (All-front (λ (t : EdgeTerm). FitsSigned w32 t.sum) sums (last ∷ []) small)
    by false other = rw other small

-- all terms are added up
pub adding_end : (taken sums : List EdgeTerm) (last : EdgeTerm) → IsAdding taken sums last →
    IsSumOf taken (sums ++ unless_cancelled last)
adding_end taken sums last so_far = record {
  ascending = ascends_unless_cancelled sums last so_far.ascending;
  some = some_unless_cancelled sums last so_far.some;
  small = small_unless_cancelled sums last so_far.small;
  total = λ e. total_at-unless_cancelled e sums last ∙ so_far.total e;
}

pub adding_next : (taken sums : List EdgeTerm) (last next : EdgeTerm) → IsAdding taken sums last →
    edge_cmp last.edge next.edge ≡ Less → FitsSigned w32 next.sum →
    IsAdding (taken ++ next ∷ []) (sums ++ unless_cancelled last) next
adding_next taken sums last next so_far later fits = record {
  ascending =
      AllPairs-push (λ e f. edge_cmp e f ≡ Less)
      (edges_in (sums ++ unless_cancelled last)) next.edge ended.ascending all_before;
  some = ended.some;
  small =
      All-append (λ (t : EdgeTerm). FitsSigned w32 t.sum) (sums ++ unless_cancelled last) (next ∷ []) ended.small
      (small_one next fits);
  total = λ e. by e (same_edge next.edge e) refl;
}
  where
    ended : IsSumOf taken (sums ++ unless_cancelled last)
    ended = adding_end taken sums last so_far

    upto : All (λ e. edge_cmp e next.edge ≡ Less) (edges_in sums ++ last.edge ∷ [])
    upto = All-append (λ e. edge_cmp e next.edge ≡ Less) (edges_in sums) (last.edge ∷ [])
        (λ k d in_bounds. edge_cmp-total.trans (get_or (edges_in sums) k d) last.edge next.edge
        (AllPairs-last (λ e f. edge_cmp e f ≡ Less) (edges_in sums) last.edge so_far.ascending k d in_bounds) later)
        one
      where
        one : All (λ e. edge_cmp e next.edge ≡ Less) (last.edge ∷ [])
        one zero d in_bounds = later
        one (suc k) d in_bounds = absurd (omega arith)

    all_before : All (λ e. edge_cmp e next.edge ≡ Less) (edges_in (sums ++ unless_cancelled last))
    all_before = kept (int_eq last.sum (pos 0)) refl
      where
        kept : (b : Bool) → int_eq last.sum (pos 0) ≡ b →
            All (λ e. edge_cmp e next.edge ≡ Less) (edges_in (sums ++ unless_cancelled last))
        kept true none =
            rw (none, append-nil sums) (All-front (λ e. edge_cmp e next.edge ≡ Less) (edges_in sums)
            (last.edge ∷ []) upto)
        kept false other = rw (other, map-append (λ (t : EdgeTerm). t.edge) sums (last ∷ [])) upto

    none_at_next : total_at next.edge (sums ++ unless_cancelled last) ≡ pos 0
    none_at_next = total_at-absent next.edge (sums ++ unless_cancelled last)
        (λ k d in_bounds. same_edge-before (get_or (sums ++ unless_cancelled last) k d).edge next.edge
        (All-map (λ e. edge_cmp e next.edge ≡ Less) (λ (t : EdgeTerm). t.edge)
        (sums ++ unless_cancelled last) all_before k d in_bounds))

    by : (e : Edge) (b : Bool) → same_edge next.edge e ≡ b →
        total_at e ((sums ++ unless_cancelled last) ++ next ∷ []) ≡ int_wrap w32 (total_at e (taken ++ next ∷ []))
    by e false apart =
        total_at-push e (sums ++ unless_cancelled last) next ∙
        rw apart (add_nothing (total_at e (sums ++ unless_cancelled last)) ∙ ended.total e ∙
        ap (int_wrap w32) (sym (total_at-push e taken next ∙ rw apart (add_nothing (total_at e taken)))))
    by e true at =
        let none : total_at e (sums ++ unless_cancelled last) ≡ pos 0 =
        ap (λ f. total_at f (sums ++ unless_cancelled last)) (sym (same_edge-from next.edge e at)) ∙ none_at_next in
        total_at-push e (sums ++ unless_cancelled last) next ∙
        rw at (ap (λ z. z +ℤ next.sum) none ∙ nothing_added next.sum ∙
        sym (ap (int_wrap w32) (total_at-push e taken next ∙ rw at refl) ∙
        sym (int_wrap-add_left w32 (total_at e taken) next.sum) ∙
        ap (λ z. int_wrap w32 (z +ℤ next.sum)) (sym (ended.total e) ∙ none) ∙
        ap (int_wrap w32) (nothing_added next.sum) ∙ int_wrap_fits w32 next.sum fits))

-- the step of the loop, from what the code compares
pub later_from_sorted : (e f : Edge) → is_lt (edge_cmp f e) ≡ false → same_edge f e ≡ false → edge_cmp e f ≡ Less
later_from_sorted e f upto apart = by (edge_cmp f e) refl (sym (same_edge-is f e) ∙ apart)
  where
    by : (o : Ordering) → edge_cmp f e ≡ o → is_eq (edge_cmp f e) ≡ false → edge_cmp e f ≡ Less
    by Less is other = absurd (true≢false (sym (ap is_lt is) ∙ upto))
    by Equal is other = absurd (true≢false (sym (ap is_eq is) ∙ other))
    by Greater is other = edge_cmp-total.antisymm e f ∙ ap ordering_reverse is

-- ---- lists that add up alike

pub alike-append : (xs ys us vs : List EdgeTerm) → AddUpAlike xs ys → AddUpAlike us vs →
    AddUpAlike (xs ++ us) (ys ++ vs)
alike-append xs ys us vs front back e =
    ap (int_wrap w32) (total_at-append e xs us) ∙ wrapped (total_at e xs) (total_at e us) ∙
    ap (λ z. int_wrap w32 (z +ℤ int_wrap w32 (total_at e us))) (front e) ∙
    ap (λ z. int_wrap w32 (int_wrap w32 (total_at e ys) +ℤ z)) (back e) ∙
    sym (ap (int_wrap w32) (total_at-append e ys vs) ∙ wrapped (total_at e ys) (total_at e vs))
  where
    wrapped : (a b : ℤ) → int_wrap w32 (a +ℤ b) ≡ int_wrap w32 (int_wrap w32 a +ℤ int_wrap w32 b)
    wrapped a b = sym (int_wrap-add_left w32 a (int_wrap w32 b) ∙ int_wrap-add_right w32 a b)

-- ---- the loop that adds up

pub adding_start : (terms : List EdgeTerm) (first : EdgeTerm) (later sums : List EdgeTerm) → terms ≡ first ∷ later →
    AreSmall terms → sums ≡ [] →
    IsAdding (take 1 terms) sums (term first.edge (to_z w32 (of_z w32 first.sum))) ×
    ((d : EdgeTerm) → first.edge ≡ (get_or terms 0 d).edge)
adding_start terms first later sums whole small none =
    let fits : FitsSigned w32 first.sum =
    All-head (λ (t : EdgeTerm). FitsSigned w32 t.sum) first later (subst AreSmall whole small) in
    let cast : to_z w32 (of_z w32 first.sum) ≡ first.sum = to_z-of_z w32 first.sum fits in
    rw (whole, none, cast) (adding_first first fits, λ d. refl)

-- the loop's item, in the whole list
next_in : (terms : List EdgeTerm) (first : EdgeTerm) (later : List EdgeTerm) (i : ℕ) (d : EdgeTerm) →
    terms ≡ first ∷ later →
    get_or terms (i + 1) d ≡ get_or later i d
next_in terms first later i d whole =
    let next : i + 1 ≡ suc i = omega arith in
    ap (λ l. get_or l (i + 1) d) whole ∙ ap (λ k. get_or (first ∷ later) k d) next

in_terms : (terms : List EdgeTerm) (first : EdgeTerm) (later : List EdgeTerm) (i : ℕ) → terms ≡ first ∷ later →
    i < length later → i + 1 < length terms
in_terms terms first later i whole in_bounds = omega (arith, ap length whole)

one_more : (terms : List EdgeTerm) (first : EdgeTerm) (later : List EdgeTerm) (i : ℕ) (d : EdgeTerm) →
    terms ≡ first ∷ later → i < length later →
    take (i + 1 + 1) terms ≡ take (i + 1) terms ++ get_or later i d ∷ []
one_more terms first later i d whole in_bounds =
    take_more terms (i + 1) d (in_terms terms first later i whole in_bounds) ∙
    ap (λ t. take (i + 1) terms ++ t ∷ []) (next_in terms first later i d whole)

edge_next : (terms : List EdgeTerm) (first : EdgeTerm) (later : List EdgeTerm) (i : ℕ) (d d2 : EdgeTerm) →
    terms ≡ first ∷ later → i < length later →
    (get_or terms (i + 1) d2).edge ≡ (get_or later i d).edge
edge_next terms first later i d d2 whole in_bounds =
    ap (λ (t : EdgeTerm). t.edge) (get_or_default terms (i + 1) d2 d (in_terms terms first later i whole in_bounds) ∙
    next_in terms first later i d whole)

pub adding_equal : (terms : List EdgeTerm) (first : EdgeTerm) (later sums sums2 : List EdgeTerm) (edge edge2 : Edge)
    (bits : ℕ) (sum2 : ℤ) (i : ℕ) (d : EdgeTerm) →
    terms ≡ first ∷ later → AreSmall terms → i < length later →
    IsAdding (take (i + 1) terms) sums (term edge (to_z w32 bits)) × ((e : EdgeTerm) → edge ≡ (get_or terms i e).edge) →
    derived_edge_eq (get_or later i d).edge edge ≡ true → sums2 ≡ sums → edge2 ≡ edge → Fits w32 bits →
    sum2 ≡ to_z w32 ((bits + of_z w32 (get_or later i d).sum) % 2 ^ 32) →
    IsAdding (take (i + 1 + 1) terms) sums2 (term edge2 sum2) × ((e : EdgeTerm) → edge2 ≡ (get_or terms (i + 1) e).edge)
adding_equal terms first later sums sums2 edge edge2 bits sum2 i d whole small in_bounds so_far tie kept same known
    total =
    let next : EdgeTerm = get_or later i d in
    let fits : FitsSigned w32 next.sum =
    subst (λ (t : EdgeTerm). FitsSigned w32 t.sum) (next_in terms first later i d whole)
    (small (i + 1) d (in_terms terms first later i whole in_bounds)) in
    let is_edge : same_edge next.edge edge ≡ true = sym (derived_edge_eq-is next.edge edge) ∙ tie in
    rw (kept, same, one_more terms first later i d whole in_bounds) (
      adding_same (take (i + 1) terms) sums (term edge (to_z w32 bits)) next sum2 so_far.0 is_edge
          (total ∙ wrapping_add-bits w32 bits (of_z w32 next.sum) (omega (arith, known))
          (omega (arith, Fits-of_z fits)) ∙
          ap (λ z. int_wrap w32 (to_z w32 bits +ℤ z)) (to_z-of_z w32 next.sum fits)),
      λ e. sym (same_edge-from next.edge edge is_edge) ∙ sym (edge_next terms first later i d e whole in_bounds),
    )

pub adding_later : (terms : List EdgeTerm) (first : EdgeTerm) (later sums sums2 : List EdgeTerm) (edge edge2 : Edge)
    (sum sum2 : ℤ) (i : ℕ) (d : EdgeTerm) →
    terms ≡ first ∷ later → IsByEdge terms → AreSmall terms → i < length later →
    IsAdding (take (i + 1) terms) sums (term edge sum) × ((e : EdgeTerm) → edge ≡ (get_or terms i e).edge) →
    derived_edge_eq (get_or later i d).edge edge ≡ false → sums2 ≡ sums ++ unless_cancelled (term edge sum) →
    edge2 ≡ (get_or later i d).edge → sum2 ≡ to_z w32 (of_z w32 (get_or later i d).sum) →
    IsAdding (take (i + 1 + 1) terms) sums2 (term edge2 sum2) × ((e : EdgeTerm) → edge2 ≡ (get_or terms (i + 1) e).edge)
adding_later terms first later sums sums2 edge edge2 sum sum2 i d whole sorted small in_bounds so_far apart pushed same
    total =
    let next : EdgeTerm = get_or later i d in
    let inside = in_terms terms first later i whole in_bounds in
    let fits : FitsSigned w32 next.sum =
    subst (λ (t : EdgeTerm). FitsSigned w32 t.sum) (next_in terms first later i d whole) (small (i + 1) d inside) in
    let upto : is_lt (edge_cmp next.edge edge) ≡ false =
    ap (λ (t : EdgeTerm). is_lt (edge_cmp t.edge edge)) (sym (next_in terms first later i d whole)) ∙
    ap (λ f. is_lt (edge_cmp (get_or terms (i + 1) d).edge f)) (so_far.1 d) ∙ sorted i d (omega arith) inside in
    let is_later : edge_cmp edge next.edge ≡ Less =
    later_from_sorted edge next.edge upto (sym (derived_edge_eq-is next.edge edge) ∙ apart) in
    rw (pushed, same, total, to_z-of_z w32 next.sum fits, one_more terms first later i d whole in_bounds) (
      adding_next (take (i + 1) terms) sums (term edge sum) next so_far.0 is_later fits,
      λ e. sym (edge_next terms first later i d e whole in_bounds),
    )

pub adding_done : (terms : List EdgeTerm) (first : EdgeTerm) (later sums sums2 : List EdgeTerm) (edge : Edge) (sum : ℤ)
    (i : ℕ) →
    terms ≡ first ∷ later → length later ≤ i → IsAdding (take (i + 1) terms) sums (term edge sum) →
    sums2 ≡ sums ++ unless_cancelled (term edge sum) → IsSumOf terms sums2
adding_done terms first later sums sums2 edge sum i whole past so_far pushed =
    rw pushed (subst (λ l. IsSumOf l (sums ++ unless_cancelled (term edge sum)))
    (take_all (i + 1) terms (omega (arith, ap length whole)))
    (adding_end (take (i + 1) terms) sums (term edge sum) so_far))

-- ---- the terms of triangles are small

pub terms_small : (tris : List Tri) → AreSmall (flat_map terms_of tris)
unfolding terms_of edges_of term_of
terms_small [] = All-nil (λ (t : EdgeTerm). FitsSigned w32 t.sum)
terms_small (t ∷ tris) =
    All-append (λ (t : EdgeTerm). FitsSigned w32 t.sum) (terms_of t) (flat_map terms_of tris)
    (All-append (λ (t : EdgeTerm). FitsSigned w32 t.sum) (term_of (t.a, t.b))
    (term_of (t.b, t.c) ++ (term_of (t.c, t.a) ++ [])) (one t.a t.b)
    (All-append (λ (t : EdgeTerm). FitsSigned w32 t.sum) (term_of (t.b, t.c)) (term_of (t.c, t.a) ++ []) (one t.b t.c)
    (All-append (λ (t : EdgeTerm). FitsSigned w32 t.sum) (term_of (t.c, t.a)) [] (one t.c t.a)
    (All-nil (λ (t : EdgeTerm). FitsSigned w32 t.sum)))))
    (terms_small tris)
  where
    up : FitsSigned w32 (pos 1)
    up = omega (arith, ints)

    down : FitsSigned w32 (neg_ℤ (pos 1))
    down = omega (arith, ints)

    one : (u v : Pt) → AreSmall (term_of (u, v))
    one u v = by (is_before u v) (is_before v u) refl refl
      where
        by : (a b : Bool) → is_before u v ≡ a → is_before v u ≡ b → AreSmall (term_of (u, v))
        by true b h k = rw h (small_one (term (edge_of u v) (pos 1)) up)
        by false true h k = rw (h, k) (small_one (term (edge_of v u) (neg_ℤ (pos 1))) down)
        by false false h k = rw (h, k) (All-nil (λ (t : EdgeTerm). FitsSigned w32 t.sum))

-- ---- the terms of a rim

pub terms_in-more : (edges : List Edge) (sums : List ℤ) (i : ℕ) (d : Edge) (z : ℤ) → length sums ≡ length edges →
    i < length edges →
    terms_in (take (i + 1) edges) (take (i + 1) sums) ≡
    terms_in (take i edges) (take i sums) ++ term (get_or edges i d) (get_or sums i z) ∷ []
unfolding terms_in
terms_in-more [] sums i d z same in_bounds = absurd (omega arith)
terms_in-more (e ∷ edges) [] i d z same in_bounds = absurd (omega arith)
terms_in-more (e ∷ edges) (sum ∷ sums) zero d z same in_bounds = refl
terms_in-more (e ∷ edges) (sum ∷ sums) (suc i) d z same in_bounds =
    let next : suc i + 1 ≡ suc (i + 1) = omega arith in
    rw next (ap (λ l. term e sum ∷ l) (terms_in-more edges sums i d z (omega arith) (omega arith)))

pub terms_in-small : (edges : List Edge) (sums : List ℤ) → All (FitsSigned w32) sums → AreSmall (terms_in edges sums)
unfolding terms_in
terms_in-small [] sums small = All-nil (λ (t : EdgeTerm). FitsSigned w32 t.sum)
terms_in-small (e ∷ edges) [] small = All-nil (λ (t : EdgeTerm). FitsSigned w32 t.sum)
terms_in-small (e ∷ edges) (sum ∷ sums) small =
    All-append (λ (t : EdgeTerm). FitsSigned w32 t.sum) (term e sum ∷ []) (terms_in edges sums)
    (small_one (term e sum) (All-head (FitsSigned w32) sum sums small))
    (terms_in-small edges sums (All-tail (FitsSigned w32) sum sums small))

-- one more part
pub joining : (parts : List EdgeSums) (i : ℕ) (d : EdgeSums) (terms grown : List EdgeTerm) → i < length parts →
    terms ≡ terms_in_all (take i parts) × AreSmall terms →
    grown ≡ terms ++ terms_in (get_or parts i d).edges (get_or parts i d).sums →
    AreSmall (terms_in (get_or parts i d).edges (get_or parts i d).sums) →
    grown ≡ terms_in_all (take (i + 1) parts) × AreSmall grown
joining parts i d terms grown in_bounds so_far pushed small = (
  pushed ∙ ap (λ l. l ++ terms_in (get_or parts i d).edges (get_or parts i d).sums) so_far.0 ∙
      sym (ap terms_in_all (take_more parts i d in_bounds) ∙
      flat_map-append (λ (part : EdgeSums). terms_in part.edges part.sums) (take i parts) (get_or parts i d ∷ []) ∙
      ap (λ l. terms_in_all (take i parts) ++ l)
      (append-nil (terms_in (get_or parts i d).edges (get_or parts i d).sums))),
  rw pushed (All-append (λ (t : EdgeTerm). FitsSigned w32 t.sum) terms
      (terms_in (get_or parts i d).edges (get_or parts i d).sums) so_far.1 small),
)

pub terms_in-nothing : (terms : List EdgeTerm) → terms ++ terms_in [] [] ≡ terms
unfolding terms_in
terms_in-nothing terms = append-nil terms

-- one more edge of a rim
pub terms_in-pushed : (edges : List Edge) (sums : List ℤ) (old terms grown : List EdgeTerm) (i : ℕ) (d : Edge) (z : ℤ) →
    length sums ≡ length edges → All (FitsSigned w32) sums → i < length edges →
    terms ≡ old ++ terms_in (take i edges) (take i sums) →
    grown ≡ terms ++ term (get_or edges i d) (to_z w32 (of_z w32 (get_or sums i z))) ∷ [] →
    grown ≡ old ++ terms_in (take (i + 1) edges) (take (i + 1) sums)
terms_in-pushed edges sums old terms grown i d z same small in_bounds so_far pushed =
    let fits : FitsSigned w32 (get_or sums i z) = small i z (omega arith) in
    pushed ∙
    ap (λ s. terms ++ term (get_or edges i d) s ∷ []) (to_z-of_z w32 (get_or sums i z) fits) ∙
    ap (λ l. l ++ term (get_or edges i d) (get_or sums i z) ∷ []) so_far ∙
    append_assoc old (terms_in (take i edges) (take i sums)) (term (get_or edges i d) (get_or sums i z) ∷ []) ∙
    ap (λ l. old ++ l) (sym (terms_in-more edges sums i d z same in_bounds))

-- the same where the parts are read from a list
map_at : {X Y : Type 0} (f : X → Y) (xs : List X) (i : ℕ) (d : X) → get_or (map f xs) i (f d) ≡ f (get_or xs i d)
map_at f [] i d = refl
map_at f (x ∷ xs) zero d = refl
map_at f (x ∷ xs) (suc i) d = map_at f xs i d

map_length : {X Y : Type 0} (f : X → Y) (xs : List X) → length (map f xs) ≡ length xs
map_length f [] = refl
map_length f (x ∷ xs) = ap suc (map_length f xs)

pub joining_at : {X : Type 0} (f : X → EdgeSums) (xs : List X) (i : ℕ) (x : X) (terms grown : List EdgeTerm) →
    i < length xs →
    x ≡ get_or xs i x → terms ≡ terms_in_all (take i (map f xs)) × AreSmall terms →
    grown ≡ terms ++ terms_in (f x).edges (f x).sums → AreSmall (terms_in (f x).edges (f x).sums) →
    grown ≡ terms_in_all (take (i + 1) (map f xs)) × AreSmall grown
joining_at f xs i x terms grown in_bounds is so_far pushed small =
    let here : f x ≡ get_or (map f xs) i (f x) = ap f is ∙ sym (map_at f xs i x) in
    joining (map f xs) i (f x) terms grown (omega (arith, map_length f xs)) so_far
    (pushed ∙ ap (λ (p : EdgeSums). terms ++ terms_in p.edges p.sums) here)
    (subst (λ (p : EdgeSums). AreSmall (terms_in p.edges p.sums)) here small)

pub joining_done : {X : Type 0} (f : X → EdgeSums) (xs : List X) (i : ℕ) (terms : List EdgeTerm) → length xs ≤ i →
    terms ≡ terms_in_all (take i (map f xs)) → terms ≡ terms_in_all (map f xs)
joining_done f xs i terms past so_far =
    so_far ∙ ap terms_in_all (take_all i (map f xs) (omega (arith, map_length f xs)))

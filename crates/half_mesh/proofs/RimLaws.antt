-- Rims as functions of edges: the sums that a rim has, and the rim that has given sums.
use Rattle.std.proofs.Common.{◌≡◌, ◌≢◌, ℕ, zero, suc, ◌+◌, ◌<◌, ◌≤◌, Bool, true, false, ◌&&◌, ◌||◌, ℤ, pos, ◌+ℤ◌, ◌-ℤ◌}
use Rattle.std.proofs.Common.{neg_ℤ, List, [], ◌∷◌, ◌++◌, length, take, get_or, map, flat_map, All, Contains, ◌↔◌, cond}
use Rattle.std.proofs.Common.{Ordering, FitsSigned, w32, refl, sym, ap, ◌∙◌, subst, arith}
use Rattle.std.proofs.lemmas.Int.{ints, int_wrap_fits}
use Rattle.std.proofs.lemmas.Cmp.{eq_by_cmp_equiv}
use Rattle.std.proofs.lemmas.List.{append-nil, take_all, get_or_default}
use Rattle.std.proofs.lemmas.List.Elements.{All-nil, All-head, All-tail}
use Rattle.std.specs.Int.{int_wrap}
use Rattle.std.specs.Bool.{Decides}
use Rattle.std.specs.Cmp.{IsEquivalence}
use Rattle.std.specs.List.{AllPairs, AllByRecursion, dedup}
use Rattle.std.specs.List.Retain.{IsFiltered, DiffersFromLast}
use Rattle.std.specs.List.Sorted.{IsSorted, IsPermutation, IsStrictlySortedBy}
use Rattle.std.proofs.lemmas.List.Filters.{dedup_is}
use Rattle.std.proofs.lemmas.List.Kept.{AllPairs-cons, IsStrictlySortedBy-dedup, Contains-dedup, Contains-from_dedup}
use Rattle.std.proofs.lemmas.List.Sorted.{Contains-permutation, IsPermutation-sym}
use Rattle.std.specs.Ordering.{is_lt, is_eq, ordering_reverse}
use Rattle.std.specs.declared.cmp.Ordering.TheVariants.{Less, Equal, Greater}
use Rattle.geom_core.specs.declared.limits.TheConstants.{MAX_SUMMED_TRIANGLES}
use Rattle.geom_core.specs.declared.points.Pt.{Pt}
use Rattle.geom_core.specs.declared.triangles.Tri.{Tri}
use Rattle.geom_core.specs.EdgeSum.{same_point, edges_of, edge_count, edge_sum, is_rim_edge, OnRim}
use Rattle.geom_core.specs.Order.{is_before, point_cmp}
use Rattle.geom_core.proofs.EdgeSumLaws.{edge_sum-none, edge_sum-append, edge_sum-first, edge_count-one, edge_sum-same}
use Rattle.geom_core.proofs.EdgeSumLaws.{edge_sum-turned, is_rim_edge-turned}
use Rattle.geom_core.proofs.PointLaws.{true≢false, point_cmp-total, derived_eq, derived_eq-is, same_point-is}
use Rattle.geom_core.proofs.PointLaws.{same_point-from, before-from_is_before, is_before-itself, not_both, placed}
use Rattle.geom_core.proofs.PointLaws.Placed.{Before, Same, After}
use Rattle.geom_core.specs.Limits.{HasGridCorners, IsGridPoint, is_grid_point}
use Rattle.geom_core.specs.Corners.{has_corner, IsCornerIn}
use Rattle.geom_core.proofs.CollapseCorners.{at_corner}
use Rattle.half_mesh.specs.declared.edges.Edge.{Edge}
use Rattle.half_mesh.specs.declared.terms.EdgeTerm.{EdgeTerm}
use Rattle.half_mesh.specs.Order.{edge_cmp}
use Rattle.half_mesh.specs.Rim.{EdgeSums, edge_sums, IsAscending, IsRim, IsRimEdge, IsRimOf, sum_on, same_edge, sum_in}
use Rattle.half_mesh.specs.Rim.{sum_in_all, HaveSmallSums, AreRimsOf, all_of, ends_of}
use Rattle.half_mesh.specs.Terms.{edge_of, term, total_at, term_of, terms_of, terms_in, terms_in_all, AddUpAlike}
use Rattle.half_mesh.specs.Terms.{IsSumOf}
use Rattle.half_mesh.proofs.EdgeLaws.{edge_cmp-total, edge_from_equal, derived_edge_eq, derived_edge_eq-is}
use Rattle.half_mesh.proofs.EdgeLaws.{same_edge-from, same_edge-itself, same_edge-before, same_edge-after}
use Rattle.half_mesh.proofs.EdgeLaws.{rim_edge-from, rim_edge-some, zero_unless, edge_sum-fits}
use Rattle.half_mesh.proofs.TermLaws.{total_at-append, total_at-one}

add_nothing : (a : ℤ) → a +ℤ pos 0 ≡ a
add_nothing a = omega (arith, ints)

nothing_added : (a : ℤ) → pos 0 +ℤ a ≡ a
nothing_added a = omega (arith, ints)

-- ---- the sum of an edge among edges with sums

pub sum_in-terms : (e : Edge) (edges : List Edge) (sums : List ℤ) →
    total_at e (terms_in edges sums) ≡ sum_in e edges sums
unfolding total_at terms_in sum_in
sum_in-terms e [] sums = refl
sum_in-terms e (f ∷ edges) [] = refl
sum_in-terms e (f ∷ edges) (sum ∷ sums) =
    ap (λ z. (cond (same_edge f e) sum (pos 0)) +ℤ z) (sum_in-terms e edges sums)

pub sum_in-map : (e : Edge) (terms : List EdgeTerm) →
    sum_in e (map (λ (t : EdgeTerm). t.edge) terms) (map (λ (t : EdgeTerm). t.sum) terms) ≡ total_at e terms
unfolding total_at sum_in
sum_in-map e [] = refl
sum_in-map e (t ∷ terms) = ap (λ z. (cond (same_edge t.edge e) t.sum (pos 0)) +ℤ z) (sum_in-map e terms)

pub sum_in-absent : (e : Edge) (edges : List Edge) (sums : List ℤ) → All (λ f. same_edge f e ≡ false) edges →
    sum_in e edges sums ≡ pos 0
unfolding sum_in
sum_in-absent e [] sums none = refl
sum_in-absent e (f ∷ edges) [] none = refl
sum_in-absent e (f ∷ edges) (sum ∷ sums) none =
    rw (All-head (λ f. same_edge f e ≡ false) f edges none)
    (nothing_added (sum_in e edges sums) ∙ sum_in-absent e edges sums
    (All-tail (λ f. same_edge f e ≡ false) f edges none))

pub sum_in-contains : (e : Edge) (edges : List Edge) (sums : List ℤ) → sum_in e edges sums ≢ pos 0 → Contains edges e
unfolding sum_in
sum_in-contains e [] sums some = absurd (some refl)
sum_in-contains e (f ∷ edges) [] some = absurd (some refl)
sum_in-contains e (f ∷ edges) (sum ∷ sums) some = by (sum_in-contains e edges sums) (same_edge f e) refl
  where
    by : (sum_in e edges sums ≢ pos 0 → Contains edges e) → (b : Bool) → same_edge f e ≡ b → Contains (f ∷ edges) e
    by rest true here = (0, omega arith, same_edge-from f e here)
    by rest false apart =
        let there = rest (λ none. some (rw apart (nothing_added (sum_in e edges sums) ∙ none))) in
        (suc there.0, omega (arith, there.1), there.2)

-- an ascending list has an edge before those that follow it
ascending_first : (e : Edge) (edges : List Edge) → IsAscending (e ∷ edges) → All (λ f. edge_cmp e f ≡ Less) edges
ascending_first e edges ascending k d in_bounds = ascending 0 (suc k) d (omega arith) (omega arith)

ascending_rest : (e : Edge) (edges : List Edge) → IsAscending (e ∷ edges) → IsAscending edges
ascending_rest e edges ascending i j d below in_bounds = ascending (suc i) (suc j) d (omega arith) (omega arith)

first_sum : (e : Edge) (edges : List Edge) (sum : ℤ) (sums : List ℤ) → IsAscending (e ∷ edges) →
    sum_in e (e ∷ edges) (sum ∷ sums) ≡ sum
unfolding sum_in
first_sum e edges sum sums ascending =
    rw (same_edge-itself e)
    (ap (λ z. sum +ℤ z) (sum_in-absent e edges sums
    (λ k d in_bounds. same_edge-after (get_or edges k d) e (ascending_first e edges ascending k d in_bounds))) ∙
    add_nothing sum)

later_sum : (e f : Edge) (edges : List Edge) (sum : ℤ) (sums : List ℤ) → edge_cmp f e ≡ Less →
    sum_in e (f ∷ edges) (sum ∷ sums) ≡ sum_in e edges sums
unfolding sum_in
later_sum e f edges sum sums before = rw (same_edge-before f e before) (nothing_added (sum_in e edges sums))

-- the sums of a rim are those of its edges
pub sums-map : (edges : List Edge) (sums : List ℤ) → IsAscending edges → length sums ≡ length edges →
    (f : Edge → ℤ) → All (λ e. sum_in e edges sums ≡ f e) edges → sums ≡ map f edges
sums-map [] [] ascending same f all = refl
sums-map [] (sum ∷ sums) ascending same f all = absurd (omega arith)
sums-map (e ∷ edges) [] ascending same f all = absurd (omega arith)
sums-map (e ∷ edges) (sum ∷ sums) ascending same f all =
    ap (λ z. z ∷ sums)
    (sym (first_sum e edges sum sums ascending) ∙
    All-head (λ e2. sum_in e2 (e ∷ edges) (sum ∷ sums) ≡ f e2) e edges all) ∙
    ap (λ l. f e ∷ l) (sums-map edges sums (ascending_rest e edges ascending) (omega arith) f rest)
  where
    rest : All (λ g. sum_in g edges sums ≡ f g) edges
    rest k d in_bounds =
        sym (later_sum (get_or edges k d) e edges sum sums (ascending_first e edges ascending k d in_bounds)) ∙
        all (suc k) d (omega arith)

-- an edge of a rim has a sum that isn't 0
some_sums : (edges : List Edge) (sums : List ℤ) → IsAscending edges → length sums ≡ length edges →
    All (λ sum. sum ≢ pos 0) sums →
    All (λ e. sum_in e edges sums ≢ pos 0) edges
some_sums [] sums ascending same some k d in_bounds = absurd (omega arith)
some_sums (e ∷ edges) [] ascending same some k d in_bounds = absurd (omega arith)
some_sums (e ∷ edges) (sum ∷ sums) ascending same some zero d in_bounds =
    λ none. All-head (λ z. z ≢ pos 0) sum sums some (sym (first_sum e edges sum sums ascending) ∙ none)
some_sums (e ∷ edges) (sum ∷ sums) ascending same some (suc k) d in_bounds =
    let there : k < length edges = omega arith in
    λ none. some_sums edges sums (ascending_rest e edges ascending) (omega arith)
    (All-tail (λ z. z ≢ pos 0) sum sums some) k d there
    (sym (later_sum (get_or edges k d) e edges sum sums (ascending_first e edges ascending k d there)) ∙ none)

-- ---- two rims with the same sums are one

rest_alike : (e : Edge) (edges others : List Edge) (x : ℤ) (sums more : List ℤ) →
    IsAscending (e ∷ edges) → IsAscending (e ∷ others) →
    ((g : Edge) → sum_in g (e ∷ edges) (x ∷ sums) ≡ sum_in g (e ∷ others) (x ∷ more)) →
    (g : Edge) → sum_in g edges sums ≡ sum_in g others more
unfolding sum_in
rest_alike e edges others x sums more one other alike g =
    cancelled (cond (same_edge e g) x (pos 0)) (sum_in g edges sums) (sum_in g others more) (alike g)
  where
    cancelled : (a b c : ℤ) → a +ℤ b ≡ a +ℤ c → b ≡ c
    cancelled a b c h = omega (arith, ints)

-- what begins later has nothing at an earlier edge
none_earlier : (e f : Edge) (others : List Edge) (more : List ℤ) → IsAscending (f ∷ others) → edge_cmp e f ≡ Less →
    sum_in e (f ∷ others) more ≡ pos 0
none_earlier e f others more ascending before = sum_in-absent e (f ∷ others) more apart
  where
    apart : All (λ g. same_edge g e ≡ false) (f ∷ others)
    apart zero d in_bounds = same_edge-after f e before
    apart (suc k) d in_bounds =
        let there : k < length others = omega arith in
        same_edge-after (get_or others k d) e
        (edge_cmp-total.trans e f (get_or others k d) before (ascending_first f others ascending k d there))

pub same_rim : (edges others : List Edge) (sums more : List ℤ) → IsRim edges sums → IsRim others more →
    ((e : Edge) → sum_in e edges sums ≡ sum_in e others more) → (edges ≡ others) × (sums ≡ more)
same_rim [] [] [] [] one other alike = (refl, refl)
same_rim [] others (x ∷ sums) more one other alike = absurd (let h = one.one_each in omega arith)
same_rim [] [] [] (y ∷ more) one other alike = absurd (let h = other.one_each in omega arith)
same_rim [] (f ∷ others) [] [] one other alike = absurd (let h = other.one_each in omega arith)
same_rim [] (f ∷ others) [] (y ∷ more) one other alike =
    absurd (All-head (λ z. z ≢ pos 0) y more other.some
    (sym (first_sum f others y more other.ascending) ∙ sym (alike f) ∙
    sum_in-absent f [] [] (All-nil (λ g. same_edge g f ≡ false))))
same_rim (e ∷ edges) others [] more one other alike = absurd (let h = one.one_each in omega arith)
same_rim (e ∷ edges) [] (x ∷ sums) (y ∷ more) one other alike = absurd (let h = other.one_each in omega arith)
same_rim (e ∷ edges) [] (x ∷ sums) [] one other alike =
    absurd (All-head (λ z. z ≢ pos 0) x sums one.some
    (sym (first_sum e edges x sums one.ascending) ∙ alike e ∙
    sum_in-absent e [] [] (All-nil (λ g. same_edge g e ≡ false))))
same_rim (e ∷ edges) (f ∷ others) (x ∷ sums) [] one other alike = absurd (let h = other.one_each in omega arith)
same_rim (e ∷ edges) (f ∷ others) (x ∷ sums) (y ∷ more) one other alike =
    by (same_rim edges others sums more) (edge_cmp e f) refl
  where
    x_some : x ≢ pos 0
    x_some = All-head (λ z. z ≢ pos 0) x sums one.some

    y_some : y ≢ pos 0
    y_some = All-head (λ z. z ≢ pos 0) y more other.some

    by : (IsRim edges sums → IsRim others more → ((g : Edge) → sum_in g edges sums ≡ sum_in g others more) →
        (edges ≡ others) × (sums ≡ more)) →
        (o : Ordering) → edge_cmp e f ≡ o → (e ∷ edges ≡ f ∷ others) × (x ∷ sums ≡ y ∷ more)
    by rest_same Less is =
        absurd (x_some (sym (first_sum e edges x sums one.ascending) ∙ alike e ∙
        none_earlier e f others (y ∷ more) other.ascending is))
    by rest_same Greater is =
        absurd (y_some (sym (first_sum f others y more other.ascending) ∙ sym (alike f) ∙
        none_earlier f e edges (x ∷ sums) one.ascending (edge_cmp-total.antisymm f e ∙ ap ordering_reverse is)))
    by rest_same Equal is = joined (edge_from_equal e f is)
      where
        joined : e ≡ f → (e ∷ edges ≡ f ∷ others) × (x ∷ sums ≡ y ∷ more)
        joined here =
            let ascends : IsAscending (e ∷ others) = subst (λ g. IsAscending (g ∷ others)) (sym here) other.ascending in
            let alike_e : (g : Edge) → sum_in g (e ∷ edges) (x ∷ sums) ≡ sum_in g (e ∷ others) (y ∷ more) =
            λ g. alike g ∙ ap (λ h. sum_in g (h ∷ others) (y ∷ more)) (sym here) in
            let same : x ≡ y =
            sym (first_sum e edges x sums one.ascending) ∙ alike_e e ∙ first_sum e others y more ascends in
            let rest = rest_same
            (record {
              ascending = ascending_rest e edges one.ascending;
              one_each = (let h = one.one_each in omega arith);
              some = All-tail (λ z. z ≢ pos 0) x sums one.some;
            })
            (record {
              ascending = ascending_rest e others ascends;
              one_each = (let h = other.one_each in omega arith);
              some = All-tail (λ z. z ≢ pos 0) y more other.some;
            })
            (rest_alike e edges others x sums more one.ascending ascends
            (λ g. alike_e g ∙ ap (λ z. sum_in g (e ∷ others) (z ∷ more)) (sym same))) in
            (ap (λ h. h ∷ edges) here ∙ ap (λ l. f ∷ l) rest.0, ap (λ z. z ∷ sums) same ∙ ap (λ l. y ∷ l) rest.1)

-- ---- the sums of triangles

-- the sum from u to v where u comes first, and else 0
abbrev pub sum_ahead : List Tri → Edge → ℤ
sum_ahead tris e = cond (is_before e.u e.v) (edge_sum tris e.u e.v) (pos 0)

is_before-from : (p q : Pt) → point_cmp p q ≡ Less → is_before p q ≡ true
is_before-from p q less = ap is_lt less

zero_or_rim : (tris : List Tri) (u v : Pt) → (edge_sum tris u v ≡ pos 0 → ⊥) → is_rim_edge tris u v ≡ true
zero_or_rim tris u v some = rim_edge-from tris u v some

-- edges with the sums of the triangles are their rim
pub rim_from_sums : (tris : List Tri) (edges : List Edge) (sums : List ℤ) → IsRim edges sums →
    ((e : Edge) → sum_in e edges sums ≡ sum_ahead tris e) → IsRimOf tris edges sums
rim_from_sums tris edges sums rim is = record {
  ascending = rim.ascending;
  sound = sound;
  complete = λ e wanted. sum_in-contains e edges sums
      (λ none. rim_edge-some tris e.u e.v wanted.1 (sym (is e ∙ rw (is_before-from e.u e.v wanted.0) refl) ∙ none));
  summed = sums-map edges sums rim.ascending rim.one_each (sum_on tris)
      (λ k d in_bounds. is (get_or edges k d) ∙ rw (before_at (get_or edges k d) (some_at k d in_bounds)) refl);
}
  where
    some_at : All (λ e. sum_in e edges sums ≢ pos 0) edges
    some_at = some_sums edges sums rim.ascending rim.one_each rim.some

    before_at : (e : Edge) → sum_in e edges sums ≢ pos 0 → is_before e.u e.v ≡ true
    before_at e some = by (is_before e.u e.v) refl
      where
        by : (b : Bool) → is_before e.u e.v ≡ b → is_before e.u e.v ≡ true
        by true before = before
        by false upto = absurd (some (is e ∙ rw upto refl))

    sound : All (IsRimEdge tris) edges
    sound k d in_bounds =
        let e : Edge = get_or edges k d in
        let some : sum_in e edges sums ≢ pos 0 = some_at k d in_bounds in
        let before : is_before e.u e.v ≡ true = before_at e some in (
          before-from_is_before e.u e.v before,
          rim_edge-from tris e.u e.v (λ none. some (is e ∙ rw before none)),
        )

-- the rim of triangles is a rim, with their sums
pub IsRimOf-IsRim : (tris : List Tri) (edges : List Edge) (sums : List ℤ) → IsRimOf tris edges sums → IsRim edges sums
IsRimOf-IsRim tris edges sums rim = record {
  ascending = rim.ascending;
  one_each = ap length rim.summed ∙ same_length edges;
  some = subst (λ l. All (λ sum. sum ≢ pos 0) l) (sym rim.summed) (some edges rim.sound);
}
  where
    same_length : (edges : List Edge) → length (map (sum_on tris) edges) ≡ length edges
    same_length [] = refl
    same_length (e ∷ edges) = ap suc (same_length edges)

    some : (edges : List Edge) → All (IsRimEdge tris) edges → All (λ sum. sum ≢ pos 0) (map (sum_on tris) edges)
    some [] all k d in_bounds = absurd (omega arith)
    some (e ∷ edges) all zero d in_bounds = rim_edge-some tris e.u e.v (All-head (IsRimEdge tris) e edges all).1
    some (e ∷ edges) all (suc k) d in_bounds = some edges (All-tail (IsRimEdge tris) e edges all) k d (omega arith)

sum_of_map : (f : Edge → ℤ) (edges : List Edge) → IsAscending edges → (e : Edge) → Contains edges e →
    sum_in e edges (map f edges) ≡ f e
sum_of_map f [] ascending e (k, in_bounds, here) = absurd (omega arith)
sum_of_map f (g ∷ edges) ascending e (zero, in_bounds, here) =
    ap (λ h. sum_in h (g ∷ edges) (f g ∷ map f edges)) (sym here) ∙ first_sum g edges (f g) (map f edges) ascending ∙
    ap f here
sum_of_map f (g ∷ edges) ascending e (suc k, in_bounds, here) =
    let there : k < length edges = omega arith in
    let before : edge_cmp g e ≡ Less =
    ap (λ h. edge_cmp g h) (sym here) ∙ ascending_first g edges ascending k e there in
    later_sum e g edges (f g) (map f edges) before ∙
    sum_of_map f edges (ascending_rest g edges ascending) e (k, there, here)

pub sums_from_rim : (tris : List Tri) (edges : List Edge) (sums : List ℤ) → IsRimOf tris edges sums →
    (e : Edge) → sum_in e edges sums ≡ sum_ahead tris e
sums_from_rim tris edges sums rim e = ap (sum_in e edges) rim.summed ∙ by (is_before e.u e.v) refl
  where
    absent : (Contains edges e → ⊥) → sum_in e edges (map (sum_on tris) edges) ≡ pos 0
    absent out =
        zero_unless (sum_in e edges (map (sum_on tris) edges))
        (λ some. out (sum_in-contains e edges (map (sum_on tris) edges) some))

    wanted : Contains edges e → IsRimEdge tris e
    wanted (k, in_bounds, here) = subst (IsRimEdge tris) here (rim.sound k e in_bounds)

    by : (b : Bool) → is_before e.u e.v ≡ b → sum_in e edges (map (sum_on tris) edges) ≡ sum_ahead tris e
    by false upto = absent (λ there. true≢false (sym (is_before-from e.u e.v (wanted there).0) ∙ upto)) ∙ rw upto refl
    by true before = rw before (on (is_rim_edge tris e.u e.v) refl)
      where
        on : (b : Bool) → is_rim_edge tris e.u e.v ≡ b →
            sum_in e edges (map (sum_on tris) edges) ≡ edge_sum tris e.u e.v
        on true some =
            sum_of_map (sum_on tris) edges rim.ascending e (rim.complete e (before-from_is_before e.u e.v before, some))
        on false none =
            absent (λ there. true≢false (sym (wanted there).1 ∙ none)) ∙
            sym (zero_unless (edge_sum tris e.u e.v)
            (λ some. true≢false (sym (rim_edge-from tris e.u e.v some) ∙ none)))

-- two lists have the same rim where their sums agree
pub same_rim-from : (tris others : List Tri) (edges : List Edge) (sums : List ℤ) (edges2 : List Edge) (sums2 : List ℤ) →
    IsRimOf tris edges sums → IsRimOf others edges2 sums2 → ((u v : Pt) → edge_sum tris u v ≡ edge_sum others u v) →
    (edges ≡ edges2) × (sums ≡ sums2)
same_rim-from tris others edges sums edges2 sums2 one other agree =
    same_rim edges edges2 sums sums2 (IsRimOf-IsRim tris edges sums one) (IsRimOf-IsRim others edges2 sums2 other)
    (λ e. sums_from_rim tris edges sums one e ∙
    ap (λ z. cond (is_before e.u e.v) z (pos 0)) (agree e.u e.v) ∙
    sym (sums_from_rim others edges2 sums2 other e))

pub sums_agree : (tris others : List Tri) (edges : List Edge) (sums : List ℤ) →
    IsRimOf tris edges sums → IsRimOf others edges sums → (u v : Pt) → edge_sum tris u v ≡ edge_sum others u v
sums_agree tris others edges sums one other u v = elim (placed u v) [
  | Before h ↦ ahead u v h
  | Same h ↦
      ap (λ w. edge_sum tris u w) (sym h) ∙ edge_sum-same tris u ∙ sym (edge_sum-same others u) ∙
      ap (λ w. edge_sum others u w) h
  | After h ↦ edge_sum-turned tris v u ∙ ap neg_ℤ (ahead v u h) ∙ sym (edge_sum-turned others v u)
]
  where
    ahead : (u v : Pt) → is_before u v ≡ true → edge_sum tris u v ≡ edge_sum others u v
    ahead u v before =
        let same : sum_ahead tris (edge_of u v) ≡ sum_ahead others (edge_of u v) =
        sym (sums_from_rim tris edges sums one (edge_of u v)) ∙ sums_from_rim others edges sums other (edge_of u v) in
        rw before at same

-- ---- the terms of triangles

abbrev one_if : Bool → ℤ
one_if b = pos (cond b 1 0)

both-false : (a b : Bool) → (a ≡ true → b ≡ true → ⊥) → a && b ≡ false
both-false true true never = absurd (never refl refl)
both-false true false never = refl
both-false false b never = refl

-- a point before another isn't what comes after it
turned-false : (p q x y : Pt) → is_before p q ≡ true → is_before x y ≡ true → same_point p y && same_point q x ≡ false
turned-false p q x y before ahead = both-false (same_point p y) (same_point q x)
    (λ first second. true≢false (sym before ∙ ap (λ w. is_before w q) (same_point-from p y first) ∙
    ap (λ w. is_before y w) (same_point-from q x second) ∙ not_both x y ahead))

-- points in order aren't two that aren't
unordered-false : (p q x y : Pt) → is_before p q ≡ true → is_before x y ≡ false →
    same_point p x && same_point q y ≡ false
unordered-false p q x y before upto = both-false (same_point p x) (same_point q y)
    (λ first second. true≢false (sym before ∙ ap (λ w. is_before w q) (same_point-from p x first) ∙
    ap (λ w. is_before x w) (same_point-from q y second) ∙ upto))

-- one point isn't two
one-false : (p x y : Pt) → is_before x y ≡ true → same_point p x && same_point p y ≡ false
one-false p x y before = both-false (same_point p x) (same_point p y)
    (λ first second. true≢false (sym before ∙ ap (λ w. is_before w y) (sym (same_point-from p x first)) ∙
    ap (λ w. is_before p w) (sym (same_point-from p y second)) ∙ is_before-itself p))

and-turned : (a b : Bool) → a && b ≡ b && a
and-turned true true = refl
and-turned true false = refl
and-turned false true = refl
and-turned false false = refl

-- a directed edge counts 1 along it, and -1 against it
term_of-sum : (e : Edge) (u v : Pt) → is_before e.u e.v ≡ true →
    total_at e (term_of (u, v)) ≡ one_if (same_point u e.u && same_point v e.v) -ℤ one_if
    (same_point u e.v && same_point v e.u)
unfolding term_of total_at
term_of-sum e u v before = elim (placed u v) [
  | Before h ↦
      rw (h, turned-false u v e.u e.v h before)
      (total_at-one e (term (edge_of u v) (pos 1)) ∙ along (same_point u e.u && same_point v e.v))
  | Same h ↦ subst (λ w. Adds u w) h same
  | After h ↦
      rw (
        not_both v u h,
        h,
        and-turned (same_point u e.u) (same_point v e.v),
        turned-false v u e.u e.v h before,
        and-turned (same_point u e.v) (same_point v e.u),
      )
      (total_at-one e (term (edge_of v u) (neg_ℤ (pos 1))) ∙ back (same_point v e.u && same_point u e.v))
]
  where
    Adds : Pt → Pt → Type 0
    Adds u v =
        total_at e (cond (is_before u v) (term (edge_of u v) (pos 1) ∷ [])
        (cond (is_before v u) (term (edge_of v u) (neg_ℤ (pos 1)) ∷ []) [])) ≡
        one_if (same_point u e.u && same_point v e.v) -ℤ one_if (same_point u e.v && same_point v e.u)

    same : Adds u u
    same = rw (is_before-itself u, and-turned (same_point u e.v) (same_point u e.u), one-false u e.u e.v before) refl

    along : (b : Bool) → (cond b (pos 1) (pos 0)) ≡ one_if b -ℤ pos 0
    along true = refl
    along false = refl

    back : (b : Bool) → (cond b (neg_ℤ (pos 1)) (pos 0)) ≡ pos 0 -ℤ one_if b
    back true = refl
    back false = refl

term_of-none : (e : Edge) (u v : Pt) → is_before e.u e.v ≡ false → total_at e (term_of (u, v)) ≡ pos 0
unfolding term_of total_at
term_of-none e u v upto = elim (placed u v) [
  | Before h ↦
      rw h (total_at-one e (term (edge_of u v) (pos 1)) ∙ rw (unordered-false u v e.u e.v h upto) refl)
  | Same h ↦ subst (λ w. None u w) h same
  | After h ↦
      rw (not_both v u h, h) (total_at-one e (term (edge_of v u) (neg_ℤ (pos 1))) ∙
      rw (unordered-false v u e.u e.v h upto) refl)
]
  where
    None : Pt → Pt → Type 0
    None u v =
        total_at e (cond (is_before u v) (term (edge_of u v) (pos 1) ∷ [])
        (cond (is_before v u) (term (edge_of v u) (neg_ℤ (pos 1)) ∷ []) [])) ≡ pos 0

    same : None u u
    same = rw (is_before-itself u) refl

three : (e : Edge) (a b c : List EdgeTerm) →
    total_at e (a ++ (b ++ (c ++ []))) ≡ total_at e a +ℤ (total_at e b +ℤ total_at e c)
three e a b c =
    total_at-append e a (b ++ (c ++ [])) ∙
    ap (λ z. total_at e a +ℤ z) (total_at-append e b (c ++ []) ∙ ap (λ l. total_at e b +ℤ total_at e l) (append-nil c))

terms_of-sum : (e : Edge) (t : Tri) → is_before e.u e.v ≡ true → total_at e (terms_of t) ≡ edge_sum (t ∷ []) e.u e.v
unfolding terms_of edges_of edge_sum
terms_of-sum e t before =
    three e (term_of (t.a, t.b)) (term_of (t.b, t.c)) (term_of (t.c, t.a)) ∙
    rw (
      term_of-sum e t.a t.b before,
      term_of-sum e t.b t.c before,
      term_of-sum e t.c t.a before,
      edge_count-one t e.u e.v,
      edge_count-one t e.v e.u,
    )
    (added (cond (same_point t.a e.u && same_point t.b e.v) 1 0) (cond (same_point t.b e.u && same_point t.c e.v) 1 0)
    (cond (same_point t.c e.u && same_point t.a e.v) 1 0) (cond (same_point t.a e.v && same_point t.b e.u) 1 0)
    (cond (same_point t.b e.v && same_point t.c e.u) 1 0) (cond (same_point t.c e.v && same_point t.a e.u) 1 0))
  where
    added : (a b c x y z : ℕ) → (pos a -ℤ pos x) +ℤ ((pos b -ℤ pos y) +ℤ (pos c -ℤ pos z)) ≡ pos (a + b + c) -ℤ pos
        (x + y + z)
    added a b c x y z = omega (arith, ints)

terms_of-none : (e : Edge) (t : Tri) → is_before e.u e.v ≡ false → total_at e (terms_of t) ≡ pos 0
unfolding terms_of edges_of
terms_of-none e t upto =
    three e (term_of (t.a, t.b)) (term_of (t.b, t.c)) (term_of (t.c, t.a)) ∙
    rw (term_of-none e t.a t.b upto, term_of-none e t.b t.c upto, term_of-none e t.c t.a upto) refl

-- the terms of triangles have their edge sums
pub all_terms-sum : (e : Edge) (tris : List Tri) → total_at e (flat_map terms_of tris) ≡ sum_ahead tris e
unfolding total_at
all_terms-sum e tris = by (is_before e.u e.v) refl
  where
    ahead : is_before e.u e.v ≡ true → (tris : List Tri) → total_at e (flat_map terms_of tris) ≡ edge_sum tris e.u e.v
    ahead before [] = sym (edge_sum-none e.u e.v)
    ahead before (t ∷ tris) =
        total_at-append e (terms_of t) (flat_map terms_of tris) ∙
        rw (terms_of-sum e t before, ahead before tris) (sym (edge_sum-first t tris e.u e.v))

    nothing : is_before e.u e.v ≡ false → (tris : List Tri) → total_at e (flat_map terms_of tris) ≡ pos 0
    nothing upto [] = refl
    nothing upto (t ∷ tris) =
        total_at-append e (terms_of t) (flat_map terms_of tris) ∙
        rw (terms_of-none e t upto, nothing upto tris) refl

    by : (b : Bool) → is_before e.u e.v ≡ b → total_at e (flat_map terms_of tris) ≡ sum_ahead tris e
    by true before = ahead before tris ∙ rw before refl
    by false upto = nothing upto tris ∙ rw upto refl

pub sum_ahead-fits : (tris : List Tri) (e : Edge) → length tris ≤ MAX_SUMMED_TRIANGLES →
    FitsSigned w32 (sum_ahead tris e)
sum_ahead-fits tris e few = by (is_before e.u e.v) refl
  where
    by : (b : Bool) → is_before e.u e.v ≡ b → FitsSigned w32 (sum_ahead tris e)
    by true before = rw before (edge_sum-fits tris e.u e.v before few)
    by false upto = rw upto zero_fits
      where
        zero_fits : FitsSigned w32 (pos 0)
        zero_fits = omega (arith, ints)

-- what the terms of triangles add up to is their rim
pub rim_from_terms : (tris : List Tri) (terms : List EdgeTerm) (edges : List Edge) (sums : List ℤ) → IsRim edges sums →
    ((e : Edge) → sum_in e edges sums ≡ int_wrap w32 (total_at e terms)) → AddUpAlike terms (flat_map terms_of tris) →
    length tris ≤ MAX_SUMMED_TRIANGLES → IsRimOf tris edges sums
rim_from_terms tris terms edges sums rim total alike few =
    rim_from_sums tris edges sums rim
    (λ e. total e ∙ alike e ∙ ap (int_wrap w32) (all_terms-sum e tris) ∙
    int_wrap_fits w32 (sum_ahead tris e) (sum_ahead-fits tris e few))

-- ---- joined rims

pub sum_in_all-terms : (e : Edge) (parts : List EdgeSums) → total_at e (terms_in_all parts) ≡ sum_in_all e parts
unfolding total_at sum_in_all
sum_in_all-terms e [] = refl
sum_in_all-terms e (part ∷ parts) =
    total_at-append e (terms_in part.edges part.sums) (terms_in_all parts) ∙
    rw (sum_in-terms e part.edges part.sums, sum_in_all-terms e parts) refl

pub sum_in_all-rims : (e : Edge) (lists : List (List Tri)) (parts : List EdgeSums) → AreRimsOf lists parts →
    sum_in_all e parts ≡ sum_ahead (all_of lists) e
unfolding sum_in_all AreRimsOf
sum_in_all-rims e [] [] are = sym (whichever (is_before e.u e.v))
  where
    whichever : (b : Bool) → (cond b (edge_sum [] e.u e.v) (pos 0)) ≡ pos 0
    whichever true = edge_sum-none e.u e.v
    whichever false = refl
sum_in_all-rims e [] (part ∷ parts) are = absurd are
sum_in_all-rims e (tris ∷ lists) [] are = absurd are
sum_in_all-rims e (tris ∷ lists) (part ∷ parts) are =
    rw (sums_from_rim tris part.edges part.sums are.0 e, sum_in_all-rims e lists parts are.1) (by (is_before e.u e.v))
  where
    by : (b : Bool) → (cond b (edge_sum tris e.u e.v) (pos 0)) +ℤ (cond b (edge_sum (all_of lists) e.u e.v) (pos 0)) ≡
        (cond b (edge_sum (tris ++ all_of lists) e.u e.v) (pos 0))
    by true = sym (edge_sum-append tris (all_of lists) e.u e.v)
    by false = refl

pub few_have_small_sums : (lists : List (List Tri)) (parts : List EdgeSums) → AreRimsOf lists parts →
    length (all_of lists) ≤ MAX_SUMMED_TRIANGLES → HaveSmallSums parts
few_have_small_sums lists parts are few e =
    subst (FitsSigned w32) (sym (sum_in_all-rims e lists parts are)) (sum_ahead-fits (all_of lists) e few)

pub rim_from_parts : (lists : List (List Tri)) (parts : List EdgeSums) (terms : List EdgeTerm) (edges : List Edge)
    (sums : List ℤ) →
    HaveSmallSums parts → terms ≡ terms_in_all parts → IsRim edges sums →
    ((e : Edge) → sum_in e edges sums ≡ int_wrap w32 (total_at e terms)) → AreRimsOf lists parts →
    IsRimOf (all_of lists) edges sums
rim_from_parts lists parts terms edges sums small is rim total are =
    rim_from_sums (all_of lists) edges sums rim
    (λ e. total e ∙ ap (λ l. int_wrap w32 (total_at e l)) is ∙ ap (int_wrap w32) (sum_in_all-terms e parts) ∙
    int_wrap_fits w32 (sum_in_all e parts) (small e) ∙ sum_in_all-rims e lists parts are)

-- ---- the points on a rim

u_among : (edges : List Edge) (e : Edge) → Contains edges e → Contains (ends_of edges) e.u
u_among [] e (k, in_bounds, here) = absurd (omega arith)
u_among (f ∷ fs) e (zero, in_bounds, here) = (0, omega arith, ap (λ (g : Edge). g.u) here)
u_among (f ∷ fs) e (suc k, in_bounds, here) =
    let rest = u_among fs e (k, omega arith, here) in
    (suc (suc rest.0), omega (arith, rest.1), rest.2)

v_among : (edges : List Edge) (e : Edge) → Contains edges e → Contains (ends_of edges) e.v
v_among [] e (k, in_bounds, here) = absurd (omega arith)
v_among (f ∷ fs) e (zero, in_bounds, here) = (1, omega arith, ap (λ (g : Edge). g.v) here)
v_among (f ∷ fs) e (suc k, in_bounds, here) =
    let rest = v_among fs e (k, omega arith, here) in
    (suc (suc rest.0), omega (arith, rest.1), rest.2)

on_rim-from : (tris : List Tri) (edges : List Edge) (p : Pt) → All (IsRimEdge tris) edges →
    Contains (ends_of edges) p → OnRim tris p
on_rim-from tris [] p all (k, in_bounds, here) = absurd (omega arith)
on_rim-from tris (f ∷ fs) p all (zero, in_bounds, here) =
    (f.v, ap (λ u. is_rim_edge tris u f.v) (sym here) ∙ (All-head (IsRimEdge tris) f fs all).1)
on_rim-from tris (f ∷ fs) p all (suc zero, in_bounds, here) = (
  f.u,
  ap (λ v. is_rim_edge tris v f.u) (sym here) ∙ is_rim_edge-turned tris f.u f.v ∙
      (All-head (IsRimEdge tris) f fs all).1,
)
on_rim-from tris (f ∷ fs) p all (suc (suc k), in_bounds, here) =
    on_rim-from tris fs p (All-tail (IsRimEdge tris) f fs all) (k, omega arith, here)

pub ends_on_rim : (tris : List Tri) (edges : List Edge) (sums : List ℤ) → IsRimOf tris edges sums → (p : Pt) →
    Contains (ends_of edges) p ↔ OnRim tris p
ends_on_rim tris edges sums rim p = (on_rim-from tris edges p rim.sound, back)
  where
    back : OnRim tris p → Contains (ends_of edges) p
    back (q, some) = elim (placed p q) [
      | Before h ↦ u_among edges (edge_of p q) (rim.complete (edge_of p q) (before-from_is_before p q h, some))
      | Same h ↦ absurd (rim_edge-some tris p q some (ap (λ v. edge_sum tris p v) (sym h) ∙ edge_sum-same tris p))
      | After h ↦ v_among edges (edge_of q p) (rim.complete (edge_of q p)
          (before-from_is_before q p h, is_rim_edge-turned tris p q ∙ some))
    ]

-- ---- a sorted list without repeats

all_from : {X : Type 0} (P : X → Type 0) (xs : List X) → AllByRecursion P xs → All P xs
all_from P [] all k d in_bounds = absurd (omega arith)
all_from P (x ∷ xs) all zero d in_bounds = all.0
all_from P (x ∷ xs) all (suc k) d in_bounds = all_from P xs all.1 k d (omega arith)

pairs_from_strict : {X : Type 0} (c : X → X → Ordering) (xs : List X) → IsStrictlySortedBy c xs →
    AllPairs (λ x y. c x y ≡ Less) xs
unfolding IsStrictlySortedBy
pairs_from_strict c [] strict = λ i j d below in_bounds. absurd (omega arith)
pairs_from_strict {X} c (x ∷ xs) strict =
    AllPairs-cons (λ (y z : X). c y z ≡ Less) x xs (all_from (λ (y : X). c x y ≡ Less) xs strict.0)
    (pairs_from_strict c xs strict.1)

ties : (p q : Pt) → derived_eq p q ≡ is_eq (point_cmp p q)
ties p q = derived_eq-is p q ∙ same_point-is p q

point-from-eq : (p q : Pt) → derived_eq p q ≡ true → p ≡ q
point-from-eq p q same = same_point-from p q (sym (derived_eq-is p q) ∙ same)

-- what a sort and then dedup leave of the ends of edges
pub record ArePointsOf (ends points : List Pt) : Type 0 where
  pub ascending : AllPairs (λ p q. point_cmp p q ≡ Less) points
  pub same : (p : Pt) → Contains points p ↔ Contains ends p

pub points_from_sorted : (ends sorted points : List Pt) → IsPermutation ends sorted → IsSorted point_cmp sorted →
    IsFiltered (DiffersFromLast derived_eq) [] sorted points → ArePointsOf ends points
points_from_sorted ends sorted points moved in_order filtered =
    rw (dedup_is derived_eq sorted points filtered) (record {
      ascending =
          pairs_from_strict point_cmp (dedup derived_eq sorted)
          (IsStrictlySortedBy-dedup point_cmp-total ties sorted in_order);
      same = λ p. (
        λ there. Contains-permutation sorted ends p (IsPermutation-sym ends sorted moved)
            (Contains-from_dedup derived_eq sorted p there),
        λ there. Contains-dedup equivalence point-from-eq sorted p (Contains-permutation ends sorted p moved there),
      );
    })
  where
    equivalence : IsEquivalence derived_eq
    equivalence =
        let e = eq_by_cmp_equiv point_cmp-total in
        record {
          refl = λ p. ties p p ∙ e.refl p;
          symm = λ p q. ties p q ∙ e.symm p q ∙ sym (ties q p);
          congr = λ p q r same. ties p r ∙ e.congr p q r (sym (ties p q) ∙ same) ∙ sym (ties q r);
        }

-- ---- edges and sums, each in a list

pub record IsSplit (terms : List EdgeTerm) (edges : List Edge) (sums : List ℤ) : Type 0 where
  pub rim : IsRim edges sums
  pub small : All (FitsSigned w32) sums
  pub total : (e : Edge) → sum_in e edges sums ≡ int_wrap w32 (total_at e terms)

map_all : {X Y : Type 0} (P : Y → Type 0) (f : X → Y) (xs : List X) → All (λ x. P (f x)) xs → All P (map f xs)
map_all P f [] all k d in_bounds = absurd (omega arith)
map_all P f (x ∷ xs) all zero d in_bounds = All-head (λ x. P (f x)) x xs all
map_all P f (x ∷ xs) all (suc k) d in_bounds = map_all P f xs (All-tail (λ x. P (f x)) x xs all) k d (omega arith)

pub split_is : (terms total : List EdgeTerm) (edges : List Edge) (sums : List ℤ) (i : ℕ) → IsSumOf terms total →
    length total ≤ i →
    edges ≡ map (λ (t : EdgeTerm). t.edge) (take i total) → sums ≡ map (λ (t : EdgeTerm). t.sum) (take i total) →
    IsSplit terms edges sums
split_is terms total edges sums i added past are_edges are_sums =
    rw (are_edges, are_sums, take_all i total past) (record {
      rim = record {
        ascending = added.ascending;
        one_each = same_length total;
        some = map_all (λ z. z ≢ pos 0) (λ (t : EdgeTerm). t.sum) total added.some;
      };
      small = map_all (FitsSigned w32) (λ (t : EdgeTerm). t.sum) total added.small;
      total = λ e. sum_in-map e total ∙ added.total e;
    })
  where
    same_length : (total : List EdgeTerm) → length (map (λ (t : EdgeTerm). t.sum) total) ≡ length
        (map (λ (t : EdgeTerm). t.edge) total)
    same_length [] = refl
    same_length (t ∷ total) = ap suc (same_length total)

-- ---- whether two rims are one

pub edge_decides : (e f : Edge) → Decides (derived_edge_eq e f) (e ≡ f)
edge_decides e f = (
  λ same. same_edge-from e f (sym (derived_edge_eq-is e f) ∙ same),
  λ same. derived_edge_eq-is e f ∙ ap (λ g. same_edge g f) same ∙ same_edge-itself f,
)

-- what two tests in turn answer
pub same_edges_first : (edges others : List Edge) (sums more : List ℤ) (a b : Bool) → Decides a (edges ≡ others) →
    Decides b (sums ≡ more) →
    a ≡ true → (b ≡ true) ↔ (edge_sums edges sums ≡ edge_sums others more)
same_edges_first edges others sums more a b first then same = (
  λ yes. both (first.0 same) (then.0 yes),
  λ one. then.1 (ap (λ (r : EdgeSums). r.sums) one),
)
  where
    both : edges ≡ others → sums ≡ more → edge_sums edges sums ≡ edge_sums others more
    both h k = ap (λ l. edge_sums l sums) h ∙ ap (λ l. edge_sums others l) k

pub other_edges : (edges others : List Edge) (sums more : List ℤ) (a : Bool) → Decides a (edges ≡ others) → a ≡ false →
    (a ≡ true) ↔ (edge_sums edges sums ≡ edge_sums others more)
other_edges edges others sums more a first apart = (
  λ yes. absurd (true≢false (sym yes ∙ apart)),
  λ one. first.1 (ap (λ (r : EdgeSums). r.edges) one),
)

pub same_where_sums_agree : (r : Bool) (one other : EdgeSums) → (r ≡ true) ↔ (one ≡ other) → (tris others : List Tri) →
    IsRimOf tris one.edges one.sums → IsRimOf others other.edges other.sums →
    (r ≡ true) ↔ ((u v : Pt) → edge_sum tris u v ≡ edge_sum others u v)
same_where_sums_agree r one other same tris others first second = (
  λ yes. sums_agree tris others one.edges one.sums first
      (subst (λ (z : EdgeSums). IsRimOf others z.edges z.sums) (sym (same.0 yes)) second),
  λ agree.
      let h = same_rim-from tris others one.edges one.sums other.edges other.sums first second agree in
      same.1 (ap (λ l. edge_sums l one.sums) h.0 ∙ ap (λ l. edge_sums other.edges l) h.1),
)

-- ---- laws

pub law-rims_are_determined : (tris others : List Tri) (rim other : EdgeSums) → IsRimOf tris rim.edges rim.sums →
    IsRimOf others other.edges other.sums → (rim ≡ other) ↔ ((u v : Pt) → edge_sum tris u v ≡ edge_sum others u v)
law-rims_are_determined tris others rim other first second = (
  λ same. sums_agree tris others rim.edges rim.sums first
      (subst (λ (z : EdgeSums). IsRimOf others z.edges z.sums) (sym same) second),
  λ agree.
      let h = same_rim-from tris others rim.edges rim.sums other.edges other.sums first second agree in
      ap (λ l. edge_sums l rim.sums) h.0 ∙ ap (λ l. edge_sums other.edges l) h.1,
)

pub law-ends_are_on_rim : (tris : List Tri) (rim : EdgeSums) → IsRimOf tris rim.edges rim.sums → (p : Pt) →
    Contains (ends_of rim.edges) p ↔ OnRim tris p
law-ends_are_on_rim tris rim is = ends_on_rim tris rim.edges rim.sums is

-- a triangle without corner p has no edge at p
no_edge : (t : Tri) (p q : Pt) → has_corner p t ≡ false → edge_sum (t ∷ []) p q ≡ pos 0
unfolding has_corner edge_sum
no_edge t p q none = by (same_point t.a p) (same_point t.b p) (same_point t.c p) refl refl refl none
  where
    never : (b : Bool) → b && false ≡ false
    never true = refl
    never false = refl

    by : (x y z : Bool) → same_point t.a p ≡ x → same_point t.b p ≡ y → same_point t.c p ≡ z → x || y || z ≡ false →
        pos (edge_count (t ∷ []) p q) -ℤ pos (edge_count (t ∷ []) q p) ≡ pos 0
    by true true z a b c h = absurd (true≢false h)
    by true false z a b c h = absurd (true≢false h)
    by false true z a b c h = absurd (true≢false h)
    by false false true a b c h = absurd (true≢false h)
    by false false false a b c h =
        rw (
          edge_count-one t p q,
          edge_count-one t q p,
          a,
          b,
          c,
          never (same_point t.a q),
          never (same_point t.b q),
          never (same_point t.c q),
        ) refl

pub corner_of : (tris : List Tri) (p q : Pt) → edge_sum tris p q ≢ pos 0 → IsCornerIn tris p
corner_of [] p q some = absurd (some (edge_sum-none p q))
corner_of (t ∷ tris) p q some = by (corner_of tris p q) (has_corner p t) refl
  where
    by : (edge_sum tris p q ≢ pos 0 → IsCornerIn tris p) → (b : Bool) → has_corner p t ≡ b → IsCornerIn (t ∷ tris) p
    by rest true here = (0, t, omega arith, refl, here)
    by rest false none =
        let there = rest (λ nothing. some (edge_sum-first t tris p q ∙ rw (no_edge t p q none, nothing) refl)) in
        (suc there.0, there.1, omega (arith, there.2), there.3, there.4)

all_contained : {X : Type 0} (P : X → Type 0) (xs : List X) → ((x : X) → Contains xs x → P x) → All P xs
all_contained P xs each k d in_bounds =
    each (get_or xs k d) (k, in_bounds, get_or_default xs k (get_or xs k d) d in_bounds)

pub law-ends_are_corners : (tris : List Tri) (rim : EdgeSums) → IsRimOf tris rim.edges rim.sums →
    All (IsCornerIn tris) (ends_of rim.edges)
law-ends_are_corners tris rim is =
    all_contained (IsCornerIn tris) (ends_of rim.edges)
    (λ p there.
    let on = (ends_on_rim tris rim.edges rim.sums is p).0 there in
    corner_of tris p on.0 (rim_edge-some tris p on.0 on.1))

grid_corner : (t : Tri) (p : Pt) → HasGridCorners t → has_corner p t ≡ true → IsGridPoint p
grid_corner t p in_grid here =
    let each = parts (is_grid_point t.a) (is_grid_point t.b) (is_grid_point t.c) in_grid in
    at_corner IsGridPoint p t each.0 each.1 each.2 here
  where
    parts : (a b c : Bool) → a && b && c ≡ true → (a ≡ true) × (b ≡ true) × (c ≡ true)
    parts true true true h = (refl, refl, refl)
    parts true true false h = absurd (cc h)
    parts true false c h = absurd (cc h)
    parts false b c h = absurd (cc h)

pub law-ends_are_grid_points : (tris : List Tri) (rim : EdgeSums) → IsRimOf tris rim.edges rim.sums →
    All HasGridCorners tris → All IsGridPoint (ends_of rim.edges)
law-ends_are_grid_points tris rim is in_grid k d in_bounds =
    let corner = law-ends_are_corners tris rim is k d in_bounds in
    grid_corner corner.1 (get_or (ends_of rim.edges) k d)
    (subst HasGridCorners corner.3 (in_grid corner.0 corner.1 corner.2)) corner.4

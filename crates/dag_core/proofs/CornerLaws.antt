-- The triangles of a sound DAG lie near their source triangles.
use Rattle.std.proofs.Common.{◌≡◌, ◌==◌, ◌<◌, ◌+◌, ◌∙◌, ◌++◌, ◌∷◌, [], ap, sym, refl, subst, flat_map, ℕ, zero, suc}
use Rattle.std.proofs.Common.{Bool, true, false, not, ◌&&◌, List, length, nat_lt, All, arith, get_or, slice_index_or}
use Rattle.std.specs.List.{list_all, range_with_len}
use Rattle.std.proofs.lemmas.Bool.{and_parts}
use Rattle.std.proofs.lemmas.Bool.Decides.{nat_tests}
use Rattle.std.proofs.lemmas.Grind.{flat_map-append}
use Rattle.std.proofs.lemmas.List.{length-map}
use Rattle.std.proofs.lemmas.List.Concat.{flat_map_single}
use Rattle.std.proofs.lemmas.List.Elements.{All-cons, All-head, All-nil, All-tail}
use Rattle.std.proofs.lemmas.List.FromFn.{get_or-map-range_with_len}
use Rattle.geom_core.specs.declared.triangles.Tri.{Tri}
use Rattle.geom_core.specs.declared.triangles.Tagged.{Tagged}
use Rattle.geom_core.specs.TaggedLists.{tris_of}
use Rattle.dag_core.specs.declared.dags.Dag.{Dag}
use Rattle.dag_core.specs.Cuts.{IsNearSource}
use Rattle.dag_core.specs.TriangleRules.{IsSourcedTriangle, Sound, breaks_corners, breaks_source, error_of, is_near}
use Rattle.dag_core.specs.TriangleRules.{is_near_source}
use Rattle.dag_core.specs.Triangles.{leaf_tris_from, source_of, tris_at}
use Rattle.dag_core.proofs.CutEdgeLaws.{all_at}
use Rattle.dag_core.proofs.ListSteps.{range_more}

-- ---- lists of one triangle each

flat_alike : (lists others : ℕ → List Tri) (n : ℕ) → ((k : ℕ) → k < n → lists k ≡ others k) →
    flat_map lists (range_with_len 0 n) ≡ flat_map others (range_with_len 0 n)
flat_alike lists others zero same = refl
flat_alike lists others (suc n) same =
    let grown : suc n ≡ n + 1 = omega arith in
    let more : range_with_len 0 (suc n) ≡ range_with_len 0 n ++ n ∷ [] = ap (range_with_len 0) grown ∙ range_more n in
    ap (flat_map lists) more
    ∙ (flat_map-append lists (range_with_len 0 n) (n ∷ [])
    ∙ (ap (λ ts. ts ++ flat_map lists (n ∷ [])) (flat_alike lists others n (λ k below. same k (omega arith)))
    ∙ (ap (λ ts. flat_map others (range_with_len 0 n) ++ (ts ++ [])) (same n (omega arith))
    ∙ (sym (flat_map-append others (range_with_len 0 n) (n ∷ [])) ∙ ap (flat_map others) (sym more)))))

one_of : (tris : List Tri) (other : Tri) → length tris ≡ 1 → tris ≡ get_or tris 0 other ∷ []
one_of [] other one = absurd (omega arith)
one_of (t ∷ []) other one = refl
one_of (t ∷ s ∷ tris) other one = absurd (omega arith)

single_at : (lists : ℕ → List Tri) (n k : ℕ) (other : Tri) → ((s : ℕ) → s < n → length (lists s) ≡ 1) → k < n →
    get_or (flat_map lists (range_with_len 0 n)) k other ≡ get_or (lists k) 0 other
single_at lists n k other ones below =
    ap (λ ts. get_or ts k other)
    (flat_alike lists (λ s. get_or (lists s) 0 other ∷ []) n (λ s within. one_of (lists s) other (ones s within))
    ∙ flat_map_single (λ s. get_or (lists s) 0 other) (range_with_len 0 n))
    ∙ get_or-map-range_with_len (λ s. get_or (lists s) 0 other) 0 n k k other below (omega arith)

-- ---- the rules on sources and corners

within_test : (k n : ℕ) (b : Bool) → k < n → (nat_lt k n && not b) ≡ false → b ≡ true
within_test k n true below kept = refl
within_test k n false below kept = grind (arith, nat_tests)

one_leaf : (dag : Dag) (source : ℕ) → Sound dag → source < dag.heads.sources → length (leaf_tris_from dag source) ≡ 1
unfolding breaks_source
one_leaf dag source sound below =
    number (length (leaf_tris_from dag source))
    (within_test source dag.heads.sources (length (leaf_tris_from dag source) == 1) below (sound.rules 7 source)) where
      number : (n : ℕ) → (n == 1) ≡ true → n ≡ 1
      number n is = grind (arith, nat_tests)

near_corners : (dag : Dag) (c : ℕ) → Sound dag → c < length dag.heads.clusters →
    list_all (is_near_source dag (error_of dag.heads c)) (tris_at dag c) ≡ true
unfolding breaks_corners
near_corners dag c sound below =
    within_test c (length dag.heads.clusters) (list_all (is_near_source dag (error_of dag.heads c))
    (tris_at dag c)) below (sound.rules 8 c)

first_of_all : (near : Tagged → Bool) (leaves : List Tagged) (other : Tri) → length leaves ≡ 1 →
    list_all near leaves ≡ true →
    (leaf : Tagged) × (leaf.tri ≡ get_or (tris_of leaves) 0 other) × (near leaf ≡ true)
first_of_all near [] other one all = absurd (omega arith)
first_of_all near (leaf ∷ leaves) other one all = (leaf, refl, (and_parts (near leaf) (list_all near leaves) all).0)

near_one : (dag : Dag) (most : ℕ) (t : Tagged) (other : Tri) → Sound dag → t.source < dag.heads.sources →
    is_near_source dag most t ≡ true →
    is_near most t.tri (slice_index_or (source_of dag) t.source other) ≡ true
unfolding is_near_source
near_one dag most t other sound below near =
    let leaf = first_of_all (λ s. is_near most t.tri s.tri) (leaf_tris_from dag t.source) other
    (one_leaf dag t.source sound below) near in
    let there : slice_index_or (source_of dag) t.source other ≡ get_or (tris_of (leaf_tris_from dag t.source)) 0 other =
    single_at (λ source. tris_of (leaf_tris_from dag source)) dag.heads.sources t.source other
    (λ s within. length-map (leaf_tris_from dag s) (λ (t : Tagged). t.tri) ∙ one_leaf dag s sound within) below in
    subst (λ s. is_near most t.tri s ≡ true) (leaf.1 ∙ sym there) leaf.2

near_all : (dag : Dag) (most : ℕ) (tris : List Tagged) (other : Tri) → Sound dag →
    All (IsSourcedTriangle dag.heads.sources) tris →
    list_all (is_near_source dag most) tris ≡ true → All (IsNearSource dag most other) tris
near_all dag most [] other sound sourced near = All-nil (IsNearSource dag most other)
near_all dag most (t ∷ tris) other sound sourced near =
    let both = and_parts (is_near_source dag most t) (list_all (is_near_source dag most) tris) near in
    All-cons (IsNearSource dag most other) t tris
    (near_one dag most t other sound (All-head (IsSourcedTriangle dag.heads.sources) t tris sourced).source both.0)
    (near_all dag most tris other sound (All-tail (IsSourcedTriangle dag.heads.sources) t tris sourced) both.1)

-- each corner of a cluster's triangles is within its maker's error of the same corner of the source triangle
pub corners_stay_within : (dag : Dag) (c : ℕ) (other : Tri) → Sound dag → c < length dag.heads.clusters →
    All (IsNearSource dag (error_of dag.heads c) other) (tris_at dag c)
corners_stay_within dag c other sound below =
    near_all dag (error_of dag.heads c) (tris_at dag c) other sound
    (all_at (IsSourcedTriangle dag.heads.sources) dag.tris c sound.laid_out.triangles)
    (near_corners dag c sound below)

-- The places of leaf triangles, one triangle more at a time.
use Rattle.std.proofs.Common.{◌⊎◌, inl, inr, pos, ◌≡◌, ◌≢◌, ◌≤◌, ◌<◌, ◌+◌, ℕ, Bool, true, false, eqb, List, [], ◌∷◌}
use Rattle.std.proofs.Common.{◌++◌, length, take}
use Rattle.std.proofs.Common.{filter, set, replicate, get_or, is_none, refl, sym, ap, ◌∙◌, subst, arith, cond}
use Rattle.std.specs.List.{range_with_len}
use Rattle.std.proofs.lemmas.Bool.Decides.{nat_tests}
use Rattle.std.proofs.lemmas.List.{append-nil, append_assoc, get_or_default, get_or-replicate, get_or-set_other}
use Rattle.std.proofs.lemmas.List.{get_or-set_same, length-append, length-replicate, length-set}
use Rattle.std.proofs.lemmas.List.Concat.{flat_map-append}
use Rattle.std.proofs.lemmas.List.Elements.{filter-append, filter_more}
use Rattle.geom_core.specs.declared.points.Pt.{Pt}
use Rattle.geom_core.specs.declared.triangles.Tagged.{Tagged}
use Rattle.dag_core.specs.declared.dags.Dag.{Dag}
use Rattle.dag_core.specs.declared.heads.Heads.{Heads}
use Rattle.dag_core.specs.Members.{cluster_at}
use Rattle.dag_core.specs.TriangleRules.{IsLaidOut, IsSourcedTriangle}
use Rattle.dag_core.specs.Triangles.{tris_at, tris_in}
use Rattle.dag_core.proofs.CutEdgeLaws.{all_at}
use Rattle.dag_core.proofs.MarkLaws.{filter_skip, filter_step}
use Rattle.dag_soundness.specs.declared.leaf_places.LeafPlace.{LeafPlace}
use Rattle.dag_soundness.specs.declared.leaf_places.LeafPlace.TheVariants.{Missing, At, Repeated}
use Rattle.dag_soundness.specs.Internal.LeafPlaces.{ArePlacesFor, IsAlone, IsPlaceOf, place_with, from_source}

-- one triangle more, which is that of this cluster at this place in it
pub place-more : (dag : Dag) (found : List Tagged) (place : LeafPlace) (cluster triangle : ℕ) (t : Tagged) →
    cluster < length dag.tris → triangle < length (tris_at dag cluster) →
    ((none : Tagged) → t ≡ get_or (tris_at dag cluster) triangle none) → IsPlaceOf dag found place →
    IsPlaceOf dag (found ++ t ∷ []) (place_with place cluster triangle)
place-more dag found Missing cluster triangle t c_below t_below is place = record {
  cluster_range = c_below;
  triangle_range = t_below;
  alone = λ none. ap (λ (found : List Tagged). found ++ t ∷ []) place ∙ ap (λ (t : Tagged). t ∷ []) (is none);
}
place-more dag found (At other before) cluster triangle t c_below t_below is place =
    let one : length found ≡ 1 = ap length (place.alone t) in
    omega (arith, one, length-append found (t ∷ []))
place-more dag found Repeated cluster triangle t c_below t_below is place =
    omega (arith, place, length-append found (t ∷ []))

pub from_source-more : (tris : List Tagged) (k source : ℕ) (none : Tagged) → k < length tris →
    from_source (take (k + 1) tris) source ≡ from_source (take k tris) source
    ++ cond (eqb (get_or tris k none).source source) (get_or tris k none ∷ []) []
from_source-more tris k source none below = filter_more (λ (t : Tagged). eqb t.source source) tris k none below

-- the leaves among the clusters before c
abbrev pub leaves_before : Heads → ℕ → List ℕ
leaves_before heads c = filter (λ k. is_none (cluster_at heads k).made) (range_with_len 0 c)

-- ---- a cluster's triangles, as they are read

pub tris-read : (dag : Dag) (cluster : ℕ) (lists : List (List Tagged)) (item tris : List Tagged) →
    cluster < length dag.tris → lists ≡ dag.tris → item ≡ get_or lists cluster item → tris ≡ item →
    tris ≡ tris_at dag cluster
tris-read dag cluster lists item tris below all at is =
    is ∙ (at ∙ (ap (λ (ls : List (List Tagged)). get_or ls cluster item) all
    ∙ get_or_default dag.tris cluster item [] below))

pub source_below : (dag : Dag) (cluster k : ℕ) (none : Tagged) → IsLaidOut dag → k < length (tris_at dag cluster) →
    (get_or (tris_at dag cluster) k none).source < dag.heads.sources
source_below dag cluster k none laid_out below =
    (all_at (IsSourcedTriangle dag.heads.sources) dag.tris cluster laid_out.triangles k none below).source

same_from : (m n : ℕ) → eqb m n ≡ true → m ≡ n
same_from m n is = grind (arith, nat_tests)

differ_from : (m n : ℕ) → eqb m n ≡ false → n ≢ m
differ_from m n is = grind (arith, nat_tests)

-- ---- the places of all sources

-- one triangle more: its source has one more, and the others have as many
pub places-more : (dag : Dag) (found : ℕ → List Tagged) (places : List LeafPlace) (cluster k : ℕ)
    (here none : LeafPlace) (t d : Tagged) →
    IsLaidOut dag → cluster < length dag.tris → k < length (tris_at dag cluster) →
    t ≡ get_or (tris_at dag cluster) k d →
    here ≡ get_or places t.source none →
    ArePlacesFor dag (λ source. found source ++ from_source (take k (tris_at dag cluster)) source) places →
    ArePlacesFor dag (λ source. found source ++ from_source (take (k + 1) (tris_at dag cluster)) source)
    (set places t.source (place_with here cluster k))
places-more dag found places cluster k here none t d laid_out c_below below at read are =
    let count = are.count in
    let within : t.source < dag.heads.sources =
    subst (λ (s : Tagged). s.source < dag.heads.sources) (sym at) (source_below dag cluster k d laid_out below) in
    let tris = tris_at dag cluster in
    record {
      count = length-set places t.source (place_with here cluster k) ∙ are.count;
      each = λ source other range. at_source (eqb t.source source) source refl other range;
    }
  where
    so_far : ℕ → List Tagged
    so_far source = found source ++ from_source (take k (tris_at dag cluster)) source

    more : (source : ℕ) (b : Bool) → eqb t.source source ≡ b →
        found source ++ from_source (take (k + 1) (tris_at dag cluster)) source ≡ so_far source ++ cond b (t ∷ []) []
    more source b is =
        ap (λ (ts : List Tagged). found source ++ ts)
        (from_source-more (tris_at dag cluster) k source d below
        ∙ (ap (λ (s : Tagged). from_source (take k (tris_at dag cluster)) source
        ++ cond (eqb s.source source) (s ∷ []) []) (sym at)
        ∙ ap (λ c. from_source (take k (tris_at dag cluster)) source ++ cond c (t ∷ []) []) is))
        ∙ sym (append_assoc (found source) (from_source (take k (tris_at dag cluster)) source) (cond b (t ∷ []) []))

    here_more : t.source < dag.heads.sources → IsPlaceOf dag (so_far t.source ++ t ∷ []) (place_with here cluster k)
    here_more within =
        place-more dag (so_far t.source) here cluster k t c_below below
        (λ other. at ∙ get_or_default (tris_at dag cluster) k d other below)
        (subst (IsPlaceOf dag (so_far t.source)) (sym read) (are.each t.source none within))

    at_source : (b : Bool) (source : ℕ) → eqb t.source source ≡ b → (other : LeafPlace) → source < dag.heads.sources →
        IsPlaceOf dag (found source ++ from_source (take (k + 1) (tris_at dag cluster)) source)
        (get_or (set places t.source (place_with here cluster k)) source other)
    at_source true source is other range =
        let same : t.source ≡ source = same_from t.source source is in
        let count = are.count in
        let grown : IsPlaceOf dag (so_far source ++ t ∷ []) (place_with here cluster k) =
        subst (λ s. IsPlaceOf dag (so_far s ++ t ∷ []) (place_with here cluster k)) same (here_more (omega arith)) in
        let place : get_or (set places t.source (place_with here cluster k)) source other ≡ place_with here cluster k =
        subst (λ s. get_or (set places t.source (place_with here cluster k)) s other ≡ place_with here cluster k) same
        (get_or-set_same places t.source (place_with here cluster k) other (omega arith)) in
        subst (λ ts. IsPlaceOf dag ts (get_or (set places t.source (place_with here cluster k)) source other))
        (sym (more source true is))
        (subst (IsPlaceOf dag (so_far source ++ t ∷ [])) (sym place) grown)
    at_source false source is other range =
        let differ : source ≢ t.source = differ_from t.source source is in
        let place : get_or (set places t.source (place_with here cluster k)) source other ≡ get_or places source other =
        get_or-set_other places t.source source (place_with here cluster k) other differ in
        subst (λ ts. IsPlaceOf dag ts (get_or (set places t.source (place_with here cluster k)) source other))
        (sym (more source false is ∙ append-nil (so_far source)))
        (subst (IsPlaceOf dag (so_far source)) (sym place) (are.each source other range))

-- other lists, which are the same for each source
pub places-same : (dag : Dag) (found others : ℕ → List Tagged) (places : List LeafPlace) →
    ((source : ℕ) → found source ≡ others source) → ArePlacesFor dag found places → ArePlacesFor dag others places
places-same dag found others places same are = record {
  count = are.count;
  each = λ source none range. subst (λ ts. IsPlaceOf dag ts (get_or places source none)) (same source)
      (are.each source none range);
}

-- no triangle yet
pub places-none : (dag : Dag) (n : ℕ) → n ≡ dag.heads.sources → ArePlacesFor dag (λ source. []) (replicate n Missing)
places-none dag n same = record {
  count = length-replicate n Missing ∙ same;
  each = λ source none range.
      subst (IsPlaceOf dag []) (sym (get_or-replicate n source Missing none (omega arith))) refl;
}

-- the clusters before c + 1: another leaf, or the same
pub leaf-more : (dag : Dag) (c : ℕ) → is_none (cluster_at dag.heads c).made ≡ true →
    (source : ℕ) →
    from_source (tris_in dag (leaves_before dag.heads c)) source ++ from_source (tris_at dag c) source
    ≡ from_source (tris_in dag (leaves_before dag.heads (c + 1))) source
leaf-more dag c leaf source =
    let is_leaf : ℕ → Bool = λ k. is_none (cluster_at dag.heads k).made in
    let more : leaves_before dag.heads c ++ c ∷ [] ≡ leaves_before dag.heads (c + 1) =
    filter_step is_leaf c (leaves_before dag.heads c) refl leaf in
    sym (filter-append (λ (t : Tagged). eqb t.source source) (tris_in dag (leaves_before dag.heads c)) (tris_at dag c))
    ∙ ap (λ (ts : List Tagged). from_source ts source)
    (ap (λ (ts : List Tagged). tris_in dag (leaves_before dag.heads c) ++ ts) (sym (append-nil (tris_at dag c)))
    ∙ (sym (flat_map-append (tris_at dag) (leaves_before dag.heads c) (c ∷ [])) ∙ ap (tris_in dag) more))

pub leaf-same : (dag : Dag) (c : ℕ) → is_none (cluster_at dag.heads c).made ≡ false →
    leaves_before dag.heads c ≡ leaves_before dag.heads (c + 1)
leaf-same dag c made =
    filter_skip (λ k. is_none (cluster_at dag.heads k).made) c (leaves_before dag.heads c) refl made

-- ---- what a place says of the triangles

pub one-at : (dag : Dag) (found : List Tagged) (place : LeafPlace) (cluster triangle : ℕ) →
    place ≡ At cluster triangle → IsPlaceOf dag found place → IsAlone dag found cluster triangle
one-at dag found place cluster triangle at is = subst (IsPlaceOf dag found) at is

pub missing-none : (dag : Dag) (found : List Tagged) (place : LeafPlace) → place ≡ Missing → IsPlaceOf dag found place →
    length found ≡ 0
missing-none dag found place missing is =
    let none : found ≡ [] = subst (IsPlaceOf dag found) missing is in ap length none

pub repeated-some : (dag : Dag) (found : List Tagged) (place : LeafPlace) → place ≡ Repeated →
    IsPlaceOf dag found place → 2 ≤ length found
repeated-some dag found place repeated is = subst (IsPlaceOf dag found) repeated is

pub alone-one : (dag : Dag) (found : List Tagged) (cluster triangle : ℕ) → IsAlone dag found cluster triangle →
    length found ≡ 1
alone-one dag found cluster triangle is =
    let origin : Pt = record { x = pos 0; y = pos 0; z = pos 0 } in
    ap length (is.alone (record { tri = record { a = origin; b = origin; c = origin }; source = 0 }))

-- of one triangle, the place is none of the others
pub once-at : (dag : Dag) (found : List Tagged) (place : LeafPlace) → length found ≡ 1 →
    (place ≡ Missing) ⊎ (place ≡ Repeated) → IsPlaceOf dag found place → ⊥
once-at dag found place one (inl missing) is =
    let none = missing-none dag found place missing is in absurd (omega arith)
once-at dag found place one (inr repeated) is =
    let some = repeated-some dag found place repeated is in absurd (omega arith)

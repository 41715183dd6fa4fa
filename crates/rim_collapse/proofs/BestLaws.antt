-- The least legal collapse of a point: what it depends on, and how it is found.
use Rattle.std.proofs.Common.{◌≡◌, ◌⊎◌, inl, inr, ℕ, ◌+◌, ◌<◌, Bool, true, false, not, ◌||◌, List, [], ◌∷◌}
use Rattle.std.proofs.Common.{take}
use Rattle.std.proofs.Common.{length, get_or, All, Ordering, Option, Some, None, sum_by, refl, sym, ap, ◌∙◌}
use Rattle.std.specs.List.{list_all, list_any}
use Rattle.std.specs.Ordering.{is_lt}
use Rattle.std.specs.declared.cmp.Ordering.TheVariants.{Less, Equal, Greater}
use Rattle.std.proofs.lemmas.Bool.{and_parts, cases_Bool, or_cases, or_left, or_right}
use Rattle.std.proofs.lemmas.Cmp.{tied_itself}
use Rattle.std.proofs.lemmas.List.Elements.{All-head, All-tail, All-contains}
use Rattle.std.proofs.lemmas.List.Folds.{Any-from_list_any, list_all-map, list_any_more}
use Rattle.std.proofs.lemmas.List.Sums.{sum_by-cons}
use Rattle.geom_core.specs.declared.points.Pt.{Pt}
use Rattle.geom_core.specs.declared.triangles.Tri.{Tri}
use Rattle.geom_core.specs.Corners.{has_corner}
use Rattle.geom_core.specs.EdgeSum.{same_point}
use Rattle.geom_core.specs.Limits.{IsGridPoint}
use Rattle.geom_core.proofs.CollapseCorners.{IsGridTriangle-corner}
use Rattle.geom_core.proofs.PointLaws.{same_point-from}
use Rattle.rim_collapse.specs.declared.facets.Facet.{Facet}
use Rattle.rim_collapse.specs.declared.keys.Key.{Key}
use Rattle.rim_collapse.specs.Cost.{around, cost, key_cmp, key_of, plane_cost}
use Rattle.rim_collapse.specs.Legal.{has_both, has_edge, is_among, is_legal, is_legal_collapse, keeps_facing}
use Rattle.rim_collapse.specs.Normals.{minus}
use Rattle.rim_collapse.specs.Internal.Bests.{IsBestAt, IsBestOf, beats, is_open}
use Rattle.rim_collapse.specs.Internal.Faces.{point_at}
use Rattle.rim_collapse.specs.Internal.Facets.{IsFacet, facet_cost, facet_keeps, tris_in}
use Rattle.rim_collapse.proofs.AlikeLists.{AreAlike, all-alike, any-alike}
use Rattle.rim_collapse.proofs.Determined.{key_cmp-total}

-- ---- only the triangles round a point decide what its collapses cost and whether they are legal

keeps_facing-apart : (a b : Pt) (t : Tri) → has_corner a t ≡ false → keeps_facing a b t ≡ true
unfolding keeps_facing
keeps_facing-apart a b t hasnt = rw hasnt

legal-around : (a b : Pt) (tris : List Tri) →
    list_all (keeps_facing a b) (around a tris) ≡ list_all (keeps_facing a b) tris
legal-around a b [] = refl
legal-around a b (t ∷ tris) =
    elim (cases_Bool (has_corner a t)) [
      | inl has ↦ rw (has, legal-around a b tris)
      | inr hasnt ↦ rw (hasnt, keeps_facing-apart a b t hasnt, legal-around a b tris)
    ]

pub edge-around : (a b : Pt) (tris : List Tri) → list_any (has_both a b) (around a tris) ≡ list_any (has_both a b) tris
edge-around a b [] = refl
edge-around a b (t ∷ tris) =
    elim (cases_Bool (has_corner a t)) [
      | inl has ↦ rw (has, has, edge-around a b tris)
      | inr hasnt ↦ rw (hasnt, edge-around a b tris)
    ]

key-alike : (xs ys : List Tri) (a b : Pt) → AreAlike (around a xs) (around a ys) → key_of xs a b ≡ key_of ys a b
unfolding key_of cost
key-alike xs ys a b same = rw (same (plane_cost a b)) refl

open-alike : (xs ys : List Tri) (a b : Pt) → AreAlike (around a xs) (around a ys) → is_open xs a b ≡ is_open ys a b
unfolding has_edge is_legal
open-alike xs ys a b same =
    rw (
      sym (edge-around a b xs),
      sym (legal-around a b xs),
      sym (edge-around a b ys),
      sym (legal-around a b ys),
      any-alike (has_both a b) (around a xs) (around a ys) same,
      all-alike (keeps_facing a b) (around a xs) (around a ys) same,
    ) refl

pub best-alike : (xs ys : List Tri) (a : Pt) (tried : Pt → Bool) (best : Option Key) →
    AreAlike (around a xs) (around a ys) → IsBestOf xs a tried best → IsBestOf ys a tried best
best-alike xs ys a tried None same best = λ q was_tried opens. best q was_tried (open-alike xs ys a q same ∙ opens)
best-alike xs ys a tried (Some k) same best = (
  best.0 ∙ key-alike xs ys a k.to same,
  sym (open-alike xs ys a k.to same) ∙ best.1,
  λ q was_tried opens. ap (λ l. is_lt (key_cmp l k)) (sym (key-alike xs ys a q same)) ∙
      best.2 q was_tried (open-alike xs ys a q same ∙ opens),
)

legal-alike : (xs ys : List Tri) (locked : List Pt) (a b : Pt) → around a xs ≡ around a ys →
    is_legal_collapse xs locked a b ≡ is_legal_collapse ys locked a b
unfolding has_edge is_legal
legal-alike xs ys locked a b same =
    rw (sym (edge-around a b xs), sym (legal-around a b xs), sym (edge-around a b ys), sym (legal-around a b ys), same)

pub right-alike : (xs ys : List Tri) (locked : List Pt) (a : Pt) (best : Option Key) → around a xs ≡ around a ys →
    IsBestAt xs locked a best → IsBestAt ys locked a best
right-alike xs ys locked a None same best = λ q legal. best q (legal-alike xs ys locked a q same ∙ legal)
right-alike xs ys locked a (Some k) same best = (
  best.0 ∙ key-alike xs ys a k.to (λ f. ap (sum_by f) same),
  sym (legal-alike xs ys locked a k.to same) ∙ best.1,
  λ q legal. ap (λ l. is_lt (key_cmp l k)) (sym (key-alike xs ys a q (λ f. ap (sum_by f) same))) ∙
      best.2 q (legal-alike xs ys locked a q same ∙ legal),
)

-- ---- fewer candidates

pub best-fewer : (tris : List Tri) (a : Pt) (tried others : Pt → Bool) (best : Option Key) →
    ((q : Pt) → is_open tris a q ≡ true → others q ≡ true → tried q ≡ true) → IsBestOf tris a tried best →
    IsBestOf tris a others best
best-fewer tris a tried others None fewer best = λ q was_tried opens. best q (fewer q opens was_tried) opens
best-fewer tris a tried others (Some k) fewer best =
    (best.0, best.1, λ q was_tried opens. best.2 q (fewer q opens was_tried) opens)

-- ---- one more candidate

pub before-all : (k l m : Key) → is_lt (key_cmp k l) ≡ true → is_lt (key_cmp m l) ≡ false → is_lt (key_cmp m k) ≡ false
before-all k l m first not_less =
    elim (cases_Bool (is_lt (key_cmp m k))) [
      | inl less ↦ absurd (clash (is_lt (key_cmp m l))
          (ap is_lt (key_cmp-total.trans m k l (less_from (key_cmp m k) less) (less_from (key_cmp k l) first)))
          not_less)
      | inr less_not ↦ less_not
    ]
  where
    less_from : (o : Ordering) → is_lt o ≡ true → o ≡ Less
    less_from Less h = refl
    less_from Equal h = absurd (cc)
    less_from Greater h = absurd (cc)

    clash : (b : Bool) → b ≡ true → b ≡ false → ⊥
    clash b h k = cc

not_before_itself : (k : Key) → is_lt (key_cmp k k) ≡ false
not_before_itself k = ap is_lt (tied_itself key_cmp-total k)

key-target : (tris : List Tri) (a b : Pt) (k : Key) → k ≡ key_of tris a b → k.to ≡ b
unfolding key_of
key-target tris a b k is = ap (λ (l : Key). l.to) is

pub best-taken : (tris : List Tri) (a b : Pt) (tried : Pt → Bool) (best : Option Key) (k : Key) →
    k ≡ key_of tris a b → beats k best ≡ true → is_open tris a b ≡ true → IsBestOf tris a tried best →
    IsBestOf tris a (λ q. tried q || same_point b q) (Some k)
best-taken tris a b tried best k is first opens was = (
  is ∙ ap (key_of tris a) (sym to_b),
  ap (is_open tris a) to_b ∙ opens,
  λ q was_tried open_q.
      elim (or_cases (tried q) (same_point b q) was_tried) [
        | inl before ↦ earlier best first was q before open_q
        | inr at ↦
            (let e : key_of tris a q ≡ k = ap (key_of tris a) (sym (same_point-from b q at)) ∙ sym is in
            rw e (not_before_itself k))
      ],
)
  where
    to_b : k.to ≡ b
    to_b = key-target tris a b k is

    earlier : (some : Option Key) → beats k some ≡ true → IsBestOf tris a tried some → (q : Pt) → tried q ≡ true →
        is_open tris a q ≡ true → is_lt (key_cmp (key_of tris a q) k) ≡ false
    earlier None less here q before open_q = absurd (here q before open_q)
    earlier (Some l) less here q before open_q = before-all k l (key_of tris a q) less (here.2 q before open_q)

-- the candidate is none, or doesn't go before the best so far
pub best-kept : (tris : List Tri) (a b : Pt) (tried : Pt → Bool) (best : Option Key) →
    (is_open tris a b ≡ false) ⊎ (beats (key_of tris a b) best ≡ false) → IsBestOf tris a tried best →
    IsBestOf tris a (λ q. tried q || same_point b q) best
best-kept tris a b tried None why was = λ q was_tried open_q.
    elim (or_cases (tried q) (same_point b q) was_tried) [
      | inl before ↦ was q before open_q
      | inr at ↦
          (let e : q ≡ b = sym (same_point-from b q at) in
          elim why [
            | inl closed ↦ cc
            | inr beaten ↦ absurd (cc)
          ])
    ]
best-kept tris a b tried (Some k) why was = (
  was.0,
  was.1,
  λ q was_tried open_q.
      elim (or_cases (tried q) (same_point b q) was_tried) [
        | inl before ↦ was.2 q before open_q
        | inr at ↦
            (let e : q ≡ b = sym (same_point-from b q at) in
            elim why [
              | inl closed ↦ absurd (clash (is_open tris a b) (ap (is_open tris a) (sym e) ∙ open_q) closed)
              | inr beaten ↦ rw e beaten
            ])
      ],
)
  where
    clash : (x : Bool) → x ≡ true → x ≡ false → ⊥
    clash x h k = cc

-- ---- facets

facets-tris : (facets : List Facet) (a : Pt) → All (IsFacet a) facets → around a (tris_in facets) ≡ tris_in facets
facets-tris [] a all = refl
facets-tris (f ∷ facets) a all =
    rw (All-head (IsFacet a) f facets all).corner
    (ap (λ l. f.tri ∷ l) (facets-tris facets a (All-tail (IsFacet a) f facets all)))

pub cost-facets : (facets : List Facet) (a b : Pt) → All (IsFacet a) facets →
    sum_by (facet_cost (minus b a)) facets ≡ cost (tris_in facets) a b
unfolding cost
cost-facets facets a b all = rw (facets-tris facets a all) (sums facets all)
  where
    sums : (some : List Facet) → All (IsFacet a) some →
        sum_by (facet_cost (minus b a)) some ≡ sum_by (plane_cost a b) (tris_in some)
    sums [] each = refl
    sums (f ∷ some) each =
        rw (
          sum_by-cons (facet_cost (minus b a)) f some,
          sum_by-cons (plane_cost a b) f.tri (tris_in some),
          (All-head (IsFacet a) f some each).normal,
          sums some (All-tail (IsFacet a) f some each),
        )

pub legal-facets : (facets : List Facet) (a b : Pt) → list_all (facet_keeps a b) facets ≡ is_legal (tris_in facets) a b
unfolding is_legal
legal-facets facets a b = sym (list_all-map (keeps_facing a b) (λ (f : Facet). f.tri) facets)

pub edge-facets : (facets : List Facet) (a b : Pt) → All (IsFacet a) facets → same_point a b ≡ false →
    list_any (λ f. has_corner b f.tri) facets ≡ true → has_edge (tris_in facets) a b ≡ true
unfolding has_edge
edge-facets facets a b all apart corner = rw (apart, both facets all) corner
  where
    both : (some : List Facet) → All (IsFacet a) some →
        list_any (has_both a b) (tris_in some) ≡ list_any (λ f. has_corner b f.tri) some
    both [] each = refl
    both (f ∷ some) each =
        rw ((All-head (IsFacet a) f some each).corner, both some (All-tail (IsFacet a) f some each))

-- both points of a candidate are points of a mesh
pub target-grid : (facets : List Facet) (a b : Pt) → All (IsFacet a) facets →
    list_any (λ f. has_corner b f.tri) facets ≡ true → IsGridPoint b
target-grid facets a b all corner =
    let any = Any-from_list_any (λ f. has_corner b f.tri) facets corner in
    let f = All-contains (IsFacet a) facets any.1 all (any.0, any.2, any.3) in
    IsGridTriangle-corner any.1.tri b f.grid any.4

pub source-grid : (facets : List Facet) (a b : Pt) → All (IsFacet a) facets →
    list_any (λ f. has_corner b f.tri) facets ≡ true → IsGridPoint a
source-grid facets a b all corner =
    let any = Any-from_list_any (λ f. has_corner b f.tri) facets corner in
    let f = All-contains (IsFacet a) facets any.1 all (any.0, any.2, any.3) in
    IsGridTriangle-corner any.1.tri a f.grid f.corner

any-from_edge : (tris : List Tri) (a q : Pt) → has_edge tris a q ≡ true → list_any (has_both a q) tris ≡ true
unfolding has_edge
any-from_edge tris a q edge = (and_parts (not (same_point a q)) _ edge).1

-- Where the facets are the triangles round a, in some order, and all their corners are tried, so are all legal targets
-- of a.
pub least-all : (tris : List Tri) (facets : List Facet) (a : Pt) (tried : Pt → Bool) (best : Option Key) →
    All (IsFacet a) facets → AreAlike (tris_in facets) (around a tris) →
    ((q : Pt) → list_any (λ f. has_corner q f.tri) facets ≡ true → tried q ≡ true) →
    IsBestOf (tris_in facets) a tried best → IsBestOf tris a (λ q. true) best
least-all tris facets a tried best all alike each least =
    best-alike (tris_in facets) tris a (λ q. true) best
    (λ f. ap (sum_by f) (facets-tris facets a all) ∙ alike f)
    (best-fewer (tris_in facets) a tried (λ q. true) best
    (λ q opens was. each q (any_both q facets
    (any-from_edge (tris_in facets) a q (and_parts (has_edge (tris_in facets) a q) _ opens).0))) least)
  where
    any_both : (q : Pt) (some : List Facet) → list_any (has_both a q) (tris_in some) ≡ true →
        list_any (λ f. has_corner q f.tri) some ≡ true
    any_both q [] h = h
    any_both q (f ∷ some) h =
        elim (or_cases (has_both a q f.tri) (list_any (has_both a q) (tris_in some)) h) [
          | inl here ↦ or_left _ _ (and_parts (has_corner a f.tri) (has_corner q f.tri) here).1
          | inr later ↦ or_right _ _ (any_both q some later)
        ]

-- one more target
pub best-more : (tris : List Tri) (a : Pt) (points : List Pt) (targets : List ℕ) (i d : ℕ) (best : Option Key) →
    i < length targets →
    IsBestOf tris a
    (λ q. list_any (λ n. same_point (point_at points n) q) (take i targets) ||
    same_point (point_at points (get_or targets i d)) q) best →
    IsBestOf tris a (λ q. list_any (λ n. same_point (point_at points n) q) (take (i + 1) targets)) best
best-more tris a points targets i d best within was =
    best-fewer tris a
    (λ q. list_any (λ n. same_point (point_at points n) q) (take i targets) ||
    same_point (point_at points (get_or targets i d)) q)
    (λ q. list_any (λ n. same_point (point_at points n) q) (take (i + 1) targets)) best
    (λ q opens tried. sym (list_any_more (λ n. same_point (point_at points n) q) targets i d within) ∙ tried) was

-- ---- points that may be locked

pub best-at : (tris : List Tri) (locked : List Pt) (a : Pt) (best : Option Key) → is_among locked a ≡ false →
    IsBestOf tris a (λ q. true) best → IsBestAt tris locked a best
best-at tris locked a None free best = λ q legal. best q refl (opens q legal)
  where
    opens : (q : Pt) → is_legal_collapse tris locked a q ≡ true → is_open tris a q ≡ true
    opens q legal = rw free at legal
best-at tris locked a (Some k) free best = (best.0, rw free best.1, λ q legal. best.2 q refl (opens q legal))
  where
    opens : (q : Pt) → is_legal_collapse tris locked a q ≡ true → is_open tris a q ≡ true
    opens q legal = rw free at legal

pub none-locked : (tris : List Tri) (locked : List Pt) (a : Pt) → is_among locked a ≡ true →
    IsBestAt tris locked a None
none-locked tris locked a held = λ q legal. false_true (rw held at legal)
  where
    false_true : false ≡ true → ⊥
    false_true h = cc

-- A point is asked over what lies round it: its triangles, in some order, and their corners.
use Rattle.std.proofs.Common.{◌≡◌, inl, inr, ℕ, ◌/◌, ◌<◌, ◌≤◌, Bool, true, false, not, List, [], ◌∷◌, length, map}
use Rattle.std.proofs.Common.{filter, cond, sum_by, All, Option, refl, sym, ap, ◌∙◌, subst, arith}
use Rattle.std.specs.Bool.{◌==◌}
use Rattle.std.specs.List.{list_any}
use Rattle.std.proofs.lemmas.Bool.{or_cases, or_left, or_right}
use Rattle.std.proofs.lemmas.Bool.Decides.{nat_tests}
use Rattle.std.proofs.lemmas.List.{length-map}
use Rattle.std.proofs.lemmas.List.Elements.{All-filter, All-head, All-map, All-tail, All-weaker, filter_passes}
use Rattle.std.proofs.lemmas.List.Folds.{list_any_none}
use Rattle.geom_core.specs.declared.limits.TheConstants.{TRIANGLES_PER_GROUP}
use Rattle.geom_core.specs.declared.points.Pt.{Pt}
use Rattle.geom_core.specs.declared.triangles.Tri.{Tri}
use Rattle.geom_core.specs.Corners.{has_corner}
use Rattle.geom_core.specs.EdgeSum.{same_point}
use Rattle.geom_core.specs.Limits.{is_grid_triangle, IsGridTriangle}
use Rattle.geom_core.proofs.CollapseCorners.{at_corner}
use Rattle.geom_core.proofs.PointLaws.{same_point-refl}
use Rattle.half_mesh.proofs.IncidenceLaws.{filter-all}
use Rattle.rim_collapse.specs.declared.chains.Chains.{Chains}
use Rattle.rim_collapse.specs.declared.faces.Face.{Face}
use Rattle.rim_collapse.specs.declared.keys.Key.{Key}
use Rattle.rim_collapse.specs.declared.number_sets.NumberSet.{NumberSet}
use Rattle.rim_collapse.specs.Cost.{around}
use Rattle.rim_collapse.specs.Internal.Bests.{IsBestAt, IsBestOf}
use Rattle.rim_collapse.specs.Internal.Chains.{chain, face_at, faces_at, no_face}
use Rattle.rim_collapse.specs.Internal.Faces.{IsNumbered, has_distinct_numbers, has_number, left, point_at, tri_at}
use Rattle.rim_collapse.specs.Internal.Faces.{tris_at}
use Rattle.rim_collapse.specs.Internal.Facets.{IsFacet, facet_of, tris_in}
use Rattle.rim_collapse.specs.Internal.Marks.{HasMarkedCorners, IsSetBelow, is_marked}
use Rattle.rim_collapse.specs.Internal.Meshes.{IsMesh}
use Rattle.rim_collapse.specs.Legal.{is_among}
use Rattle.rim_collapse.proofs.AlikeLists.{AreAlike, any-alike}
use Rattle.rim_collapse.proofs.BestLaws.{best-at, least-all}
use Rattle.rim_collapse.proofs.ChainLaws.{length-sum, none-from_zero, zero-from_none}
use Rattle.rim_collapse.proofs.FaceChains.{chain-slots, linked-at}
use Rattle.rim_collapse.proofs.FaceLaws.{IsAscending, corner-number}
use Rattle.rim_collapse.proofs.Listed.{facets-listed}
use Rattle.rim_collapse.proofs.RoundLaws.{round-alike}
use Rattle.rim_collapse.proofs.SetLaws.{marked-below}

-- the triangles of the faces that are left round a point
abbrev pub round_tris : List Pt → List Face → Chains → ℕ → List Tri
round_tris points faces chains n = tris_at points (faces_at faces (chain chains n))

-- ---- triangles

pub mesh-alike : (points : List Pt) (faces : List Face) (chains : Chains) (n : ℕ) → IsMesh points faces chains →
    n < length points →
    AreAlike (round_tris points faces chains n) (around (point_at points n) (tris_at points (left faces)))
mesh-alike points faces chains n mesh in_n =
    round-alike points n faces (chain chains n) mesh.ascending in_n mesh.numbers
    (linked-at (length points) faces chains n mesh.linked in_n)

each-alike : (q : Tri → Bool) (xs ys : List Tri) → AreAlike xs ys → All (λ t. q t ≡ true) ys → All (λ t. q t ≡ true) xs
each-alike q xs ys alike all =
    All-weaker (λ t. not (q t) ≡ false) (λ t. q t ≡ true) (λ t h. twice (q t) h) xs
    (none-from_zero (λ t. not (q t)) xs (zero-from_none (λ t. not (q t)) xs
    (any-alike (λ t. not (q t)) xs ys alike ∙ list_any_none (λ t. not (q t)) ys
    (All-weaker (λ t. q t ≡ true) (λ t. not (q t) ≡ false) (λ t h. ap not h) ys all))))
  where
    twice : (b : Bool) → not b ≡ false → b ≡ true
    twice true h = refl
    twice false h = absurd (cc)

round-grid : (points : List Pt) (faces : List Face) (chains : Chains) (n : ℕ) → IsMesh points faces chains →
    n < length points → All IsGridTriangle (round_tris points faces chains n)
round-grid points faces chains n mesh in_n =
    each-alike is_grid_triangle (round_tris points faces chains n)
    (around (point_at points n) (tris_at points (left faces))) (mesh-alike points faces chains n mesh in_n)
    (All-filter (has_corner (point_at points n)) IsGridTriangle (tris_at points (left faces)) mesh.triangles)

pub round-facets : (points : List Pt) (faces : List Face) (chains : Chains) (n : ℕ) → IsMesh points faces chains →
    n < length points → All (IsFacet (point_at points n)) (map facet_of (round_tris points faces chains n))
round-facets points faces chains n mesh in_n =
    let a = point_at points n in
    let tris = round_tris points faces chains n in
    subst (λ l. All (IsFacet a) (map facet_of l))
    (filter-all (has_corner a) tris (each-alike (has_corner a) tris (around a (tris_at points (left faces)))
    (mesh-alike points faces chains n mesh in_n) (filter_passes (has_corner a) (tris_at points (left faces)))))
    (facets-listed a tris (round-grid points faces chains n mesh in_n))

pub length-filtered : {X : Type 0} (p : X → Bool) (xs : List X) → length (filter p xs) ≤ length xs
length-filtered p [] = omega arith
length-filtered {X = X} p (x ∷ xs) = by (p x) (filter p xs) (length-filtered p xs)
  where
    by : (passes : Bool) (some : List X) → length some ≤ length xs →
        length (cond passes (x ∷ some) some) ≤ length (x ∷ xs)
    by true some h = omega arith
    by false some h = omega arith

pub round-few : (points : List Pt) (faces : List Face) (chains : Chains) (n : ℕ) → IsMesh points faces chains →
    n < length points → length (map facet_of (round_tris points faces chains n)) ≤ TRIANGLES_PER_GROUP
round-few points faces chains n mesh in_n =
    let a = point_at points n in
    let tris = round_tris points faces chains n in
    let some = around a (tris_at points (left faces)) in
    let same : length tris ≡ length some =
    sym (length-sum tris) ∙ mesh-alike points faces chains n mesh in_n (λ t. 1) ∙ length-sum some in
    omega (
      arith,
      same,
      length-map tris facet_of,
      length-filtered (has_corner a) (tris_at points (left faces)),
      length-map (left faces) (tri_at points),
      length-filtered has_distinct_numbers faces,
      mesh.few,
    )

-- ---- targets

faces_at-all : (P : Face → Type 0) (faces : List Face) (corners : List ℕ) → All (λ c. c / 3 < length faces) corners →
    All P faces → All P (faces_at faces corners)
faces_at-all P faces corners slots all =
    All-filter has_distinct_numbers P (map (face_at faces) corners)
    (All-map P (face_at faces) corners (All-weaker (λ c. c / 3 < length faces) (λ c. P (face_at faces c))
    (λ c slot. all (c / 3) no_face slot) corners slots))

any-number : (points : List Pt) (m : ℕ) (faces : List Face) → IsAscending points → m < length points →
    All (IsNumbered (length points)) faces →
    list_any (λ f. has_corner (point_at points m) f.tri) (map facet_of (tris_at points faces)) ≡
    list_any (has_number m) faces
any-number points m [] ascending in_m all = refl
any-number points m (f ∷ faces) ascending in_m all =
    rw (
      corner-number points m f ascending in_m (All-head (IsNumbered (length points)) f faces all),
      any-number points m faces ascending in_m (All-tail (IsNumbered (length points)) f faces all),
    ) refl

pub targets-below : (limit : ℕ) (set : NumberSet) → IsSetBelow limit set → All (λ m. m < limit) set.members.items
targets-below limit set is =
    All-weaker (λ m. is_marked set.marks.items m ≡ true) (λ m. m < limit)
    (λ m at. omega (arith, marked-below set.marks.items m at, is.size)) set.members.items is.marked

pub targets-corners : (points : List Pt) (faces : List Face) (chains : Chains) (n : ℕ) (set : NumberSet) →
    IsMesh points faces chains → n < length points → IsSetBelow (length points) set →
    ((k : ℕ) → is_marked set.marks.items k ≡ true →
    list_any (has_number k) (faces_at faces (chain chains n)) ≡ true) →
    All (λ m.
    list_any (λ f. has_corner (point_at points m) f.tri) (map facet_of (round_tris points faces chains n)) ≡ true)
    set.members.items
targets-corners points faces chains n set mesh in_n is only =
    All-weaker (λ m. is_marked set.marks.items m ≡ true)
    (λ m. list_any (λ f. has_corner (point_at points m) f.tri) (map facet_of (round_tris points faces chains n)) ≡ true)
    (λ m at. any-number points m (faces_at faces (chain chains n)) mesh.ascending
    (omega (arith, marked-below set.marks.items m at, is.size))
    (faces_at-all (IsNumbered (length points)) faces (chain chains n)
    (chain-slots (length points) faces chains n mesh.linked in_n) mesh.numbers) ∙ only m at)
    set.members.items is.marked

any-weaker : {X : Type 0} (p q : X → Bool) (xs : List X) → ((x : X) → p x ≡ true → q x ≡ true) →
    list_any p xs ≡ true → list_any q xs ≡ true
any-weaker p q [] weaker any = any
any-weaker p q (x ∷ xs) weaker any =
    elim (or_cases (p x) (list_any p xs) any) [
      | inl here ↦ or_left _ _ (weaker x here)
      | inr later ↦ or_right _ _ (any-weaker p q xs weaker later)
    ]

equal_from : (n m : ℕ) → n == m ≡ true → n ≡ m
equal_from n m h = grind (arith, nat_tests)

-- each corner of their triangles is a target
each-target : (points : List Pt) (set : NumberSet) (faces : List Face) (q : Pt) →
    ((k : ℕ) → is_marked set.marks.items k ≡ true → list_any (λ m. m == k) set.members.items ≡ true) →
    All (HasMarkedCorners set.marks.items) faces →
    list_any (λ f. has_corner q f.tri) (map facet_of (tris_at points faces)) ≡ true →
    list_any (λ m. same_point (point_at points m) q) set.members.items ≡ true
each-target points set [] q listed all any = absurd (cc)
each-target points set (f ∷ faces) q listed all any =
    elim (or_cases (has_corner q (tri_at points f))
    (list_any (λ g. has_corner q g.tri) (map facet_of (tris_at points faces))) any) [
      | inl here ↦
          (let corners = All-head (HasMarkedCorners set.marks.items) f faces all in
          at_corner (λ p. list_any (λ m. same_point (point_at points m) p) set.members.items ≡ true) q
          (tri_at points f) (target f.a corners.a) (target f.b corners.b) (target f.c corners.c) here)
      | inr later ↦ each-target points set faces q listed
          (All-tail (HasMarkedCorners set.marks.items) f faces all) later
    ]
  where
    target : (k : ℕ) → is_marked set.marks.items k ≡ true →
        list_any (λ m. same_point (point_at points m) (point_at points k)) set.members.items ≡ true
    target k marked =
        any-weaker (λ m. m == k) (λ m. same_point (point_at points m) (point_at points k)) set.members.items
        (λ m at. same_point-refl _ _ (ap (point_at points) (equal_from m k at))) (listed k marked)

-- ---- the best collapse

pub best-asked : (points : List Pt) (faces : List Face) (chains : Chains) (locked : List Pt) (n : ℕ) (set : NumberSet)
    (best : Option Key) → IsMesh points faces chains → n < length points → IsSetBelow (length points) set →
    All (HasMarkedCorners set.marks.items) (faces_at faces (chain chains n)) →
    is_among locked (point_at points n) ≡ false →
    IsBestOf (tris_in (map facet_of (round_tris points faces chains n))) (point_at points n)
    (λ q. list_any (λ m. same_point (point_at points m) q) set.members.items) best →
    IsBestAt (tris_at points (left faces)) locked (point_at points n) best
best-asked points faces chains locked n set best mesh in_n is round free least =
    let a = point_at points n in
    let tris = round_tris points faces chains n in
    best-at (tris_at points (left faces)) locked a best free
    (least-all (tris_at points (left faces)) (map facet_of tris) a
    (λ q. list_any (λ m. same_point (point_at points m) q) set.members.items) best
    (round-facets points faces chains n mesh in_n)
    (λ f. ap (sum_by f) (tris_in-facets tris) ∙ mesh-alike points faces chains n mesh in_n f)
    (λ q any. each-target points set (faces_at faces (chain chains n)) q is.listed round any) least)
  where
    tris_in-facets : (some : List Tri) → tris_in (map facet_of some) ≡ some
    tris_in-facets [] = refl
    tris_in-facets (t ∷ some) = ap (λ l. t ∷ l) (tris_in-facets some)

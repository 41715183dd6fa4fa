-- Faces are triangles: what holds of numbers holds of the points that they stand for.
use Rattle.std.proofs.Common.{◌≡◌, inl, inr, ℕ, zero, suc, ◌+◌, ◌<◌, Bool, true, false, List, [], ◌∷◌, ◌++◌, Result, Ok}
use Rattle.std.proofs.Common.{Err, take, length, get_or, if◌then◌else◌, All, AllPairs, Contains, refl, sym, ap, ◌∙◌}
use Rattle.std.proofs.Common.{arith}
use Rattle.std.specs.Bool.{◌==◌}
use Rattle.std.specs.Ordering.{is_eq}
use Rattle.std.specs.declared.cmp.Ordering.TheVariants.{Less}
use Rattle.std.proofs.lemmas.Bool.{cases_Bool, cases_lt}
use Rattle.std.proofs.lemmas.Bool.Decides.{nat_tests}
use Rattle.std.proofs.lemmas.Cmp.{tied_itself}
use Rattle.std.proofs.lemmas.List.{get_or_default, get_or-map, length-map, map-append, map_more}
use Rattle.std.proofs.lemmas.List.Sorted.{searchable_from_sorted}
use Rattle.std.specs.List.Sorted.{IsBinarySearchResult}
use Rattle.std.proofs.lemmas.List.Elements.{All-head, All-tail, Contains-get_or}
use Rattle.geom_core.specs.declared.points.Pt.{Pt}
use Rattle.geom_core.specs.declared.triangles.Tagged.{Tagged}
use Rattle.geom_core.specs.Collapses.{replaced, replaced_point}
use Rattle.geom_core.specs.Corners.{has_corner, IsCornerIn}
use Rattle.geom_core.specs.EdgeSum.{same_point}
use Rattle.geom_core.specs.Limits.{has_distinct_corners}
use Rattle.geom_core.specs.Order.{point_cmp}
use Rattle.geom_core.proofs.CollapseCorners.{at_corner}
use Rattle.geom_core.proofs.PointLaws.{same_point-from, same_point-is, same_point-refl, point_cmp-total}
use Rattle.geom_core.specs.TaggedLists.{tris_of}
use Rattle.half_mesh.proofs.TableLaws.{searched_none, sorted_points}
use Rattle.rim_collapse.specs.declared.faces.Face.{Face}
use Rattle.rim_collapse.specs.declared.states.Kept.{Kept}
use Rattle.rim_collapse.specs.States.{after, begun, present}
use Rattle.rim_collapse.proofs.Following.{present-begun}
use Rattle.rim_collapse.specs.Internal.Faces.{IsNumbered, face_to, faces_after, has_distinct_numbers, has_number}
use Rattle.rim_collapse.specs.Internal.Faces.{kept_at, no_triangle, origin, point_at, renumbered, state_of, tagged_at}
use Rattle.rim_collapse.specs.Internal.Faces.{tri_at, tris_at}

abbrev pub IsAscending : List Pt → Type 0
IsAscending points = AllPairs (λ p q. point_cmp p q ≡ Less) points

-- ---- numbers and points

before : (points : List Pt) (n m : ℕ) → IsAscending points → n < m → m < length points →
    point_cmp (point_at points n) (point_at points m) ≡ Less
unfolding point_at
before points n m ascending less within = ascending n m origin less within

apart : (points : List Pt) (n m : ℕ) → IsAscending points → n < m → m < length points →
    point_at points n ≡ point_at points m → ⊥
apart points n m ascending less within same =
    clash (same_point (point_at points n) (point_at points m)) (same_point-refl _ _ same)
    (same_point-is (point_at points n) (point_at points m) ∙ ap is_eq (before points n m ascending less within))
  where
    clash : (x : Bool) → x ≡ true → x ≡ false → ⊥
    clash x h k = cc

-- different numbers are those of different points
one_number : (points : List Pt) (n m : ℕ) → IsAscending points → n < length points → m < length points →
    point_at points n ≡ point_at points m → n ≡ m
one_number points n m ascending in_n in_m same =
    elim (cases_lt n m) [
      | inl less ↦ absurd (apart points n m ascending less in_m same)
      | inr most ↦
          elim (cases_lt m n) [
            | inl less ↦ absurd (apart points m n ascending less in_n (sym same))
            | inr least ↦ omega arith
          ]
    ]

equal_from : (n m : ℕ) → n == m ≡ true → n ≡ m
equal_from n m h = grind (arith, nat_tests)

equal_is : (n m : ℕ) → n ≡ m → n == m ≡ true
equal_is n m h = grind (arith, nat_tests)

pub same-number : (points : List Pt) (n m : ℕ) → IsAscending points → n < length points → m < length points →
    same_point (point_at points n) (point_at points m) ≡ (n == m)
same-number points n m ascending in_n in_m =
    elim (cases_Bool (n == m)) [
      | inl equal ↦ same_point-refl _ _ (ap (point_at points) (equal_from n m equal)) ∙ sym equal
      | inr differ ↦
          elim (cases_Bool (same_point (point_at points n) (point_at points m))) [
            | inl same ↦ absurd (clash (n == m) (equal_is n m (one_number points n m ascending in_n in_m
                (same_point-from (point_at points n) (point_at points m) same))) differ)
            | inr other ↦ other ∙ sym differ
          ]
    ]
  where
    clash : (x : Bool) → x ≡ true → x ≡ false → ⊥
    clash x h k = cc

-- ---- one face

pub corner-number : (points : List Pt) (n : ℕ) (f : Face) → IsAscending points → n < length points →
    IsNumbered (length points) f → has_corner (point_at points n) (tri_at points f) ≡ has_number n f
unfolding has_corner has_number
corner-number points n f ascending within numbered =
    rw (
      same-number points f.a n ascending numbered.a within,
      same-number points f.b n ascending numbered.b within,
      same-number points f.c n ascending numbered.c within,
    )

point-renumbered : (points : List Pt) (a b n : ℕ) → IsAscending points → a < length points → n < length points →
    replaced_point (point_at points a) (point_at points b) (point_at points n) ≡ point_at points (renumbered a b n)
unfolding replaced_point renumbered
point-renumbered points a b n ascending in_a in_n = rw (same-number points n a ascending in_n in_a) (by (n == a))
  where
    by : (x : Bool) →
        (if x then point_at points b else point_at points n) ≡ point_at points (if x then b else n)
    by true = refl
    by false = refl

pub replaced-face : (points : List Pt) (a b : ℕ) (f : Face) → IsAscending points → a < length points →
    IsNumbered (length points) f →
    replaced (point_at points a) (point_at points b) (tri_at points f) ≡ tri_at points (face_to a b f)
unfolding replaced
replaced-face points a b f ascending in_a numbered =
    rw (
      point-renumbered points a b f.a ascending in_a numbered.a,
      point-renumbered points a b f.b ascending in_a numbered.b,
      point-renumbered points a b f.c ascending in_a numbered.c,
    )

pub distinct-face : (points : List Pt) (f : Face) → IsAscending points → IsNumbered (length points) f →
    has_distinct_corners (tri_at points f) ≡ has_distinct_numbers f
unfolding has_distinct_corners has_distinct_numbers
distinct-face points f ascending numbered =
    rw (
      same-number points f.a f.b ascending numbered.a numbered.b,
      same-number points f.b f.c ascending numbered.b numbered.c,
      same-number points f.c f.a ascending numbered.c numbered.a,
    )

renumbered-below : (n a b m : ℕ) → b < n → m < n → renumbered a b m < n
unfolding renumbered
renumbered-below n a b m in_b in_m = by (m == a)
  where
    by : (x : Bool) → (if x then b else m) < n
    by true = in_b
    by false = in_m

pub face_to-numbered : (n a b : ℕ) (f : Face) → b < n → IsNumbered n f → IsNumbered n (face_to a b f)
face_to-numbered n a b f in_b numbered = record {
  a = renumbered-below n a b f.a in_b numbered.a;
  b = renumbered-below n a b f.b in_b numbered.b;
  c = renumbered-below n a b f.c in_b numbered.c;
}

-- ---- a collapse

pub state_of-after : (tris : List Tagged) (points : List Pt) (a b : ℕ) (faces : List Face) → IsAscending points →
    a < length points → b < length points → All (IsNumbered (length points)) faces →
    state_of tris points (faces_after a b faces) ≡
    after (point_at points a) (point_at points b) (state_of tris points faces)
unfolding after
state_of-after tris points a b [] ascending in_a in_b all = refl
state_of-after tris points a b (f ∷ faces) ascending in_a in_b all =
    let numbered = All-head (IsNumbered (length points)) f faces all in
    let rest = state_of-after tris points a b faces ascending in_a in_b
    (All-tail (IsNumbered (length points)) f faces all) in
    let is = replaced-face points a b f ascending in_a numbered in
    let distinct : has_distinct_corners (replaced (point_at points a) (point_at points b) (tri_at points f)) ≡
    has_distinct_numbers (face_to a b f) =
    ap has_distinct_corners is ∙
    distinct-face points (face_to a b f) ascending (face_to-numbered (length points) a b f in_b numbered) in
    elim (cases_Bool (has_distinct_numbers (face_to a b f))) [
      | inl left ↦ rw (left, distinct ∙ left, is, sym rest)
      | inr left_out ↦ rw (left_out, distinct ∙ left_out, sym rest)
    ]

-- ---- states

pub present-state_of : (tris : List Tagged) (points : List Pt) (faces : List Face) →
    present (state_of tris points faces) ≡ tris_at points faces
present-state_of tris points [] = refl
present-state_of tris points (f ∷ faces) = ap (λ l. tri_at points f ∷ l) (present-state_of tris points faces)

pub length-state_of : (tris : List Tagged) (points : List Pt) (faces : List Face) →
    length (state_of tris points faces) ≡ length faces
length-state_of tris points [] = refl
length-state_of tris points (f ∷ faces) = omega (arith, length-state_of tris points faces)

-- each corner of the faces' triangles is one of the points
pub corners-numbered : (points : List Pt) (faces : List Face) (p : Pt) → All (IsNumbered (length points)) faces →
    IsCornerIn (tris_at points faces) p → Contains points p
unfolding point_at
corners-numbered points [] p all corner = absurd (omega (arith, corner.2))
corners-numbered points (f ∷ faces) p all (zero, t, within, at, has) =
    let numbered = All-head (IsNumbered (length points)) f faces all in
    at_corner (Contains points) p (tri_at points f) (listed f.a numbered.a) (listed f.b numbered.b)
    (listed f.c numbered.c) (ap (has_corner p) at ∙ has)
  where
    listed : (n : ℕ) → n < length points → Contains points (point_at points n)
    listed n in_n = Contains-get_or points n origin in_n
corners-numbered points (f ∷ faces) p all (suc k, t, within, at, has) =
    corners-numbered points faces p (All-tail (IsNumbered (length points)) f faces all) (k, t, omega arith, at, has)

-- ---- numbering points

-- a search for a point that is listed finds it
pub listed-found : (points : List Pt) (p : Pt) (r : Result ℕ ℕ) (n : ℕ) →
    IsBinarySearchResult (λ q. point_cmp q p) points r → IsAscending points → Contains points p → r ≡ Err n → ⊥
listed-found points p (Ok i) n position ascending listed is = cc
listed-found points p (Err i) n position ascending listed is =
    searched_none (λ q. point_cmp q p) points (Err i) position
    (searchable_from_sorted point_cmp-total (λ (q : Pt). q) points p (sorted_points points ascending))
    listed.0 p listed.1 (ap (λ q. point_cmp q p) listed.2 ∙ tied_itself point_cmp-total p)

pub corner-of_tagged : (tris : List Tagged) (i : ℕ) (d : Tagged) (p : Pt) → i < length tris →
    has_corner p (get_or tris i d).tri ≡ true → IsCornerIn (tris_of tris) p
corner-of_tagged tris i d p within has =
    let t = (get_or tris i d).tri in (
      i,
      t,
      omega (arith, length-map tris (λ (u : Tagged). u.tri)),
      get_or-map (λ (u : Tagged). u.tri) tris i d t within,
      has,
    )

-- one more face
pub state_of-pushed : (tris : List Tagged) (points : List Pt) (faces pushed : List Face) (i : ℕ)
    (d : Tagged) (f : Face) →
    i < length tris → pushed ≡ faces ++ f ∷ [] → state_of tris points faces ≡ begun (take i tris) →
    tri_at points f ≡ (get_or tris i d).tri → f.was ≡ i →
    state_of tris points pushed ≡ begun (take (i + 1) tris)
unfolding tagged_at
state_of-pushed tris points faces pushed i d f within push so_far triangle was =
    ap (state_of tris points) push ∙ map-append (kept_at tris points) faces (f ∷ []) ∙
    ap (λ l. l ++ kept_at tris points f ∷ []) so_far ∙ ap (λ k. begun (take i tris) ++ k ∷ []) is ∙
    sym (map_more first tris i d within)
  where
    first : Tagged → Kept
    first t = record { tri = t.tri; was = t }

    is : kept_at tris points f ≡ first (get_or tris i d)
    is = rw (triangle, was, get_or_default tris i no_triangle d within)

pub first-tris : (tris : List Tagged) (points : List Pt) (faces : List Face) →
    state_of tris points faces ≡ begun tris → tris_at points faces ≡ tris_of tris
first-tris tris points faces first =
    sym (present-state_of tris points faces) ∙ ap present first ∙ present-begun tris

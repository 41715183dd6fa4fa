-- Which points' collapses a collapse leaves as they are.
use Rattle.std.proofs.Common.{◌≡◌, ◌≢◌, inl, inr, ℕ, ◌<◌, ◌≤◌, Bool, true, false, not, ◌||◌, List, [], ◌∷◌, filter, map}
use Rattle.std.proofs.Common.{length, get_or, cond, All, Option, None, refl, sym, ap, ◌∙◌, subst, arith}
use Rattle.std.specs.Bool.{◌==◌}
use Rattle.std.specs.Prelude.{slice_index_or}
use Rattle.std.proofs.lemmas.Bool.{and_parts, cases_Bool, or_cases}
use Rattle.std.proofs.lemmas.Bool.Decides.{nat_tests}
use Rattle.std.proofs.lemmas.List.{get_or-map, length-map}
use Rattle.std.proofs.lemmas.List.Elements.{All-contains, All-head, All-map, All-tail, All-weaker}
use Rattle.std.proofs.lemmas.List.Folds.{Any-from_list_any}
use Rattle.geom_core.specs.declared.points.Pt.{Pt}
use Rattle.geom_core.specs.declared.triangles.Tri.{Tri}
use Rattle.geom_core.specs.Collapses.{collapsed, replaced, replaced_point}
use Rattle.geom_core.specs.Corners.{has_corner}
use Rattle.geom_core.specs.EdgeSum.{same_point}
use Rattle.geom_core.specs.Limits.{has_distinct_corners, has_grid_corners, IsGridTriangle}
use Rattle.geom_core.proofs.CollapseCorners.{at_corner, has_corner-a, has_corner-b, has_corner-c, IsGridPoint-corner}
use Rattle.geom_core.proofs.CollapseCorners.{IsGridTriangle-collapsed}
use Rattle.geom_core.proofs.CollapseLaws.{one_or_two, replaced_point-at, replaced_point-off}
use Rattle.rim_collapse.specs.declared.faces.Face.{Face}
use Rattle.rim_collapse.specs.declared.keys.Key.{Key}
use Rattle.rim_collapse.specs.Cost.{around}
use Rattle.rim_collapse.specs.Legal.{has_both, has_edge}
use Rattle.rim_collapse.specs.States.{present}
use Rattle.rim_collapse.specs.Internal.Bests.{AreRight, IsBestAt}
use Rattle.rim_collapse.specs.Internal.Faces.{IsNumbered, faces_after, has_number}
use Rattle.rim_collapse.specs.Internal.Faces.{point_at, state_of, tri_at, tris_at}
use Rattle.rim_collapse.specs.Internal.Marks.{AreMarkedRound, HasMarkedCorners, is_marked}
use Rattle.rim_collapse.proofs.BestLaws.{right-alike}
use Rattle.rim_collapse.proofs.FaceLaws.{IsAscending, corner-number, present-state_of, state_of-after}
use Rattle.rim_collapse.proofs.Following.{present-after, target-corner}

clash : (x : Bool) → x ≡ true → x ≡ false → ⊥
clash x h k = cc

equal_from : (n m : ℕ) → n == m ≡ true → n ≡ m
equal_from n m h = grind (arith, nat_tests)

-- ---- after a collapse

off-corner : (a : Pt) (t : Tri) → has_corner a t ≡ false → (q : Pt) → has_corner q t ≡ true → q ≢ a
off-corner a t hasnt q has e = clash (has_corner a t) (subst (λ p. has_corner p t ≡ true) e has) hasnt

-- a triangle without a stays as it is
replaced-apart : (a b : Pt) (t : Tri) → has_corner a t ≡ false → replaced a b t ≡ t
unfolding replaced
replaced-apart a b t hasnt =
    rw (
      replaced_point-off a b t.a (off-corner a t hasnt t.a (has_corner-a t)),
      replaced_point-off a b t.b (off-corner a t hasnt t.b (has_corner-b t)),
      replaced_point-off a b t.c (off-corner a t hasnt t.c (has_corner-c t)),
    )

-- a triangle without p gets p as a corner only where p is the target
no-corner : (a b p : Pt) (t : Tri) → has_corner p t ≡ false → p ≢ b → has_corner p (replaced a b t) ≡ false
unfolding replaced
no-corner a b p t hasnt apart =
    elim (cases_Bool (has_corner p (replaced a b t))) [
      | inl has ↦ absurd (at_corner (λ q. q ≢ p) p (replaced a b t) (each t.a (has_corner-a t))
          (each t.b (has_corner-b t)) (each t.c (has_corner-c t)) has refl)
      | inr none ↦ none
    ]
  where
    each : (q : Pt) → has_corner q t ≡ true → replaced_point a b q ≢ p
    each q has e =
        elim (one_or_two q a) [
          | inl at ↦ apart (sym e ∙ replaced_point-at a b q at)
          | inr off ↦ off-corner p t hasnt q has (sym (replaced_point-off a b q off) ∙ e)
        ]

-- Where no triangle has both a and p, and p isn't b, a collapse of a to b leaves the triangles round p as they are; so
-- p's least legal collapse stands.
pub around-after : (a b p : Pt) (tris : List Tri) → p ≢ b → All (λ t. has_distinct_corners t ≡ true) tris →
    All (λ t. has_corner a t ≡ true → has_corner p t ≡ false) tris →
    around p (collapsed a b tris) ≡ around p tris
unfolding collapsed
around-after a b p [] apart distinct none = refl
around-after a b p (t ∷ tris) apart distinct none =
    let rest : around p (filter has_distinct_corners (map (replaced a b) tris)) ≡ around p tris =
    around-after a b p tris apart (All-tail (λ u. has_distinct_corners u ≡ true) t tris distinct)
    (All-tail (λ u. has_corner a u ≡ true → has_corner p u ≡ false) t tris none) in
    elim (cases_Bool (has_corner a t)) [
      | inl has ↦
          (let hasnt : has_corner p t ≡ false =
          All-head (λ u. has_corner a u ≡ true → has_corner p u ≡ false) t tris none has in
          elim (cases_Bool (has_distinct_corners (replaced a b t))) [
            | inl left ↦ rw (left, no-corner a b p t hasnt apart, hasnt, rest)
            | inr left_out ↦ rw (left_out, hasnt, rest)
          ])
      | inr hasnt ↦
          (let whole : has_distinct_corners t ≡ true =
          All-head (λ u. has_distinct_corners u ≡ true) t tris distinct in
          rw (replaced-apart a b t hasnt, whole) (ap (λ l. cond (has_corner p t) (t ∷ l) l) rest))
    ]

-- ---- points that aren't marked

no-number : (marks : List Bool) (n : ℕ) (f : Face) → HasMarkedCorners marks f → is_marked marks n ≡ false →
    has_number n f ≡ false
unfolding has_number
no-number marks n f corners unmarked =
    elim (cases_Bool (has_number n f)) [
      | inl has ↦ absurd (at_number n f corners.a corners.b corners.c has)
      | inr hasnt ↦ hasnt
    ]
  where
    not_at : (m : ℕ) → is_marked marks m ≡ true → m == n ≡ true → ⊥
    not_at m marked at = clash (is_marked marks m) marked (ap (is_marked marks) (equal_from m n at) ∙ unmarked)

    at_number : (k : ℕ) (g : Face) → is_marked marks g.a ≡ true → is_marked marks g.b ≡ true →
        is_marked marks g.c ≡ true → has_number n g ≡ true → ⊥
    at_number k g a b c has =
        elim (or_cases (g.a == n || g.b == n) (g.c == n) has) [
          | inl front ↦
              elim (or_cases (g.a == n) (g.b == n) front) [
                | inl at ↦ not_at g.a a at
                | inr at ↦ not_at g.b b at
              ]
          | inr at ↦ not_at g.c c at
        ]

-- a point that isn't marked is the corner of no triangle with corner a
no-corner-round : (marks : List Bool) (points : List Pt) (a n : ℕ) (faces : List Face) → IsAscending points →
    a < length points → n < length points → All (IsNumbered (length points)) faces → AreMarkedRound a marks faces →
    is_marked marks n ≡ false →
    All (λ t. has_corner (point_at points a) t ≡ true → has_corner (point_at points n) t ≡ false) (tris_at points faces)
no-corner-round marks points a n faces ascending in_a in_n all round unmarked =
    All-map (λ t. has_corner (point_at points a) t ≡ true → has_corner (point_at points n) t ≡ false)
    (tri_at points) faces (λ k d in_list has.
    corner-number points n (get_or faces k d) ascending in_n (all k d in_list) ∙
    no-number marks n (get_or faces k d)
    (round k d in_list (sym (corner-number points a (get_or faces k d) ascending in_a (all k d in_list)) ∙ has))
    unmarked)

-- the collapse leaves its triangles as they are
around-unmarked : (marks : List Bool) (points : List Pt) (a b n : ℕ) (faces : List Face) → IsAscending points →
    a < length points → n < length points → All (IsNumbered (length points)) faces →
    All IsGridTriangle (tris_at points faces) → AreMarkedRound a marks faces → is_marked marks n ≡ false →
    has_edge (tris_at points faces) (point_at points a) (point_at points b) ≡ true →
    around (point_at points n) (collapsed (point_at points a) (point_at points b) (tris_at points faces)) ≡
    around (point_at points n) (tris_at points faces)
unfolding has_edge
around-unmarked marks points a b n faces ascending in_a in_n all grid round unmarked edge =
    around-after (point_at points a) (point_at points b) (point_at points n) (tris_at points faces) apart
    (All-weaker IsGridTriangle (λ t. has_distinct_corners t ≡ true)
    (λ t g. (and_parts (has_grid_corners t) (has_distinct_corners t) g).1) (tris_at points faces) grid) none
  where
    none : All (λ t. has_corner (point_at points a) t ≡ true → has_corner (point_at points n) t ≡ false)
        (tris_at points faces)
    none = no-corner-round marks points a n faces ascending in_a in_n all round unmarked

    apart : point_at points n ≢ point_at points b
    apart e =
        let any = Any-from_list_any (has_both (point_at points a) (point_at points b)) (tris_at points faces)
        (and_parts (not (same_point (point_at points a) (point_at points b))) _ edge).1 in
        let both = and_parts (has_corner (point_at points a) any.1) (has_corner (point_at points b) any.1) any.4 in
        clash (has_corner (point_at points b) any.1) both.1 (ap (λ q. has_corner q any.1) (sym e) ∙
        All-contains (λ t. has_corner (point_at points a) t ≡ true → has_corner (point_at points n) t ≡ false)
        (tris_at points faces) any.1 none (any.0, any.2, any.3) both.0)

pub tris_at-after : (points : List Pt) (a b : ℕ) (faces : List Face) → IsAscending points → a < length points →
    b < length points → All (IsNumbered (length points)) faces → tris_at points (faces_after a b faces) ≡
    collapsed (point_at points a) (point_at points b) (tris_at points faces)
tris_at-after points a b faces ascending in_a in_b all =
    sym (present-state_of [] points (faces_after a b faces)) ∙
    ap present (state_of-after [] points a b faces ascending in_a in_b all) ∙
    present-after (point_at points a) (point_at points b) (state_of [] points faces) ∙
    ap (collapsed (point_at points a) (point_at points b)) (present-state_of [] points faces)

-- where the marked points are asked anew, the least legal collapses are those after the collapse
pub right-after : (marks : List Bool) (points locked : List Pt) (a b : ℕ) (faces : List Face)
    (bests next : List (Option Key)) → IsAscending points → a < length points → b < length points →
    All (IsNumbered (length points)) faces → All IsGridTriangle (tris_at points faces) →
    AreMarkedRound a marks faces →
    has_edge (tris_at points faces) (point_at points a) (point_at points b) ≡ true →
    ((k : ℕ) → k < length points → is_marked marks k ≡ true →
    IsBestAt (tris_at points (faces_after a b faces)) locked (point_at points k) (slice_index_or next k None)) →
    ((k : ℕ) → is_marked marks k ≡ false → slice_index_or next k None ≡ slice_index_or bests k None) →
    AreRight (tris_at points faces) locked points bests →
    AreRight (tris_at points (faces_after a b faces)) locked points next
right-after marks points locked a b faces bests next ascending in_a in_b all grid round edge asked others right =
    λ k in_k.
    elim (cases_Bool (is_marked marks k)) [
      | inl marked ↦ asked k in_k marked
      | inr unmarked ↦ subst (IsBestAt (tris_at points (faces_after a b faces)) locked (point_at points k))
          (sym (others k unmarked))
          (right-alike (tris_at points faces) (tris_at points (faces_after a b faces)) locked (point_at points k)
          (slice_index_or bests k None)
          (sym (ap (around (point_at points k)) (tris_at-after points a b faces ascending in_a in_b all) ∙
          around-unmarked marks points a b k faces ascending in_a in_k all grid round unmarked edge)) (right k in_k))
    ]

length-filtered : {X : Type 0} (p : X → Bool) (xs : List X) → length (filter p xs) ≤ length xs
length-filtered p [] = omega arith
length-filtered {X = X} p (x ∷ xs) = by (p x) (filter p xs) (length-filtered p xs)
  where
    by : (passes : Bool) (some : List X) → length some ≤ length xs →
        length (cond passes (x ∷ some) some) ≤ length (x ∷ xs)
    by true some h = omega arith
    by false some h = omega arith

pub unmapped : {X Y : Type 0} (P : Y → Type 0) (f : X → Y) (xs : List X) → All P (map f xs) → All (λ x. P (f x)) xs
unmapped P f xs all k d in_list =
    subst P (get_or-map f xs k d (f d) in_list) (all k (f d) (omega (arith, length-map xs f)))

-- ---- the faces after a collapse

pub after-grid : (points : List Pt) (a b : ℕ) (faces : List Face) → IsAscending points → a < length points →
    b < length points → All (IsNumbered (length points)) faces → All IsGridTriangle (tris_at points faces) →
    has_edge (tris_at points faces) (point_at points a) (point_at points b) ≡ true →
    All IsGridTriangle (tris_at points (faces_after a b faces))
after-grid points a b faces ascending in_a in_b all grid edge =
    let p = point_at points a in
    let q = point_at points b in
    subst (All IsGridTriangle) (sym (tris_at-after points a b faces ascending in_a in_b all))
    (IsGridTriangle-collapsed p q (tris_at points faces)
    (IsGridPoint-corner q (tris_at points faces) (target-corner (tris_at points faces) p q edge) grid) grid)

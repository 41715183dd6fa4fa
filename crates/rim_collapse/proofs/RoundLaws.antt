-- The faces round a point: those with the corners on its chain.
use Rattle.std.proofs.Common.{◌≡◌, inl, inr, ℕ, zero, suc, ◌+◌, ◌*◌, ◌/◌, ◌<◌, Bool, true, false, not, ◌&&◌, ◌||◌, cond}
use Rattle.std.proofs.Common.{eqb, List, [], ◌∷◌, length, map, get_or, All, sum_by, refl, sym, ap, ◌∙◌}
use Rattle.std.proofs.Common.{arith}
use Rattle.std.proofs.lemmas.Bool.{and_parts, cases_Bool}
use Rattle.std.proofs.lemmas.Bool.Decides.{nat_tests}
use Rattle.std.proofs.lemmas.List.Sums.{sum_by-cons}
use Rattle.std.proofs.lemmas.List.Elements.{All-head, All-tail}
use Rattle.geom_core.specs.declared.points.Pt.{Pt}
use Rattle.geom_core.specs.declared.triangles.Tri.{Tri}
use Rattle.geom_core.specs.Limits.{IsGridTriangle}
use Rattle.geom_core.specs.Corners.{has_corner}
use Rattle.rim_collapse.specs.declared.faces.Face.{Face}
use Rattle.rim_collapse.specs.Cost.{around}
use Rattle.rim_collapse.specs.Internal.Chains.{face_at, faces_at, no_face, numbers_in, sum_at}
use Rattle.rim_collapse.specs.Internal.Faces.{IsNumbered, has_distinct_numbers, has_number, left, point_at, tri_at}
use Rattle.rim_collapse.specs.Internal.Faces.{tris_at}
use Rattle.rim_collapse.proofs.AlikeLists.{AreAlike}
use Rattle.rim_collapse.proofs.ChainLaws.{IsLinkedAt}
use Rattle.rim_collapse.proofs.FaceLaws.{IsAscending, corner-number}

clash : (x : Bool) → x ≡ true → x ≡ false → ⊥
clash x h k = cc

equal_from : (n m : ℕ) → eqb n m ≡ true → n ≡ m
equal_from n m h = grind (arith, nat_tests)

equal_is : (n m : ℕ) → n ≡ m → eqb n m ≡ true
equal_is n m h = grind (arith, nat_tests)

-- ---- their triangles

-- a face that is left has a triangle of a mesh
pub left-grid : (points : List Pt) (faces : List Face) (k : ℕ) (d : Face) →
    All IsGridTriangle (tris_at points (left faces)) → k < length faces →
    has_distinct_numbers (get_or faces k d) ≡ true → IsGridTriangle (tri_at points (get_or faces k d))
left-grid points [] k d all within distinct = absurd (omega arith)
left-grid points (f ∷ faces) zero d all within distinct =
    All-head IsGridTriangle (tri_at points f) (tris_at points (left faces)) (first distinct)
  where
    first : has_distinct_numbers f ≡ true → All IsGridTriangle (tris_at points (f ∷ left faces))
    first h = rw h at all
left-grid points (f ∷ faces) (suc k) d all within distinct =
    left-grid points faces k d (later all) (omega arith) distinct
  where
    later : All IsGridTriangle (tris_at points (left (f ∷ faces))) → All IsGridTriangle (tris_at points (left faces))
    later each =
        elim (cases_Bool (has_distinct_numbers f)) [
          | inl stays ↦ All-tail IsGridTriangle (tri_at points f) (tris_at points (left faces)) (rw stays at each)
          | inr dropped ↦ rw dropped at each
        ]

-- ---- all of them are listed

-- how much of a sum over triangles a face is
abbrev share : List Pt → (Tri → ℕ) → Face → ℕ
share points g f = cond (has_distinct_numbers f) (g (tri_at points f)) 0

abbrev share_at : List Pt → (Tri → ℕ) → ℕ → Face → ℕ
share_at points g p f = cond (has_number p f) (share points g f) 0

sum-left : (points : List Pt) (g : Tri → ℕ) (faces : List Face) →
    sum_by g (tris_at points (left faces)) ≡ sum_by (share points g) faces
sum-left points g [] = refl
sum-left points g (f ∷ faces) =
    by (has_distinct_numbers f) (sum-left points g faces) ∙ sym (sum_by-cons (share points g) f faces)
  where
    by : (x : Bool) → sum_by g (tris_at points (left faces)) ≡ sum_by (share points g) faces →
        sum_by g (tris_at points (cond x (f ∷ left faces) (left faces))) ≡
        cond x (g (tri_at points f)) 0 + sum_by (share points g) faces
    by true h = sum_by-cons g (tri_at points f) (tris_at points (left faces)) ∙ ap (λ n. g (tri_at points f) + n) h
    by false h = omega (arith, h)

sum-mapped : (points : List Pt) (g : Tri → ℕ) (faces : List Face) (corners : List ℕ) →
    sum_by (share points g) (map (face_at faces) corners) ≡ sum_by (λ c. share points g (face_at faces c)) corners
sum-mapped points g faces [] = refl
sum-mapped points g faces (c ∷ corners) =
    sum_by-cons (share points g) (face_at faces c) (map (face_at faces) corners) ∙
    ap (λ n. share points g (face_at faces c) + n) (sum-mapped points g faces corners) ∙
    sym (sum_by-cons (λ d. share points g (face_at faces d)) c corners)

sum-around : (points : List Pt) (g : Tri → ℕ) (p : ℕ) (faces : List Face) → IsAscending points → p < length points →
    All (IsNumbered (length points)) faces →
    sum_by g (around (point_at points p) (tris_at points (left faces))) ≡ sum_by (share_at points g p) faces
sum-around points g p [] ascending in_p all = refl
sum-around points g p (f ∷ faces) ascending in_p all =
    by (has_distinct_numbers f) (has_number p f)
    (corner-number points p f ascending in_p (All-head (IsNumbered (length points)) f faces all))
    (sum-around points g p faces ascending in_p (All-tail (IsNumbered (length points)) f faces all)) ∙
    sym (sum_by-cons (share_at points g p) f faces)
  where
    by : (x y : Bool) → has_corner (point_at points p) (tri_at points f) ≡ y →
        sum_by g (around (point_at points p) (tris_at points (left faces))) ≡ sum_by (share_at points g p) faces →
        sum_by g (around (point_at points p) (tris_at points (cond x (f ∷ left faces) (left faces)))) ≡
        cond y (cond x (g (tri_at points f)) 0) 0 + sum_by (share_at points g p) faces
    by true true has h =
        rw has (sum_by-cons g (tri_at points f) (around (point_at points p) (tris_at points (left faces))) ∙
        ap (λ n. g (tri_at points f) + n) h)
    by true false has h = rw has (omega (arith, h))
    by false true has h = omega (arith, h)
    by false false has h = omega (arith, h)

-- a face that is left has the number at one corner at most
shared-once : (p a b c n : ℕ) (distinct : Bool) →
    distinct ≡ (not (eqb a b) && not (eqb b c) && not (eqb c a)) →
    cond (eqb a p) (cond distinct n 0) 0 +
    (cond (eqb b p) (cond distinct n 0) 0 + cond (eqb c p) (cond distinct n 0) 0) ≡
    cond (eqb a p || eqb b p || eqb c p) (cond distinct n 0) 0
shared-once p a b c n distinct is =
    elim (cases_Bool distinct) [
      | inl stays ↦ rw stays (by (eqb a p) (eqb b p) (eqb c p) refl refl refl (sym is ∙ stays))
      | inr dropped ↦ rw dropped (none (eqb a p) (eqb b p) (eqb c p))
    ]
  where
    none : (x y z : Bool) → cond x 0 0 + (cond y 0 0 + cond z 0 0) ≡ cond {A = ℕ} (x || y || z) 0 0
    none true true true = refl
    none true true false = refl
    none true false true = refl
    none true false false = refl
    none false true true = refl
    none false true false = refl
    none false false true = refl
    none false false false = refl

    apart : (k l m : ℕ) → not (eqb a b) && not (eqb b c) && not (eqb c a) ≡ true →
        ((eqb a p ≡ true) → (eqb b p ≡ true) → ⊥) × ((eqb b p ≡ true) → (eqb c p ≡ true) → ⊥)
        × ((eqb c p ≡ true) → (eqb a p ≡ true) → ⊥)
    apart k l m h =
        let last = and_parts (not (eqb a b) && not (eqb b c)) (not (eqb c a)) h in
        let first = and_parts (not (eqb a b)) (not (eqb b c)) last.0 in
        (two a b first.0, two b c first.1, two c a last.1)
      where
        two : (i j : ℕ) → not (eqb i j) ≡ true → eqb i p ≡ true → eqb j p ≡ true → ⊥
        two i j differ at_i at_j =
            clash (not (eqb i j)) differ
            (ap not (equal_is i j (equal_from i p at_i ∙ sym (equal_from j p at_j))))

    by : (x y z : Bool) → eqb a p ≡ x → eqb b p ≡ y → eqb c p ≡ z →
        not (eqb a b) && not (eqb b c) && not (eqb c a) ≡ true →
        cond x n 0 + (cond y n 0 + cond z n 0) ≡ cond (x || y || z) n 0
    by true true z at_a at_b at_c h = absurd ((apart 0 0 0 h).0 at_a at_b)
    by true false true at_a at_b at_c h = absurd ((apart 0 0 0 h).2 at_c at_a)
    by true false false at_a at_b at_c h = omega arith
    by false true true at_a at_b at_c h = absurd ((apart 0 0 0 h).1 at_b at_c)
    by false true false at_a at_b at_c h = omega arith
    by false false true at_a at_b at_c h = omega arith
    by false false false at_a at_b at_c h = omega arith

share-once : (points : List Pt) (g : Tri → ℕ) (p : ℕ) (f : Face) →
    cond (eqb f.a p) (share points g f) 0 +
    (cond (eqb f.b p) (share points g f) 0 + cond (eqb f.c p) (share points g f) 0) ≡ share_at points g p f
unfolding has_number has_distinct_numbers
share-once points g p f = shared-once p f.a f.b f.c (g (tri_at points f)) (has_distinct_numbers f) refl

-- the sum over the corners of p, where F is the share of a corner's face
sum-corners : (points : List Pt) (g : Tri → ℕ) (p j : ℕ) (F : ℕ → ℕ) (faces : List Face) →
    ((k e : ℕ) → k < length faces → e < 3 → F (3 * (j + k) + e) ≡ share points g (get_or faces k no_face)) →
    sum_at F p (3 * j) (numbers_in faces) ≡ sum_by (share_at points g p) faces
sum-corners points g p j F [] is = refl
sum-corners points g p j F (f ∷ faces) is =
    let first : F (3 * j) ≡ share points g f = ap F (plain 0 (omega arith)) ∙ is 0 0 (omega arith) (omega arith) in
    let second : F (3 * j + 1) ≡ share points g f = ap F (more 1) ∙ is 0 1 (omega arith) (omega arith) in
    let third : F (3 * j + 1 + 1) ≡ share points g f = ap F (two 0) ∙ is 0 2 (omega arith) (omega arith) in
    let next : 3 * j + 1 + 1 + 1 ≡ 3 * (j + 1) = omega arith in
    let rest = sum-corners points g p (j + 1) F faces (λ k e within small.
    ap F (ap (λ m. 3 * m + e) (later k)) ∙ is (suc k) e (omega arith) small) in
    let rest_here : sum_at F p (3 * j + 1 + 1 + 1) (numbers_in faces) ≡ sum_by (share_at points g p) faces =
    ap (λ i. sum_at F p i (numbers_in faces)) next ∙ rest in
    ap (λ n. cond (eqb f.a p) n 0 + (cond (eqb f.b p) (F (3 * j + 1)) 0 +
    (cond (eqb f.c p) (F (3 * j + 1 + 1)) 0 + sum_at F p (3 * j + 1 + 1 + 1) (numbers_in faces)))) first ∙
    ap (λ n. cond (eqb f.a p) (share points g f) 0 + (cond (eqb f.b p) n 0 +
    (cond (eqb f.c p) (F (3 * j + 1 + 1)) 0 + sum_at F p (3 * j + 1 + 1 + 1) (numbers_in faces)))) second ∙
    ap (λ n. cond (eqb f.a p) (share points g f) 0 + (cond (eqb f.b p) (share points g f) 0 +
    (cond (eqb f.c p) n 0 + sum_at F p (3 * j + 1 + 1 + 1) (numbers_in faces)))) third ∙
    (omega (arith, rest_here, share-once points g p f, sum_by-cons (share_at points g p) f faces))
  where
    plain : (e : ℕ) → e ≡ 0 → 3 * j ≡ 3 * (j + 0) + 0
    plain e h = omega arith

    more : (e : ℕ) → 3 * j + e ≡ 3 * (j + 0) + e
    more e = omega arith

    two : (e : ℕ) → 3 * j + 1 + 1 ≡ 3 * (j + 0) + 2
    two e = omega arith

    later : (k : ℕ) → j + 1 + k ≡ j + suc k
    later k = omega arith

third : (k e : ℕ) → e < 3 → (3 * k + e) / 3 ≡ k
third k e small = omega arith

-- the triangles of the faces on the chain of p are those round p, in some order
pub round-alike : (points : List Pt) (p : ℕ) (faces : List Face) (corners : List ℕ) → IsAscending points →
    p < length points → All (IsNumbered (length points)) faces → IsLinkedAt p (numbers_in faces) corners →
    AreAlike (tris_at points (faces_at faces corners)) (around (point_at points p) (tris_at points (left faces)))
round-alike points p faces corners ascending in_p all linked g =
    sum-left points g (map (face_at faces) corners) ∙ sum-mapped points g faces corners ∙
    linked (λ c. share points g (face_at faces c)) ∙
    sum-corners points g p 0 (λ c. share points g (face_at faces c)) faces (λ k e within small.
    ap (share points g) (ap (λ m. get_or faces m no_face) (from_zero k e small))) ∙
    sym (sum-around points g p faces ascending in_p all)
  where
    from_zero : (k e : ℕ) → e < 3 → (3 * (0 + k) + e) / 3 ≡ k
    from_zero k e small = ap (λ m. (3 * m + e) / 3) (plain k) ∙ third k e small
      where
        plain : (m : ℕ) → 0 + m ≡ m
        plain m = omega arith

-- The corners of a list of triangles, and the triangles round a point.
use Rattle.std.proofs.Common.{◌≡◌, ℕ, ◌+◌, ◌<◌, Bool, true, false, not, ◌&&◌, ◌||◌, List, [], ◌∷◌, ◌++◌, length, take}
use Rattle.std.proofs.Common.{get_or, map, filter, flat_map, cond, refl, sym, ap, ◌∙◌, arith}
use Rattle.std.proofs.lemmas.List.{append-nil, map-append, take_more, length-take-le}
use Rattle.std.proofs.lemmas.List.Elements.{filter-append}
use Rattle.std.proofs.lemmas.Grind.{flat_map-append}
use Rattle.std.specs.List.{enumerate_from}
use Rattle.geom_core.specs.declared.points.Pt.{Pt}
use Rattle.geom_core.specs.declared.triangles.Tri.{Tri}
use Rattle.geom_core.specs.EdgeSum.{same_point}
use Rattle.half_mesh.specs.declared.incidences.Incidence.{Incidence}
use Rattle.geom_core.specs.Corners.{has_corner}
use Rattle.half_mesh.specs.Around.{triangles_around}
use Rattle.half_mesh.specs.Corners.{corner_at, corners_at, corners_of}
use Rattle.half_mesh.specs.Incidences.{is_at, at_point}
use Rattle.geom_core.proofs.PointLaws.{true≢false, same_point-from, same_point-refl}

enumerate_from-push : {X : Type 0} (n : ℕ) (xs : List X) (x : X) →
    enumerate_from n (xs ++ x ∷ []) ≡ enumerate_from n xs ++ (n + length xs, x) ∷ []
enumerate_from-push n [] x = ap (λ k. (k, x) ∷ []) (omega arith)
enumerate_from-push n (y ∷ xs) x =
    let place : n + 1 + length xs ≡ n + length (y ∷ xs) = omega arith in
    ap (λ l. (n, y) ∷ l) (enumerate_from-push (n + 1) xs x ∙ ap (λ k. enumerate_from (n + 1) xs ++ (k, x) ∷ []) place)

-- one more triangle
pub corners_of-more : (tris : List Tri) (n : ℕ) (d : Tri) → n < length tris →
    corners_of (take (n + 1) tris) ≡ corners_of (take n tris) ++ corners_at n (get_or tris n d)
corners_of-more tris n d in_bounds =
    let place : 0 + length (take n tris) ≡ n = omega (arith, length-take-le n tris) in
    let t : Tri = get_or tris n d in
    ap corners_of (take_more tris n d in_bounds) ∙
    ap (flat_map (λ ((k, u) : ℕ × Tri). corners_at k u)) (enumerate_from-push 0 (take n tris) t) ∙
    flat_map-append (λ ((k, u) : ℕ × Tri). corners_at k u) (enumerate_from 0 (take n tris))
    ((0 + length (take n tris), t) ∷ []) ∙
    ap (λ l. corners_of (take n tris) ++ l) (append-nil (corners_at (0 + length (take n tris)) t) ∙
    ap (λ k. corners_at k t) place)

and-false : (b : Bool) → b && false ≡ false
and-false true = refl
and-false false = refl

-- of three points that may be p, each is taken once
once : (k : ℕ) (x y z ba ca cb : Bool) →
    (x ≡ true → y ≡ true → ba ≡ true) → (x ≡ false → y ≡ true → ba ≡ false) →
    (x ≡ true → z ≡ true → ca ≡ true) → (x ≡ false → z ≡ true → ca ≡ false) →
    (y ≡ true → z ≡ true → cb ≡ true) → (y ≡ false → z ≡ true → cb ≡ false) →
    (cond x (k ∷ []) []) ++ (cond (not ba && y) (k ∷ []) []) ++ (cond (not (ca || cb) && z) (k ∷ []) []) ≡
    (cond (x || y || z) (k ∷ []) [])
once k true true true ba ca cb h1 h2 h3 h4 h5 h6 = rw (h1 refl refl, h3 refl refl) refl
once k true true false ba ca cb h1 h2 h3 h4 h5 h6 = rw (h1 refl refl, and-false (not (ca || cb))) refl
once k true false true ba ca cb h1 h2 h3 h4 h5 h6 = rw (and-false (not ba), h3 refl refl) refl
once k true false false ba ca cb h1 h2 h3 h4 h5 h6 = rw (and-false (not ba), and-false (not (ca || cb))) refl
once k false true true ba ca cb h1 h2 h3 h4 h5 h6 = rw (h2 refl refl, h4 refl refl, h5 refl refl) refl
once k false true false ba ca cb h1 h2 h3 h4 h5 h6 = rw (h2 refl refl, and-false (not (ca || cb))) refl
once k false false true ba ca cb h1 h2 h3 h4 h5 h6 = rw (and-false (not ba), h4 refl refl, h6 refl refl) refl
once k false false false ba ca cb h1 h2 h3 h4 h5 h6 = rw (and-false (not ba), and-false (not (ca || cb))) refl

abbrev whats : List (Incidence ℕ) → List ℕ
whats incidences = map (λ (incidence : Incidence ℕ). incidence.what) incidences

corner_there : (p : Pt) (k : ℕ) (q : Pt) (repeats : Bool) → whats (at_point p (corner_at k q repeats)) ≡
    (cond (not repeats && same_point q p) (k ∷ []) [])
corner_there p k q true = refl
corner_there p k q false = by (same_point q p) refl
  where
    by : (b : Bool) → same_point q p ≡ b → whats (at_point p (corner_at k q false)) ≡
        (cond (same_point q p) (k ∷ []) [])
    by true is = rw is refl
    by false is = rw is refl

-- a triangle has one corner at each of its points
at_point-corners_at : (p : Pt) (k : ℕ) (t : Tri) →
    whats (at_point p (corners_at k t)) ≡ (cond (has_corner p t) (k ∷ []) [])
unfolding corners_at has_corner
at_point-corners_at p k t =
    ap whats (filter-append (is_at p) (corner_at k t.a false ++ corner_at k t.b (same_point t.b t.a))
    (corner_at k t.c (same_point t.c t.a || same_point t.c t.b)) ∙
    ap (λ l. l ++ at_point p (corner_at k t.c (same_point t.c t.a || same_point t.c t.b)))
    (filter-append (is_at p) (corner_at k t.a false) (corner_at k t.b (same_point t.b t.a)))) ∙
    map-append (λ (incidence : Incidence ℕ). incidence.what)
    (at_point p (corner_at k t.a false) ++ at_point p (corner_at k t.b (same_point t.b t.a)))
    (at_point p (corner_at k t.c (same_point t.c t.a || same_point t.c t.b))) ∙
    ap (λ l. l ++ whats (at_point p (corner_at k t.c (same_point t.c t.a || same_point t.c t.b))))
    (map-append (λ (incidence : Incidence ℕ). incidence.what) (at_point p (corner_at k t.a false))
    (at_point p (corner_at k t.b (same_point t.b t.a)))) ∙
    rw (
      corner_there p k t.a false,
      corner_there p k t.b (same_point t.b t.a),
      corner_there p k t.c (same_point t.c t.a || same_point t.c t.b),
    )
    (once k (same_point t.a p) (same_point t.b p) (same_point t.c p) (same_point t.b t.a) (same_point t.c t.a)
    (same_point t.c t.b)
    (λ x y. both t.b t.a y x) (λ x y. apart t.b t.a y x) (λ x z. both t.c t.a z x) (λ x z. apart t.c t.a z x)
    (λ y z. both t.c t.b z y) (λ y z. apart t.c t.b z y))
  where
    -- a point that is p is one with another that is p, and apart from one that isn't
    both : (q r : Pt) → same_point q p ≡ true → same_point r p ≡ true → same_point q r ≡ true
    both q r h e = same_point-refl q r (same_point-from q p h ∙ sym (same_point-from r p e))

    apart : (q r : Pt) → same_point q p ≡ true → same_point r p ≡ false → same_point q r ≡ false
    apart q r h e = by (same_point q r) refl
      where
        by : (b : Bool) → same_point q r ≡ b → same_point q r ≡ false
        by false is = is
        by true is = absurd (true≢false (sym h ∙ ap (λ v. same_point v p) (same_point-from q r is) ∙ e))

-- the incidences at p name the triangles with corner p
pub around_from : (p : Pt) (n : ℕ) (tris : List Tri) →
    whats (at_point p (flat_map (λ ((k, t) : ℕ × Tri). corners_at k t) (enumerate_from n tris))) ≡
    map (λ ((k, t) : ℕ × Tri). k) (filter (λ ((k, t) : ℕ × Tri). has_corner p t) (enumerate_from n tris))
around_from p n [] = refl
around_from p n (t ∷ tris) =
    ap whats (filter-append (is_at p) (corners_at n t)
    (flat_map (λ ((k, u) : ℕ × Tri). corners_at k u) (enumerate_from (n + 1) tris))) ∙
    map-append (λ (incidence : Incidence ℕ). incidence.what) (at_point p (corners_at n t))
    (at_point p (flat_map (λ ((k, u) : ℕ × Tri). corners_at k u) (enumerate_from (n + 1) tris))) ∙
    rw (at_point-corners_at p n t, around_from p (n + 1) tris) (by (has_corner p t))
  where
    by : (b : Bool) → (cond b (n ∷ []) []) ++ map (λ ((k, u) : ℕ × Tri). k)
        (filter (λ ((k, u) : ℕ × Tri). has_corner p u) (enumerate_from (n + 1) tris)) ≡
        map (λ ((k, u) : ℕ × Tri). k) (cond b ((n, t) ∷ filter (λ ((k, u) : ℕ × Tri). has_corner p u)
        (enumerate_from (n + 1) tris)) (filter (λ ((k, u) : ℕ × Tri). has_corner p u)
        (enumerate_from (n + 1) tris)))
    by true = refl
    by false = refl

pub triangles_around-is : (p : Pt) (tris : List Tri) →
    map (λ (incidence : Incidence ℕ). incidence.what) (at_point p (corners_of tris)) ≡ triangles_around tris p
triangles_around-is p tris = around_from p 0 tris

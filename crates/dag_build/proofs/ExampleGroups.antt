-- Groups of two triangles back to back, whose corners are all free: they collapse to nothing, without a move. Alone
-- they leave nothing, and the group is terminal; beside another triangle it isn't, with error 0. A cluster has 2
-- triangles here.
use Rattle.std.proofs.Common.{◌≡◌, ◌≢◌, ◌∙◌, ◌||◌, ◌&&◌, not, cond, inl, inr, ℕ, ℤ, zero, suc, pos, negsuc, ◌+ℤ◌, Bool}
use Rattle.std.proofs.Common.{true, false, List, [], ◌∷◌, flat_map, Contains, refl, sym, ap, subst, arith}
use Rattle.std.specs.List.{list_all, list_any}
use Rattle.std.specs.Int.{int_wrap, w32}
use Rattle.std.proofs.lemmas.Bool.{and_parts, false≢true, or_cases}
use Rattle.std.proofs.lemmas.Int.{ints}
use Rattle.std.proofs.lemmas.List.Elements.{All-nil}
use Rattle.geom_core.specs.declared.points.Pt.{Pt}
use Rattle.geom_core.specs.declared.triangles.Tri.{Tri}
use Rattle.geom_core.specs.declared.triangles.Tagged.{Tagged}
use Rattle.geom_core.specs.Boxes.{high_of, join_of, low_of}
use Rattle.geom_core.specs.Collapses.{replaced, replaced_point}
use Rattle.geom_core.specs.Corners.{has_corner}
use Rattle.geom_core.specs.Distance.{distance}
use Rattle.geom_core.specs.EdgeSum.{edges_of, same_point}
use Rattle.geom_core.specs.Limits.{has_distinct_corners}
use Rattle.geom_core.specs.Shift.{shift_of}
use Rattle.half_mesh.specs.declared.edges.Edge.{Edge}
use Rattle.half_mesh.specs.Rim.{IsRim, IsRimOf, same_edge, sum_in}
use Rattle.half_mesh.specs.Terms.{term_of, terms_of, total_at}
use Rattle.half_mesh.proofs.RimLaws.{ends_on_rim, rim_from_terms}
use Rattle.partition.specs.Growing.{batches_of, is_grown, is_next}
use Rattle.rim_collapse.specs.declared.states.Kept.{Kept}
use Rattle.rim_collapse.specs.Cost.{cost, goes_before, key_of}
use Rattle.rim_collapse.specs.Least.{IsLeast}
use Rattle.rim_collapse.specs.Legal.{has_both, has_edge, is_among, is_legal, is_legal_collapse, keeps_facing}
use Rattle.rim_collapse.specs.Normals.{cross, dot, minus, normal}
use Rattle.rim_collapse.specs.Simplified.{IsSimplified, Lead}
use Rattle.rim_collapse.specs.States.{after}
use Rattle.rim_collapse.proofs.Following.{edge-from_legal}
use Rattle.dag_build.specs.Grouping.{corners_of}
use Rattle.dag_build.specs.Levels.{source_cluster}
use Rattle.dag_build.specs.Outcomes.{IsOutcome, is_terminal}
use Rattle.dag_build.proofs.ExampleLevels.{at, edges, is-rim, locked, sums, three, triangle}
use Rattle.dag_build.proofs.PointLaws.{among-to, rim_points-from}

-- ---- the least collapse, by its corners alone

or_left_true : (x y : Bool) → x ≡ true → (x || y) ≡ true
or_left_true true y h = refl
or_left_true false y h = absurd (false≢true h)

or_right_true : (x y : Bool) → y ≡ true → (x || y) ≡ true
or_right_true true y h = refl
or_right_true false y h = h

corner-first : (x y z rest : Bool) → (x || y || z) ≡ true → (x || (y || (z || rest))) ≡ true
corner-first true y z rest h = refl
corner-first false true z rest h = refl
corner-first false false true rest h = refl
corner-first false false false rest h = absurd (false≢true h)

-- a corner of a triangle is one of all corners
corner-in : (tris : List Tri) (p : Pt) → list_any (has_corner p) tris ≡ true →
    is_among (flat_map corners_of tris) p ≡ true
unfolding has_corner
corner-in [] p h = h
corner-in (t ∷ tris) p h =
    elim (or_cases (same_point t.a p || same_point t.b p || same_point t.c p) (list_any (has_corner p) tris) h) [
      | inl here ↦ corner-first (same_point t.a p) (same_point t.b p) (same_point t.c p) (is_among
          (flat_map corners_of tris) p) here
      | inr later ↦
          let rest = corner-in tris p later in
          or_right_true (same_point t.a p) _
          (or_right_true (same_point t.b p) _ (or_right_true (same_point t.c p) _ rest))
    ]

both-corners : (tris : List Tri) (p q : Pt) → list_any (has_both p q) tris ≡ true →
    (list_any (has_corner p) tris ≡ true) × (list_any (has_corner q) tris ≡ true)
both-corners [] p q h = absurd (false≢true h)
both-corners (t ∷ tris) p q h =
    elim (or_cases (has_both p q t) (list_any (has_both p q) tris) h) [
      | inl here ↦
          let both = and_parts (has_corner p t) (has_corner q t) here in (
            or_left_true (has_corner p t) (list_any (has_corner p) tris) both.0,
            or_left_true (has_corner q t)
                (list_any (has_corner q) tris) both.1,
          )
      | inr later ↦
          let rest = both-corners tris p q later in (
            or_right_true (has_corner p t) (list_any (has_corner p) tris) rest.0,
            or_right_true (has_corner q t)
                (list_any (has_corner q) tris) rest.1,
          )
    ]

edge-corners : (tris : List Tri) (p q : Pt) → has_edge tris p q ≡ true →
    (list_any (has_corner p) tris ≡ true) × (list_any (has_corner q) tris ≡ true)
unfolding has_edge
edge-corners tris p q h = both-corners tris p q (and_parts (not (same_point p q)) (list_any (has_both p q) tris) h).1

passes-at : (test : Pt → Bool) (points : List Pt) (p : Pt) → list_all test points ≡ true → Contains points p →
    test p ≡ true
passes-at test [] p all (k, below, here) = absurd (omega arith)
passes-at test (q ∷ points) p all (zero, below, here) =
    subst (λ x. test x ≡ true) here (and_parts (test q) (list_all test points) all).0
passes-at test (q ∷ points) p all (suc k, below, here) =
    passes-at test points p (and_parts (test q) (list_all test points) all).1 (k, omega arith, here)

-- no legal collapse of these corners goes before that of p to q
abbrev none_before : List Tri → List Pt → Pt → Pt → Bool
none_before tris locked p q = let corners : List Pt = flat_map corners_of tris in
    list_all (λ x. list_all (λ y. not (is_legal_collapse tris locked x y && goes_before tris x y p q)) corners) corners

least-from : (tris : List Tri) (locked : List Pt) (p q : Pt) → is_legal_collapse tris locked p q ≡ true →
    none_before tris locked p q ≡ true → IsLeast tris locked p q
least-from tris locked p q legal none = record {
  legal = legal;
  first = λ x y is.
      let corners : List Pt = flat_map corners_of tris in
      let ends = edge-corners tris x y (edge-from_legal tris locked x y is) in
      let from = among-to corners x (corner-in tris x ends.0) in
      let to = among-to corners y (corner-in tris y ends.1) in
      let row = passes-at (λ u. list_all (λ v. not (is_legal_collapse tris locked u v && goes_before tris u v p q))
      corners) corners x none from in
      let cell = passes-at (λ v. not (is_legal_collapse tris locked x v && goes_before tris x v p q)) corners y row to
      in
      not_before (is_legal_collapse tris locked x y) (goes_before tris x y p q) is cell;
}
  where
    not_before : (l g : Bool) → l ≡ true → not (l && g) ≡ true → g ≡ false
    not_before true true is h = absurd (false≢true h)
    not_before true false is h = refl
    not_before false g is h = absurd (false≢true is)

-- ---- two triangles back to back

abbrev d : Pt
d = at 8 0

abbrev e : Pt
e = at 12 0

abbrev f : Pt
f = at 8 4

abbrev front : Tri
front = record { a = d; b = e; c = f }

abbrev back : Tri
back = record { a = d; b = f; c = e }

abbrev from_source : ℕ → Tri → Tagged
from_source k t = record { tri = t; source = k }

abbrev pair : List Tagged
pair = from_source 0 front ∷ from_source 1 back ∷ []

-- their edges cancel
cancelled : (x y z : Bool) (rest : ℤ) →
    cond x (pos 1) (pos 0) +ℤ (cond y (negsuc 0) (pos 0) +ℤ (cond z (negsuc 0) (pos 0)
    +ℤ (cond z (pos 1) (pos 0) +ℤ (cond y (pos 1) (pos 0) +ℤ (cond x (negsuc 0) (pos 0) +ℤ rest))))) ≡ rest
cancelled true true true rest = omega (arith, ints)
cancelled true true false rest = omega (arith, ints)
cancelled true false true rest = omega (arith, ints)
cancelled true false false rest = omega (arith, ints)
cancelled false true true rest = omega (arith, ints)
cancelled false true false rest = omega (arith, ints)
cancelled false false true rest = omega (arith, ints)
cancelled false false false rest = omega (arith, ints)

abbrev edge : Pt → Pt → Edge
edge u v = record { u = u; v = v }

pair-cancels : (x : Edge) (rest : ℤ) →
    cond (same_edge (edge d e) x) (pos 1) (pos 0) +ℤ (cond (same_edge (edge f e) x) (negsuc 0) (pos 0)
    +ℤ (cond (same_edge (edge d f) x) (negsuc 0) (pos 0) +ℤ (cond (same_edge (edge d f) x) (pos 1) (pos 0)
    +ℤ (cond (same_edge (edge f e) x) (pos 1) (pos 0) +ℤ (cond (same_edge (edge d e) x) (negsuc 0)
    (pos 0) +ℤ rest))))) ≡ rest
pair-cancels x rest = cancelled (same_edge (edge d e) x) (same_edge (edge f e) x) (same_edge (edge d f) x) rest

wrapped_none : int_wrap w32 (pos 0) ≡ pos 0
unfolding int_wrap
wrapped_none = refl

no-rim : IsRim [] []
no-rim = record {
  ascending = λ i j o less within. absurd (omega arith);
  one_each = refl;
  some = All-nil
      (λ sum. sum ≢ pos 0);
}

rim-pair : IsRimOf (front ∷ back ∷ []) [] []
unfolding sum_in total_at terms_of term_of edges_of
rim-pair =
    rim_from_terms (front ∷ back ∷ []) (flat_map terms_of (front ∷ back ∷ [])) [] [] no-rim
    (λ x. sym (ap (int_wrap w32) (pair-cancels x (pos 0)) ∙ wrapped_none)) (λ x. refl) (omega arith)

least-pair : IsLeast (front ∷ back ∷ []) [] d f
unfolding key_of cost distance has_edge is_legal keeps_facing has_corner same_point has_distinct_corners replaced
    replaced_point normal cross dot minus
least-pair = least-from (front ∷ back ∷ []) [] d f refl refl

simplified-pair : IsSimplified pair [] []
unfolding Lead after has_distinct_corners same_point replaced replaced_point
simplified-pair = record {
  collapses = (d, f) ∷ [];
  lead = (record { too_many = omega arith; least = least-pair }, refl);
  end = inl (omega arith);
}

-- the group leaves nothing, and so it is terminal, though its level has two clusters
pub terminal-pair : IsOutcome 2 2 (record {
  members = source_cluster pair ∷ [];
  error = 0;
  terminal = true;
  cube = record { lo = d; hi = at 12 4 };
  made = [];
})
unfolding is_terminal join_of low_of high_of
terminal-pair = record {
  locked = [];
  rim_points = rim_points-from (front ∷ back ∷ []) [] [] (ends_on_rim (front ∷ back ∷ []) [] [] rim-pair) (λ p. refl);
  kept = [];
  simplified = simplified-pair;
  terminal = refl;
  error = refl;
  cube = refl;
  made = refl;
}

-- ---- and a triangle beside them

abbrev three_tris : List Tri
three_tris = front ∷ back ∷ triangle ∷ []

abbrev three_tagged : List Tagged
three_tagged = from_source 0 front ∷ from_source 1 back ∷ from_source 2 triangle ∷ []

rim-three : IsRimOf three_tris edges sums
unfolding sum_in total_at terms_of term_of edges_of
rim-three =
    rim_from_terms three_tris (flat_map terms_of three_tris) edges sums is-rim
    (λ x. three (same_edge (edge (at 0 0) (at 0 4)) x) (same_edge (edge (at 0 0) (at 4 0)) x) (same_edge (edge
    (at 0 4) (at 4 0)) x)
    ∙ sym (ap (int_wrap w32) (pair-cancels x (total_at x (terms_of triangle))))) (λ x. refl) (omega arith)

least-three : IsLeast three_tris locked d f
unfolding key_of cost distance has_edge is_legal keeps_facing has_corner same_point has_distinct_corners replaced
    replaced_point normal cross dot minus
least-three = least-from three_tris locked d f refl refl

abbrev left : List Kept
left = record { tri = triangle; was = from_source 2 triangle } ∷ []

simplified-three : IsSimplified three_tagged locked left
unfolding Lead after has_distinct_corners same_point replaced replaced_point
simplified-three = record {
  collapses = (d, f) ∷ [];
  lead = (record { too_many = omega arith; least = least-three }, refl);
  end = inl (omega arith);
}

-- one of three triangles is left, and no corner moved: the group goes on, with error 0
pub goes_on-error_0 : IsOutcome 2 2 (record {
  members = source_cluster pair ∷ source_cluster (from_source 2 triangle ∷ []) ∷ [];
  error = 0;
  terminal = false;
  cube = record { lo = at 0 0; hi = at 12 4 };
  made = (from_source 2 triangle ∷ []) ∷ [];
})
unfolding is_terminal join_of low_of high_of shift_of distance is_grown is_next batches_of
goes_on-error_0 = record {
  locked = locked;
  rim_points = rim_points-from three_tris locked locked (ends_on_rim three_tris edges sums rim-three) (λ p. refl);
  kept = left;
  simplified = simplified-three;
  terminal = refl;
  error = refl;
  cube = refl;
  made = record { batches = (0 ∷ []) ∷ []; grown = record { grown = refl; split = refl }; picked = refl };
}

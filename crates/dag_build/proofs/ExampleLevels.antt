-- The levels of a mesh of one triangle, with 2 triangles a cluster and 2 clusters a group: one cluster, in one group,
-- which is terminal since its level has one cluster.
use Rattle.std.proofs.Common.{◌≡◌, ◌≢◌, ◌||◌, ◌&&◌, not, cond, inr, ℕ, ℤ, pos, negsuc, ◌+ℤ◌, Bool, true, false, List}
use Rattle.std.proofs.Common.{[], ◌∷◌, flat_map, refl, sym, arith}
use Rattle.std.specs.Int.{int_wrap, w32}
use Rattle.std.specs.declared.cmp.Ordering.TheVariants.{Less}
use Rattle.std.proofs.lemmas.Bool.{and_parts, false≢true}
use Rattle.std.proofs.lemmas.Int.{ints}
use Rattle.std.proofs.lemmas.List.Elements.{All-cons, All-nil}
use Rattle.std.proofs.lemmas.List.Kept.{AllPairs-cons}
use Rattle.geom_core.specs.declared.points.Pt.{Pt}
use Rattle.geom_core.specs.declared.triangles.Tri.{Tri}
use Rattle.geom_core.specs.declared.triangles.Tagged.{Tagged}
use Rattle.geom_core.specs.Boxes.{high_of, join_of, low_of}
use Rattle.geom_core.specs.Corners.{has_corner}
use Rattle.geom_core.specs.EdgeSum.{edges_of, same_point}
use Rattle.half_mesh.specs.declared.edges.Edge.{Edge}
use Rattle.half_mesh.specs.Order.{edge_cmp}
use Rattle.half_mesh.specs.Rim.{IsRim, IsRimOf, ends_of, same_edge, sum_in}
use Rattle.half_mesh.specs.Terms.{term_of, terms_of, total_at}
use Rattle.half_mesh.proofs.RimLaws.{ends_on_rim, rim_from_terms}
use Rattle.partition.specs.Growing.{batches_of, is_grown, is_next}
use Rattle.rim_collapse.specs.Least.{NoneIsLegal}
use Rattle.rim_collapse.specs.Legal.{has_both, has_edge, is_among, is_legal}
use Rattle.rim_collapse.specs.Simplified.{IsSimplified, Lead}
use Rattle.rim_collapse.specs.States.{begun}
use Rattle.rim_collapse.proofs.Following.{edge-from_legal}
use Rattle.dag_build.specs.declared.level_clusters.LevelCluster.{LevelCluster}
use Rattle.dag_build.specs.Built.{AreLevels, AreLevelsOf}
use Rattle.dag_build.specs.Grouping.{AreGrouped, AreShapesOf, IsShapeOf, Sizes}
use Rattle.dag_build.specs.Levels.{LevelGroup, made_from, numbered, source_cluster}
use Rattle.dag_build.specs.Outcomes.{AreRimPoints, IsOutcome, is_terminal}
use Rattle.dag_build.proofs.OneDag.{nil≢cons}
use Rattle.dag_build.proofs.PointLaws.{rim_points-from}

abbrev pub at : ℕ → ℕ → Pt
at x y = record { x = pos x; y = pos y; z = pos 0 }

abbrev pub a : Pt
a = at 0 0

abbrev pub b : Pt
b = at 4 0

abbrev pub c : Pt
c = at 0 4

abbrev pub triangle : Tri
triangle = record { a = a; b = b; c = c }

abbrev mesh : List Tri
mesh = triangle ∷ []

abbrev tagged : List Tagged
tagged = record { tri = triangle; source = 0 } ∷ []

abbrev pub edge : Pt → Pt → Edge
edge u v = record { u = u; v = v }

-- ---- its rim

abbrev pub edges : List Edge
edges = edge a c ∷ edge a b ∷ edge c b ∷ []

abbrev pub sums : List ℤ
sums = negsuc 0 ∷ pos 1 ∷ negsuc 0 ∷ []

pub three : (x y z : Bool) →
    cond x (negsuc 0) (pos 0) +ℤ (cond y (pos 1) (pos 0) +ℤ (cond z (negsuc 0) (pos 0) +ℤ pos 0))
    ≡ int_wrap w32 (cond y (pos 1) (pos 0) +ℤ (cond z (negsuc 0) (pos 0) +ℤ (cond x (negsuc 0) (pos 0) +ℤ pos 0)))
unfolding int_wrap
three true true true = refl
three true true false = refl
three true false true = refl
three true false false = refl
three false true true = refl
three false true false = refl
three false false true = refl
three false false false = refl

abbrev Before : Edge → Edge → Type 0
Before e f = edge_cmp e f ≡ Less

pub is-rim : IsRim edges sums
is-rim = record {
  ascending =
      AllPairs-cons Before (edge a c) (edge a b ∷ edge c b ∷ [])
      (All-cons (Before (edge a c)) (edge a b) (edge c b ∷ []) refl (All-cons (Before (edge a c)) (edge c b) [] refl
      (All-nil (Before (edge a c)))))
      (AllPairs-cons Before (edge a b) (edge c b ∷ []) (All-cons (Before (edge a b)) (edge c b) [] refl (All-nil
      (Before (edge a b))))
      (AllPairs-cons Before (edge c b) [] (All-nil (Before (edge c b))) (λ i j d less within. absurd (omega arith))));
  one_each = refl;
  some =
      All-cons (λ sum. sum ≢ pos 0) (negsuc 0) (pos 1 ∷ negsuc 0 ∷ []) negative
      (All-cons (λ sum. sum ≢ pos 0) (pos 1) (negsuc 0 ∷ []) positive (All-cons (λ sum. sum ≢ pos 0)
      (negsuc 0) [] negative (All-nil (λ sum. sum ≢ pos 0))));
}
  where
    negative : negsuc 0 ≢ pos 0
    negative h = omega (arith, ints, h)

    positive : pos 1 ≢ pos 0
    positive h = omega (arith, ints, h)

pub rim-triangle : IsRimOf mesh edges sums
unfolding sum_in total_at terms_of term_of edges_of
rim-triangle =
    rim_from_terms mesh (flat_map terms_of mesh) edges sums is-rim
    (λ e. three (same_edge (edge a c) e) (same_edge (edge a b) e) (same_edge (edge c b) e)) (λ e. refl) (omega arith)

-- all three corners are locked
abbrev pub locked : List Pt
locked = ends_of edges

rim_points : AreRimPoints mesh locked
rim_points = rim_points-from mesh locked locked (ends_on_rim mesh edges sums rim-triangle) (λ p. refl)

-- ---- its simplification: no point is free

corner-among : (x y z : Bool) → (x || y || z) ≡ true → (x || (z || (x || (y || (z || (y || false)))))) ≡ true
corner-among true y z h = refl
corner-among false true true h = refl
corner-among false true false h = refl
corner-among false false true h = refl
corner-among false false false h = absurd (false≢true h)

among-locked : (p : Pt) → has_corner p triangle ≡ true → is_among locked p ≡ true
unfolding has_corner
among-locked p h = corner-among (same_point a p) (same_point b p) (same_point c p) h

edge-corner : (p q : Pt) → has_edge mesh p q ≡ true → has_corner p triangle ≡ true
unfolding has_edge
edge-corner p q h =
    let one = (and_parts (not (same_point p q)) (has_both p q triangle || false) h).1 in
    (and_parts (has_corner p triangle) (has_corner q triangle) (first (has_both p q triangle) one)).0
  where
    first : (x : Bool) → (x || false) ≡ true → x ≡ true
    first true k = refl
    first false k = k

not-free : (x y z : Bool) → x ≡ true → (not x && y && z) ≡ true → ⊥
not-free true y z is h = false≢true h
not-free false y z is h = false≢true is

none-legal : NoneIsLegal mesh locked
none-legal p q legal =
    not-free (is_among locked p) (has_edge mesh p q) (is_legal mesh p q)
    (among-locked p (edge-corner p q (edge-from_legal mesh locked p q legal))) legal

simplified-triangle : IsSimplified tagged locked (begun tagged)
unfolding Lead
simplified-triangle = record { collapses = []; lead = refl; end = inr none-legal }

-- ---- its levels

abbrev cluster : LevelCluster
cluster = source_cluster tagged

abbrev group : LevelGroup
group = record { members = cluster ∷ []; error = 0; terminal = true; cube = record { lo = a; hi = at 4 4 }; made = [] }

outcome : IsOutcome 2 1 group
unfolding is_terminal join_of low_of high_of
outcome = record {
  locked = locked;
  rim_points = rim_points;
  kept = begun tagged;
  simplified = simplified-triangle;
  terminal = refl;
  error = refl;
  cube = refl;
  made = refl;
}

-- in a level of two clusters it is terminal too, since all of its triangles are left, and so more than seven eighths
pub terminal-seven_eighths : IsOutcome 2 2 group
unfolding is_terminal join_of low_of high_of
terminal-seven_eighths = record {
  locked = locked;
  rim_points = rim_points;
  kept = begun tagged;
  simplified = simplified-triangle;
  terminal = refl;
  error = refl;
  cube = refl;
  made = refl;
}

shape : IsShapeOf mesh (record { low = a; rim = edges })
unfolding join_of low_of high_of
shape = record { low = refl; sums = sums; rim = rim-triangle }

abbrev two : Sizes
two = record { cluster = 2; group = 2 }

grouped : AreGrouped 2 (cluster ∷ []) ((cluster ∷ []) ∷ [])
unfolding AreShapesOf is_grown is_next batches_of
grouped = record {
  shapes = record { low = a; rim = edges } ∷ [];
  shaped = (shape, tt);
  batches = (0 ∷ []) ∷ [];
  grown = record { grown = refl; split = refl };
  picked = refl;
}

-- a mesh of one triangle has one level, with one group
pub levels_of-triangle : AreLevelsOf two mesh ((group ∷ []) ∷ [])
unfolding AreLevels made_from numbered is_grown is_next batches_of
levels_of-triangle = record {
  leaves = tagged ∷ [];
  cut = record { batches = (0 ∷ []) ∷ []; grown = record { grown = refl; split = refl }; picked = refl };
  grown = (
    some,
    (
      record {
        grouped = grouped;
        outcomes = All-cons (IsOutcome 2 1) group [] outcome (All-nil (IsOutcome 2 1));
      },
      refl,
    ),
  );
}
  where
    some : cluster ∷ [] ≢ []
    some h = nil≢cons (sym h)

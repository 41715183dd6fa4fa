-- The source mesh of a DAG: its edge sums are those of the leaves, and its k-th triangle is the leaf triangle with
-- source k.
use Rattle.std.proofs.Common.{◌≡◌, ◌==◌, ◌<◌, ◌∙◌, ◌∷◌, [], ap, sym, filter, flat_map, ℕ, ℤ, pos, ◌+ℤ◌, Bool, true}
use Rattle.std.proofs.Common.{false, List, All, arith, cond}
use Rattle.std.specs.List.{range_with_len}
use Rattle.std.proofs.lemmas.Int.{ints}
use Rattle.std.proofs.lemmas.List.Elements.{All-head, All-tail}
use Rattle.geom_core.specs.declared.points.Pt.{Pt}
use Rattle.geom_core.specs.declared.triangles.Tri.{Tri}
use Rattle.geom_core.specs.declared.triangles.Tagged.{Tagged}
use Rattle.geom_core.specs.EdgeSum.{edge_sum}
use Rattle.geom_core.specs.TaggedLists.{tris_of}
use Rattle.geom_core.proofs.EdgeSumLaws.{edge_sum-append, edge_sum-none}
use Rattle.dag_core.proofs.WeightSums.{if_so, weigh, weigh-alike, weigh-nothing, weigh-one, weigh-plus}

-- the edge sum of a list of lists
pub edge_sum-lists : {X : Type 0} (lists : X → List Tri) (xs : List X) (u v : Pt) →
    edge_sum (flat_map lists xs) u v ≡ weigh (λ x. edge_sum (lists x) u v) xs
edge_sum-lists lists [] u v = edge_sum-none u v
edge_sum-lists lists (x ∷ xs) u v =
    edge_sum-append (lists x) (flat_map lists xs) u v
    ∙ ap (λ s. edge_sum (lists x) u v +ℤ s) (edge_sum-lists lists xs u v)

-- the triangles with this source
abbrev from_source : List Tagged → ℕ → List Tri
from_source tris source = tris_of (filter (λ t. t.source == source) tris)

first_from : (t : Tagged) (tris : List Tagged) (source : ℕ) (u v : Pt) (same : Bool) →
    edge_sum (tris_of (cond same (t ∷ filter (λ s. s.source == source) tris) (filter
    (λ s. s.source == source) tris))) u v
    ≡ if_so same (edge_sum (t.tri ∷ []) u v) +ℤ edge_sum (from_source tris source) u v
first_from t tris source u v true = edge_sum-append (t.tri ∷ []) (from_source tris source) u v
first_from t tris source u v false = nothing (edge_sum (from_source tris source) u v) where
  nothing : (w : ℤ) → w ≡ pos 0 +ℤ w
  nothing w = omega (arith, ints)

no_tris : (n : ℕ) (u v : Pt) → weigh (λ source. edge_sum (from_source [] source) u v) (range_with_len 0 n) ≡ pos 0
no_tris n u v =
    weigh-alike (λ source. edge_sum (from_source [] source) u v) (λ source. pos 0) n (λ source below. edge_sum-none u v)
    ∙ weigh-nothing (range_with_len 0 n)

by_sources : (tris : List Tagged) (n : ℕ) (u v : Pt) → All (λ t. t.source < n) tris →
    weigh (λ source. edge_sum (from_source tris source) u v) (range_with_len 0 n) ≡ edge_sum (tris_of tris) u v
by_sources [] n u v below = no_tris n u v ∙ sym (edge_sum-none u v)
by_sources (t ∷ tris) n u v below =
    weigh-alike (λ source. edge_sum (from_source (t ∷ tris) source) u v)
    (λ source. if_so (t.source == source) (edge_sum (t.tri ∷ []) u v) +ℤ edge_sum (from_source tris source) u v) n
    (λ source within. first_from t tris source u v (t.source == source))
    ∙ (weigh-plus (λ source. if_so (t.source == source) (edge_sum (t.tri ∷ []) u v)) (λ source. edge_sum
    (from_source tris source) u v)
    (range_with_len 0 n)
    ∙ (ap (λ w. w +ℤ weigh (λ source. edge_sum (from_source tris source) u v) (range_with_len 0 n))
    (weigh-one t.source n (edge_sum (t.tri ∷ []) u v) (All-head (λ (t : Tagged). t.source < n) t tris below))
    ∙ (ap (λ w. edge_sum (t.tri ∷ []) u v +ℤ w) (by_sources tris n u v (All-tail (λ
    (t : Tagged). t.source < n) t tris below))
    ∙ sym (edge_sum-append (t.tri ∷ []) (tris_of tris) u v))))

-- the triangles by their sources have the edge sums of the triangles
pub edge_sum-by_sources : (tris : List Tagged) (n : ℕ) (u v : Pt) → All (λ t. t.source < n) tris →
    edge_sum (flat_map (λ source. tris_of (filter (λ t. t.source == source) tris))
    (range_with_len 0 n)) u v ≡ edge_sum (tris_of tris) u v
edge_sum-by_sources tris n u v below =
    edge_sum-lists (λ source. from_source tris source) (range_with_len 0 n) u v ∙ by_sources tris n u v below

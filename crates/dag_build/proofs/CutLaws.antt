-- Triangles that are numbered, picked by number, and cut into clusters.
use Rattle.std.proofs.Common.{◌≡◌, ◌<◌, ◌≤◌, ◌+◌, ℕ, List, [], ◌∷◌, ◌++◌, map, take, length, get_or, All, refl, sym, ap}
use Rattle.std.proofs.Common.{◌∙◌, subst, arith}
use Rattle.std.proofs.lemmas.List.{get_or-map, length-map, take_more, length-take-le}
use Rattle.std.proofs.lemmas.List.Elements.{All-cons, All-get_or, All-head, All-nil, All-tail}
use Rattle.geom_core.specs.declared.limits.TheConstants.{TRIANGLES_PER_CLUSTER}
use Rattle.geom_core.specs.declared.triangles.Tri.{Tri}
use Rattle.geom_core.specs.declared.triangles.Tagged.{Tagged}
use Rattle.geom_core.specs.EdgeSum.{edges_of}
use Rattle.geom_core.specs.Limits.{IsGridTriangle}
use Rattle.geom_core.specs.TaggedLists.{tris_of}
use Rattle.partition.specs.Batches.{pick}
use Rattle.partition.specs.Clusters.{AreClusters, triangle_key}
use Rattle.partition.proofs.BatchLaws.{full_of_items, numbers_below}
use Rattle.dag_build.specs.Grouping.{no_triangle}
use Rattle.dag_build.specs.Levels.{numbered}

pub numbered-push : (first n : ℕ) (tris : List Tri) (t : Tri) → n ≡ first + length tris →
    numbered first (tris ++ t ∷ []) ≡ numbered first tris ++ record { tri = t; source = n } ∷ []
unfolding numbered
numbered-push first n [] t e =
    let same : n ≡ first = omega arith in
    let one : ℕ → List Tagged = λ k. record { tri = t; source = k } ∷ [] in
    ap one (sym same)
numbered-push first n (s ∷ tris) t e =
    let more : List Tagged → List Tagged = λ xs. record { tri = s; source = first } ∷ xs in
    ap more (numbered-push (first + 1) n tris t (omega arith))

-- one more triangle
pub numbered-more : (tris : List Tri) (i : ℕ) (d : Tri) → i < length tris →
    numbered 0 (take (i + 1) tris) ≡ numbered 0 (take i tris) ++ record { tri = get_or tris i d; source = i } ∷ []
numbered-more tris i d within =
    let len = length-take-le i tris in
    ap (numbered 0) (take_more tris i d within) ∙ numbered-push 0 i (take i tris) (get_or tris i d) (omega arith)

-- the same, of a list that grows by it
pub numbered-step : (tris : List Tri) (i : ℕ) (d : Tri) (old next : List Tagged) → i < length tris →
    old ≡ numbered 0 (take i tris) → next ≡ old ++ record { tri = get_or tris i d; source = i } ∷ [] →
    next ≡ numbered 0 (take (i + 1) tris)
numbered-step tris i d old next within so_far grown =
    let one : Tagged = record { tri = get_or tris i d; source = i } in
    grown ∙ (ap (λ xs. xs ++ one ∷ []) so_far ∙ sym (numbered-more tris i d within))

pub numbered-tris : (first : ℕ) (tris : List Tri) → tris_of (numbered first tris) ≡ tris
unfolding numbered
numbered-tris first [] = refl
numbered-tris first (t ∷ tris) = ap (λ xs. t ∷ xs) (numbered-tris (first + 1) tris)

-- each triangle that is picked is one of the list
picked_one : (tris : List Tagged) (n : ℕ) → n < length tris → All IsGridTriangle (tris_of tris) →
    IsGridTriangle (get_or tris n no_triangle).tri
picked_one tris n within all =
    let plain : Tagged → Tri = λ t. t.tri in
    let len = length-map tris plain in
    subst IsGridTriangle (get_or-map plain tris n no_triangle no_triangle.tri within)
    (All-get_or IsGridTriangle (tris_of tris) n no_triangle.tri (omega arith) all)

pub picked_grid : (tris : List Tagged) (numbers : List ℕ) → All (λ n. n < length tris) numbers →
    All IsGridTriangle (tris_of tris) → All IsGridTriangle (tris_of (pick tris no_triangle numbers))
picked_grid tris [] below all = All-nil IsGridTriangle
picked_grid tris (n ∷ numbers) below all =
    let P : ℕ → Type 0 = λ k. k < length tris in
    All-cons IsGridTriangle (get_or tris n no_triangle).tri (tris_of (pick tris no_triangle numbers))
    (picked_one tris n (All-head P n numbers below) all)
    (picked_grid tris numbers (All-tail P n numbers below) all)

-- the numbers of a cluster are numbers of triangles, and there are few
pub cluster_numbers : (tris : List Tri) (clusters : List (List ℕ)) → AreClusters tris clusters →
    All (λ cluster. All (λ number. number < length tris) cluster) clusters
cluster_numbers tris clusters b =
    let P : ℕ → Type 0 = λ n. All (λ cluster. All (λ number. number < n) cluster) clusters in
    subst P (length-map tris triangle_key)
    (numbers_below (map triangle_key tris) (map edges_of tris) TRIANGLES_PER_CLUSTER clusters b)

pub cluster_sizes : (tris : List Tri) (clusters : List (List ℕ)) → AreClusters tris clusters →
    All (λ cluster. length cluster ≤ TRIANGLES_PER_CLUSTER) clusters
cluster_sizes tris clusters b =
    (full_of_items (map triangle_key tris) (map edges_of tris) TRIANGLES_PER_CLUSTER clusters (omega arith)
    b).size_limit

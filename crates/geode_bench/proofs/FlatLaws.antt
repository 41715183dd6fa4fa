-- The triangles of clusters, made one cluster after the other.
use Rattle.std.proofs.Common.{◌≡◌, ℕ, ◌<◌, ◌+◌, List, [], ◌∷◌, ◌++◌, length, map, take, get_or, sym, ap, ◌∙◌}
use Rattle.std.proofs.lemmas.List.{take_more, map-append}
use Rattle.geom_core.specs.declared.triangles.Tagged.{Tagged}
use Rattle.dag_core.specs.declared.cluster_heads.ClusterHead.{ClusterHead}

abbrev pub sizes_of : List (List Tagged) → List ℕ
sizes_of tris = map (λ members. length members) tris

abbrev pub stated_sizes : List ClusterHead → List ℕ
stated_sizes clusters = map (λ cluster. cluster.tris) clusters

-- one more cluster, of the stated size
pub sizes_more : (tris : List (List Tagged)) (members : List Tagged) →
    (clusters : List ClusterHead) (i : ℕ) (d : ClusterHead) → i < length clusters →
    sizes_of tris ≡ stated_sizes (take i clusters) → length members ≡ (get_or clusters i d).tris →
    sizes_of (tris ++ members ∷ []) ≡ stated_sizes (take (i + 1) clusters)
sizes_more tris members clusters i d below so_far size =
    map-append (λ (m : List Tagged). length m) tris (members ∷ [])
    ∙ ap (λ l. l ++ length members ∷ []) so_far
    ∙ ap (λ n. stated_sizes (take i clusters) ++ n ∷ []) size
    ∙ sym (map-append (λ (c : ClusterHead). c.tris) (take i clusters) (get_or clusters i d ∷ []))
    ∙ ap stated_sizes (sym (take_more clusters i d below))

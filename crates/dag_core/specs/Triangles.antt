-- The triangles of a DAG: those of a cluster, of several, of the leaves, and of the source mesh.
use Rattle.std.specs.Prelude.{◌≡◌, ◌==◌, ℕ, List, [], length, map, filter, flat_map, is_none, slice_index_or}
use Rattle.std.specs.List.{range_with_len}
use Rattle.geom_core.specs.declared.triangles.Tri.{Tri}
use Rattle.geom_core.specs.declared.triangles.Tagged.{Tagged}
use Rattle.geom_core.specs.TaggedLists.{tris_of}
use Rattle.dag_core.specs.declared.heads.Heads.{Heads}
use Rattle.dag_core.specs.declared.dags.Dag.{Dag}
use Rattle.dag_core.specs.Members.{cluster_at, all_clusters}

-- the triangles of a cluster
abbrev pub tris_at : Dag → ℕ → List Tagged
tris_at dag c = slice_index_or dag.tris c []

-- the triangles of these clusters, in order
abbrev pub tris_in : Dag → List ℕ → List Tagged
tris_in dag clusters = flat_map (tris_at dag) clusters

-- the leaves, which no group made, ascending
abbrev pub leaves : Heads → List ℕ
leaves heads = filter (λ c. is_none (cluster_at heads c).made) (all_clusters heads)

-- the triangles of the leaves
abbrev pub leaf_tris : Dag → List Tagged
leaf_tris dag = tris_in dag (leaves dag.heads)

-- the leaf triangles with this source: in a sound DAG exactly one
abbrev pub leaf_tris_from : Dag → ℕ → List Tagged
leaf_tris_from dag source = filter (λ t. t.source == source) (leaf_tris dag)

-- the source mesh: the leaf triangles by their sources. In a sound DAG triangle k is the one with source k
abbrev pub source_of : Dag → List Tri
source_of dag = flat_map (λ source. tris_of (leaf_tris_from dag source)) (range_with_len 0 dag.heads.sources)

-- each cluster has as many triangles as its head states
abbrev pub HasTris : Dag → Type 0
HasTris dag = map (λ tris. length tris) dag.tris ≡ map (λ cluster. cluster.tris) dag.heads.clusters

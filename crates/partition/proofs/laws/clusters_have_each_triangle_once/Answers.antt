use Rattle.std.proofs.Common.{◌<◌, ℕ, All, length, map, slice_index, subst, sym, arith}
use Rattle.std.proofs.lemmas.List.{length-map}
use Rattle.geom_core.specs.declared.limits.TheConstants.{TRIANGLES_PER_CLUSTER}
use Rattle.geom_core.specs.EdgeSum.{edges_of}
use Rattle.partition.specs.Batches.{AreFullButLast}
use Rattle.partition.specs.Clusters.{triangle_key}
use Rattle.partition.specs.Neighbours.{are_neighbours}
use Rattle.partition.proofs.BatchLaws.{full_of_items, numbers_below}
use Rattle.partition.proofs.Permuted.{items_permuted}
use Rattle.partition.proofs.laws.clusters_have_each_triangle_once.Goals as goal

pub returns-clause-triangles : goal.returns-clause-triangles
returns-clause-triangles c tris clusters other b =
    items_permuted tris other (length (map triangle_key tris))
    (sym (length-map tris triangle_key)) TRIANGLES_PER_CLUSTER
    (slice_index (map triangle_key tris)) (are_neighbours (map edges_of tris)) clusters b.grown

pub returns-clause-number_range : goal.returns-clause-number_range
returns-clause-number_range c tris clusters b =
    let P : ℕ → Type 0 = λ n. All (λ cluster. All (λ number. number < n) cluster) clusters in
    subst P (length-map tris triangle_key) (numbers_below (map triangle_key tris)
    (map edges_of tris) TRIANGLES_PER_CLUSTER clusters b)

pub returns-clause-full : goal.returns-clause-full
returns-clause-full c tris clusters b =
    let P : ℕ → Type 0 = λ n. AreFullButLast TRIANGLES_PER_CLUSTER n clusters in
    subst P (length-map tris triangle_key) (full_of_items (map triangle_key tris)
    (map edges_of tris) TRIANGLES_PER_CLUSTER clusters (omega arith) b)

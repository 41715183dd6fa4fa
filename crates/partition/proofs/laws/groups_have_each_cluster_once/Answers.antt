use Rattle.std.proofs.Common.{◌<◌, ◌∙◌, ℕ, All, length, map, slice_index, subst, sym, arith}
use Rattle.std.proofs.lemmas.List.{length-map}
use Rattle.geom_core.specs.declared.limits.TheConstants.{CLUSTERS_PER_GROUP}
use Rattle.partition.specs.Batches.{AreFullButLast}
use Rattle.partition.specs.Groups.{rim_edges, shape_key}
use Rattle.partition.specs.Neighbours.{are_neighbours}
use Rattle.partition.proofs.BatchLaws.{full_of_items, numbers_below}
use Rattle.partition.proofs.Permuted.{lists_permuted}
use Rattle.partition.proofs.laws.groups_have_each_cluster_once.Goals as goal

pub returns-clause-lists : goal.returns-clause-lists
returns-clause-lists g c shapes groups lists b same =
    lists_permuted lists (length (map shape_key shapes)) (same ∙ sym (length-map shapes shape_key)) CLUSTERS_PER_GROUP
    (slice_index (map shape_key shapes)) (are_neighbours (map rim_edges shapes)) groups b.grown

pub returns-clause-number_range : goal.returns-clause-number_range
returns-clause-number_range g c shapes groups b =
    let P : ℕ → Type 0 = λ n. All (λ group. All (λ number. number < n) group) groups in
    subst P (length-map shapes shape_key) (numbers_below (map shape_key shapes)
    (map rim_edges shapes) CLUSTERS_PER_GROUP groups b)

pub returns-clause-full : goal.returns-clause-full
returns-clause-full g c shapes groups b =
    let P : ℕ → Type 0 = λ n. AreFullButLast CLUSTERS_PER_GROUP n groups in
    subst P (length-map shapes shape_key) (full_of_items (map shape_key shapes)
    (map rim_edges shapes) CLUSTERS_PER_GROUP groups (omega arith) b)

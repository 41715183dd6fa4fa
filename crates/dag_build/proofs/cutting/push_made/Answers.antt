use Rattle.std.proofs.Common.{List, ℕ, All, ◌<◌, ◌≤◌, length, subst, sym, ◌∙◌}
use Rattle.std.proofs.lemmas.List.{length-map}
use Rattle.geom_core.specs.declared.limits.TheConstants.{TRIANGLES_PER_CLUSTER}
use Rattle.geom_core.specs.declared.triangles.Tagged.{Tagged}
use Rattle.geom_core.specs.declared.triangles.Tri.{Tri}
use Rattle.geom_core.specs.TaggedLists.{tris_of}
use Rattle.partition.specs.Clusters.{AreClusters}
use Rattle.dag_build.proofs.CutLaws.{cluster_numbers, cluster_sizes}
use Rattle.dag_build.proofs.cutting.push_made.Goals as goal

are_clusters : (c : goal.After-deref-2) → AreClusters (tris_of c.args.left.now) c.in_ok-batches.batches.items
are_clusters c =
    subst (λ tris. AreClusters tris c.in_ok-batches.batches.items) (c.deref.ensures.value ∙
    c.in_ok-plain.ensures.triangles)
    c.in_ok-batches.ensures

pub push_clusters-requires-clause-number_range : goal.push_clusters-requires-clause-number_range
push_clusters-requires-clause-number_range c =
    let plain : Tagged → Tri = λ t. t.tri in
    let P : List (List ℕ) → Type 0 = λ xs. All (λ batch. All (λ number. number < length c.args.left.now) batch) xs in
    let Q : ℕ → Type 0 = λ n. All (λ batch. All (λ number. number < n) batch) c.in_ok-batches.batches.items in
    subst P (sym c.deref-2.ensures.value) (subst Q (length-map c.args.left.now plain)
    (cluster_numbers (tris_of c.args.left.now) c.in_ok-batches.batches.items (are_clusters c)))

pub push_clusters-requires-clause-size_limit : goal.push_clusters-requires-clause-size_limit
push_clusters-requires-clause-size_limit c =
    let P : List (List ℕ) → Type 0 = λ xs. All (λ batch. length batch ≤ TRIANGLES_PER_CLUSTER) xs in
    subst P (sym c.deref-2.ensures.value)
    (cluster_sizes (tris_of c.args.left.now) c.in_ok-batches.batches.items (are_clusters c))

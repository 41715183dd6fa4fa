use Rattle.std.proofs.Common.{List, ℕ, All, ◌<◌, ◌≤◌, ◌≡◌, ◌++◌, length, map, subst, sym, ap, ◌∙◌, refl}
use Rattle.std.proofs.lemmas.List.{length-map}
use Rattle.geom_core.specs.declared.limits.TheConstants.{TRIANGLES_PER_CLUSTER}
use Rattle.geom_core.specs.declared.triangles.Tagged.{Tagged}
use Rattle.geom_core.specs.declared.triangles.Tri.{Tri}
use Rattle.geom_core.specs.Limits.{IsGridTriangle}
use Rattle.geom_core.specs.TaggedLists.{tris_of}
use Rattle.partition.specs.Batches.{pick}
use Rattle.partition.specs.Clusters.{AreClusters}
use Rattle.dag_build.specs.declared.level_clusters.LevelCluster.{LevelCluster}
use Rattle.dag_build.specs.Grouping.{no_triangle}
use Rattle.dag_build.specs.Levels.{numbered, source_cluster}
use Rattle.dag_build.proofs.CutLaws.{cluster_numbers, cluster_sizes, numbered-tris}
use Rattle.dag_build.proofs.cutting.cut_sources.Goals as goal

are_clusters : (c : goal.After-deref-3) → AreClusters c.args.tris.items c.in_ok-batches.batches.items
are_clusters c = subst (λ tris. AreClusters tris c.in_ok-batches.batches.items)
    c.deref.ensures.value c.in_ok-batches.ensures

tagged_is : (c : goal.After-deref-3) → c.deref-2.result.now ≡ numbered 0 c.args.tris.items
tagged_is c = c.deref-2.ensures.value ∙ c.in_ok-tagged.ensures.triangles

pub push_clusters-requires-clause-number_range : goal.push_clusters-requires-clause-number_range
push_clusters-requires-clause-number_range c =
    let plain : Tagged → Tri = λ t. t.tri in
    let len : length c.args.tris.items ≡ length c.deref-2.result.now =
    sym (ap length (ap tris_of (tagged_is c) ∙ numbered-tris 0 c.args.tris.items)) ∙
    length-map c.deref-2.result.now plain in
    let P : List (List ℕ) → Type 0 = λ xs. All (λ batch. All (λ number. number < length c.deref-2.result.now) batch)
    xs in
    let Q : ℕ → Type 0 = λ n. All (λ batch. All (λ number. number < n) batch) c.in_ok-batches.batches.items in
    subst P (sym c.deref-3.ensures.value) (subst Q len
    (cluster_numbers c.args.tris.items c.in_ok-batches.batches.items (are_clusters c)))

pub push_clusters-requires-clause-size_limit : goal.push_clusters-requires-clause-size_limit
push_clusters-requires-clause-size_limit c =
    let P : List (List ℕ) → Type 0 = λ xs. All (λ batch. length batch ≤ TRIANGLES_PER_CLUSTER) xs in
    subst P (sym c.deref-3.ensures.value) (cluster_sizes c.args.tris.items c.in_ok-batches.batches.items
    (are_clusters c))

pub push_clusters-requires-clause-triangles : goal.push_clusters-requires-clause-triangles
push_clusters-requires-clause-triangles c =
    subst (All IsGridTriangle) (sym (ap tris_of (tagged_is c) ∙ numbered-tris 0 c.args.tris.items))
    c.requires.triangles.each

pub returns : goal.returns
returns c =
    let batches = c.in_ok-batches.batches.items in
    let made : List Tagged → List (List ℕ) → List LevelCluster = λ tris xs. map source_cluster (map
    (pick tris no_triangle) xs) in
    let grown = c.in_ok-push_clusters.ensures.clusters in
    record {
      clusters = (
        map (pick (numbered 0 c.args.tris.items) no_triangle) batches,
        record {
          batches = batches;
          grown = subst (λ tris. AreClusters tris batches) (sym (numbered-tris 0 c.args.tris.items))
              (subst (λ tris. AreClusters tris batches) c.deref.ensures.value c.in_ok-batches.ensures);
          picked = refl;
        },
        grown ∙ (ap (λ (xs : List LevelCluster). xs ++ made c.deref-2.result.now c.deref-3.result.now)
            c.in_ok-clusters.ensures.items ∙
            (ap (λ tris. made tris c.deref-3.result.now) (c.deref-2.ensures.value ∙ c.in_ok-tagged.ensures.triangles)
            ∙ ap (made (numbered 0 c.args.tris.items)) c.deref-3.ensures.value)),
      );
    }

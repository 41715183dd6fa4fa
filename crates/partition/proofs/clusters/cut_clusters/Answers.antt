use Rattle.geom_core.specs.declared.points.Pt.{Pt}
use Rattle.std.specs.List.{slice_index_or}
use Rattle.std.proofs.Common.{[], ◌≡◌, ◌<◌, ◌+◌, List, ℕ, All, length, map, subst, sym, ap, ◌∙◌, arith}
use Rattle.std.proofs.lemmas.List.{length-map}
use Rattle.std.proofs.lemmas.Result.{IfOk-weaker}
use Rattle.geom_core.specs.declared.triangles.Tri.{Tri}
use Rattle.geom_core.specs.declared.limits.TheConstants.{TRIANGLES_PER_CLUSTER}
use Rattle.geom_core.specs.EdgeSum.{edges_of}
use Rattle.partition.specs.declared.edge_uses.EdgeUse.{EdgeUse}
use Rattle.partition.specs.Internal.RankBatches.{AreBatchesOfRanks}
use Rattle.partition.specs.Clusters.{AreClusters, triangle_key}
use Rattle.partition.specs.Internal.Ranking.{IsRanking}
use Rattle.partition.specs.Internal.EdgeUses.{IsUseBelow, in_order, uses_from}
use Rattle.partition.proofs.BatchLists.{All-ranking, batches_from_renumbered, length-ranking}
use Rattle.partition.proofs.EdgeUseLists.{All-uses_from}
use Rattle.partition.proofs.clusters.cut_clusters.Goals as goal

-- the order is a ranking by the triangles' keys, as long as the list of triangles
ranked : (tris : List Tri) (seen keys order : List ℕ) → seen ≡ keys → keys ≡ map triangle_key tris →
    IsRanking seen order → IsRanking (map triangle_key tris) order
ranked tris seen keys order e f h = let P : List ℕ → Type 0 = λ xs. IsRanking xs order in subst P (e ∙ f) h

length-order : (tris : List Tri) (order : List ℕ) → IsRanking (map triangle_key tris) order → length order ≡ length tris
length-order tris order h = length-ranking (map triangle_key tris) order h ∙ length-map tris triangle_key

pub triangle_uses-requires-clause-item_limit : goal.triangle_uses-requires-clause-item_limit
triangle_uses-requires-clause-item_limit c =
    let h = ranked c.args.tris.now _ _ _ c.deref.ensures.value c.in_ok-keys.ensures c.in_ok-order.ensures in
    omega (arith, length-order c.args.tris.now c.in_ok-order.order.items h, ap length c.deref-2.ensures.value)

pub triangle_uses-requires-clause-number_range : goal.triangle_uses-requires-clause-number_range
triangle_uses-requires-clause-number_range c =
    let h = ranked c.args.tris.now _ _ _ c.deref.ensures.value c.in_ok-keys.ensures c.in_ok-order.ensures in
    let P : ℕ → Type 0 = λ n. All (λ i. i < n) c.in_ok-order.order.items in
    let Q : List ℕ → Type 0 = λ xs. All (λ i. i < length c.args.tris.now) xs in
    subst Q (sym c.deref-2.ensures.value) (subst P (length-map c.args.tris.now triangle_key)
    (All-ranking (map triangle_key c.args.tris.now) c.in_ok-order.order.items h))

pub grow_batches-requires-clause-item_limit : goal.grow_batches-requires-clause-item_limit
grow_batches-requires-clause-item_limit c =
    let h = ranked c.args.tris.now _ _ _ c.deref.ensures.value c.in_ok-keys.ensures c.in_ok-order.ensures in
    omega (arith, length-order c.args.tris.now c.in_ok-order.order.items h, ap length c.deref-3.ensures.value)

pub grow_batches-requires-clause-rank_range : goal.grow_batches-requires-clause-rank_range
grow_batches-requires-clause-rank_range c =
    let items = in_order (map edges_of c.args.tris.now) c.deref-2.result.now in
    let item : ℕ → List (Pt × Pt) = λ number. slice_index_or (map edges_of c.args.tris.now) number [] in
    let len : 0 + length (in_order (map edges_of c.args.tris.now) c.deref-2.result.now) ≡ length c.deref-3.result.now =
    omega (
      arith,
      length-map c.deref-2.result.now item,
      ap length c.deref-2.ensures.value,
      ap length c.deref-3.ensures.value,
    ) in
    let P : List EdgeUse → Type 0 = λ xs. All (IsUseBelow (length c.deref-3.result.now)) xs in
    subst P (sym c.in_ok-uses.ensures) (All-uses_from 0 (length c.deref-3.result.now)
    (in_order (map edges_of c.args.tris.now) c.deref-2.result.now) (omega arith))

pub returns : goal.returns
returns c =
    let h = ranked c.args.tris.now _ _ _ c.deref.ensures.value c.in_ok-keys.ensures c.in_ok-order.ensures in
    let order : List ℕ = c.in_ok-order.order.items in
    let P : List ℕ → Type 0 = λ xs. IsRanking (map triangle_key c.args.tris.now) xs in
    let same : c.deref-2.result.now ≡ c.deref-3.result.now = c.deref-2.ensures.value ∙ sym c.deref-3.ensures.value in
    IfOk-weaker c.grow_batches.result (λ batches. AreBatchesOfRanks c.deref-3.result.now c.in_ok-uses.uses.items
    TRIANGLES_PER_CLUSTER batches.items) (λ clusters. AreClusters c.args.tris.now clusters.items)
    (λ batches t. batches_from_renumbered (map triangle_key c.args.tris.now)
    (map edges_of c.args.tris.now) c.deref-3.result.now c.in_ok-uses.uses.items TRIANGLES_PER_CLUSTER batches.items
    (omega arith)
    (subst P (sym c.deref-3.ensures.value) h)
    (c.in_ok-uses.ensures ∙ ap (λ xs. uses_from 0 (in_order (map edges_of c.args.tris.now) xs)) same) t)
    c.grow_batches.ensures

use Rattle.geom_core.specs.declared.points.Pt.{Pt}
use Rattle.std.specs.List.{slice_index_or}
use Rattle.std.proofs.Common.{[], ◌≡◌, ◌<◌, ◌+◌, List, ℕ, All, length, map, subst, sym, ap, ◌∙◌, arith}
use Rattle.std.proofs.lemmas.List.{length-map}
use Rattle.std.proofs.lemmas.Result.{IfOk-weaker}
use Rattle.geom_core.specs.declared.limits.TheConstants.{CLUSTERS_PER_GROUP}
use Rattle.partition.specs.declared.shapes.ClusterShape.{ClusterShape}
use Rattle.partition.specs.declared.edge_uses.EdgeUse.{EdgeUse}
use Rattle.partition.specs.Internal.RankBatches.{AreBatchesOfRanks}
use Rattle.partition.specs.Groups.{AreGroups, rim_edges, shape_key}
use Rattle.partition.specs.Internal.Ranking.{IsRanking}
use Rattle.partition.specs.Internal.EdgeUses.{IsUseBelow, in_order, uses_from}
use Rattle.partition.proofs.BatchLists.{All-ranking, batches_from_renumbered, length-ranking}
use Rattle.partition.proofs.EdgeUseLists.{All-uses_from}
use Rattle.partition.proofs.groups.cut_groups.Goals as goal

-- the order is a ranking by the clusters' keys, as long as the list of clusters
ranked : (shapes : List ClusterShape) (seen keys order : List ℕ) → seen ≡ keys → keys ≡ map shape_key shapes →
    IsRanking seen order → IsRanking (map shape_key shapes) order
ranked shapes seen keys order e f h = let P : List ℕ → Type 0 = λ xs. IsRanking xs order in subst P (e ∙ f) h

length-order : (shapes : List ClusterShape) (order : List ℕ) → IsRanking (map shape_key shapes) order →
    length order ≡ length shapes
length-order shapes order h = length-ranking (map shape_key shapes) order h ∙ length-map shapes shape_key

pub shape_uses-requires-clause-item_limit : goal.shape_uses-requires-clause-item_limit
shape_uses-requires-clause-item_limit c =
    let h = ranked c.args.shapes.now _ _ _ c.deref.ensures.value c.in_ok-keys.ensures c.in_ok-order.ensures in
    omega (arith, length-order c.args.shapes.now c.in_ok-order.order.items h, ap length c.deref-2.ensures.value)

pub shape_uses-requires-clause-number_range : goal.shape_uses-requires-clause-number_range
shape_uses-requires-clause-number_range c =
    let h = ranked c.args.shapes.now _ _ _ c.deref.ensures.value c.in_ok-keys.ensures c.in_ok-order.ensures in
    let P : ℕ → Type 0 = λ n. All (λ i. i < n) c.in_ok-order.order.items in
    let Q : List ℕ → Type 0 = λ xs. All (λ i. i < length c.args.shapes.now) xs in
    subst Q (sym c.deref-2.ensures.value) (subst P (length-map c.args.shapes.now shape_key)
    (All-ranking (map shape_key c.args.shapes.now) c.in_ok-order.order.items h))

pub grow_batches-requires-clause-item_limit : goal.grow_batches-requires-clause-item_limit
grow_batches-requires-clause-item_limit c =
    let h = ranked c.args.shapes.now _ _ _ c.deref.ensures.value c.in_ok-keys.ensures c.in_ok-order.ensures in
    omega (arith, length-order c.args.shapes.now c.in_ok-order.order.items h, ap length c.deref-3.ensures.value)

pub grow_batches-requires-clause-rank_range : goal.grow_batches-requires-clause-rank_range
grow_batches-requires-clause-rank_range c =
    let items = in_order (map rim_edges c.args.shapes.now) c.deref-2.result.now in
    let item : ℕ → List (Pt × Pt) = λ number. slice_index_or (map rim_edges c.args.shapes.now) number [] in
    let len : 0 + length (in_order (map rim_edges c.args.shapes.now) c.deref-2.result.now) ≡ length
    c.deref-3.result.now =
    omega (
      arith,
      length-map c.deref-2.result.now item,
      ap length c.deref-2.ensures.value,
      ap length c.deref-3.ensures.value,
    ) in
    let P : List EdgeUse → Type 0 = λ xs. All (IsUseBelow (length c.deref-3.result.now)) xs in
    subst P (sym c.in_ok-uses.ensures) (All-uses_from 0 (length c.deref-3.result.now)
    (in_order (map rim_edges c.args.shapes.now) c.deref-2.result.now) (omega arith))

pub returns : goal.returns
returns c =
    let h = ranked c.args.shapes.now _ _ _ c.deref.ensures.value c.in_ok-keys.ensures c.in_ok-order.ensures in
    let order : List ℕ = c.in_ok-order.order.items in
    let P : List ℕ → Type 0 = λ xs. IsRanking (map shape_key c.args.shapes.now) xs in
    let same : c.deref-2.result.now ≡ c.deref-3.result.now = c.deref-2.ensures.value ∙ sym c.deref-3.ensures.value in
    IfOk-weaker c.grow_batches.result (λ batches. AreBatchesOfRanks c.deref-3.result.now c.in_ok-uses.uses.items
    CLUSTERS_PER_GROUP batches.items) (λ groups. AreGroups c.args.shapes.now groups.items)
    (λ batches t. batches_from_renumbered (map shape_key c.args.shapes.now)
    (map rim_edges c.args.shapes.now) c.deref-3.result.now c.in_ok-uses.uses.items CLUSTERS_PER_GROUP batches.items
    (omega arith)
    (subst P (sym c.deref-3.ensures.value) h)
    (c.in_ok-uses.ensures ∙ ap (λ xs. uses_from 0 (in_order (map rim_edges c.args.shapes.now) xs)) same) t)
    c.grow_batches.ensures

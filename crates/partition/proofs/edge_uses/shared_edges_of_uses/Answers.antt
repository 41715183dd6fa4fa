use Rattle.std.proofs.Common.{◌≡◌, List, ℕ, All, subst, sym, ap, ◌∙◌}
use Rattle.std.proofs.lemmas.List.Elements.{All-weaker}
use Rattle.std.proofs.lemmas.List.Sorted.{All-permutation}
use Rattle.std.proofs.lemmas.Result.{IfOk-weaker}
use Rattle.partition.specs.declared.edge_uses.EdgeUse.{EdgeUse}
use Rattle.partition.specs.Internal.SharedEdges.{are_adjacent}
use Rattle.partition.specs.Internal.EdgeUses.{HasEdgeKey, IsUseBelow, are_adjacent_in}
use Rattle.partition.proofs.EdgeUseLists.{are_adjacent_in-IsPermutation}
use Rattle.partition.proofs.edge_uses.shared_edges_of_uses.Goals as goal

pub sort_uses-requires : goal.sort_uses-requires
sort_uses-requires c = All-weaker (IsUseBelow c.args.count) HasEdgeKey (λ s h. h.key) c.args.uses.items c.requires

pub shared_edges_in_order-requires-clause-rank_range : goal.shared_edges_in_order-requires-clause-rank_range
shared_edges_in_order-requires-clause-rank_range c =
    let P : List EdgeUse → Type 0 = λ xs. All (IsUseBelow c.args.count) xs in
    subst P (sym c.deref.ensures.value) (All-permutation
    (IsUseBelow c.args.count) c.args.uses.items c.sort_uses.new.uses.items c.sort_uses.ensures.all c.requires)

pub returns-clause-adjacency : goal.returns-clause-adjacency
returns-clause-adjacency c =
    IfOk-weaker c.shared_edges_in_order.result
    (λ shared. (i j : ℕ) → are_adjacent shared i j ≡ are_adjacent_in c.deref.result.now i j)
    (λ shared. (i j : ℕ) → are_adjacent shared i j ≡ are_adjacent_in c.args.uses.items i j)
    (λ shared f i j. f i j ∙ (ap (λ s. are_adjacent_in s i j) c.deref.ensures.value ∙
    sym (are_adjacent_in-IsPermutation c.args.uses.items c.sort_uses.new.uses.items i j c.sort_uses.ensures.all)))
    c.shared_edges_in_order.ensures.adjacency

use Rattle.std.proofs.Common.{◌≡◌, List, ℕ, All, subst, sym, ap, ◌∙◌}
use Rattle.partition.specs.Internal.SharedEdges.{AreStarts, IsSharedEdge, are_adjacent, shared_edges_of}
use Rattle.partition.specs.Internal.EdgeUses.{edge_starts}
use Rattle.partition.proofs.Adjacency.{cuts, are_starts, adjacent_both_ways, are_shared_edges, ranks_in}
use Rattle.partition.proofs.edge_uses.shared_edges_in_order.Goals as goal

pub of-requires : goal.of-requires
of-requires c =
    let P : List ℕ → Type 0 = λ xs. AreStarts xs c.in_ok-starts.starts.items in
    let Q : List ℕ → Type 0 = λ xs. AreStarts (ranks_in c.args.uses.now) xs in
    subst P (sym c.in_ok-items.ensures) (subst Q (sym c.in_ok-starts.ensures)
    (are_starts c.args.uses.now (edge_starts c.args.uses.now) (cuts c.args.uses.now)))

pub returns-clause-adjacency : goal.returns-clause-adjacency
returns-clause-adjacency c = λ i j.
    let s = c.args.uses.now in
    let is : c.of.result ≡ shared_edges_of (ranks_in c.args.uses.now) (edge_starts c.args.uses.now) =
    c.of.ensures ∙ (ap (λ xs. shared_edges_of xs c.in_ok-starts.starts.items) c.in_ok-items.ensures ∙
    ap (λ xs. shared_edges_of (ranks_in c.args.uses.now) xs) c.in_ok-starts.ensures) in
    ap (λ r. are_adjacent r i j) is ∙ adjacent_both_ways c.args.uses.now (edge_starts c.args.uses.now)
    (cuts c.args.uses.now) c.requires.in_order i j

pub returns-clause-sound : goal.returns-clause-sound
returns-clause-sound c =
    let is : c.of.result ≡ shared_edges_of (ranks_in c.args.uses.now) (edge_starts c.args.uses.now) =
    c.of.ensures ∙ (ap (λ xs. shared_edges_of xs c.in_ok-starts.starts.items) c.in_ok-items.ensures ∙
    ap (λ xs. shared_edges_of (ranks_in c.args.uses.now) xs) c.in_ok-starts.ensures) in
    let P : List (List ℕ) → Type 0 = λ shared. All (IsSharedEdge c.args.count) shared in
    subst P (sym is) (are_shared_edges c.args.uses.now (edge_starts c.args.uses.now) c.args.count
    (cuts c.args.uses.now) c.requires.in_order c.requires.rank_range)

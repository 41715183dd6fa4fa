-- Edge uses that were sorted are in order.
use Rattle.std.proofs.Common.{◌≡◌, ℕ, ◌<◌, ◌≤◌, false, List, length, refl, sym, ap, ◌∙◌, subst, arith, IsSorted, All}
use Rattle.std.specs.Cmp.{IsTotalOrder}
use Rattle.std.specs.Ordering.{is_lt, nat_cmp, ordering_then, ordering_reverse}
use Rattle.std.specs.declared.cmp.Ordering.{Ordering}
use Rattle.std.specs.declared.cmp.Ordering.TheVariants.{Less, Equal, Greater}
use Rattle.std.proofs.lemmas.Bool.Decides.{nat_tests}
use Rattle.std.proofs.lemmas.Cmp.{then_total, on_total, nat_cmp_total, tied_itself}
use Rattle.std.proofs.lemmas.List.Sorted.{ranks_by, sorted_far}
use Rattle.geom_core.specs.Order.{point_cmp}
use Rattle.half_mesh.specs.declared.edges.Edge.{Edge}
use Rattle.half_mesh.specs.Order.{edge_cmp}
use Rattle.partition.specs.declared.edge_uses.EdgeUse.{EdgeUse}
use Rattle.partition.specs.Internal.EdgeUses.{AreInOrder, HasEdgeKey, edge_key, use_at, no_use}
use Rattle.partition.proofs.SameEdges.{edges_from_one, on_one_edge-from, point_cmp_total, points_from_tie, same_edges}
use Rattle.partition.proofs.SameEdges.{then_ties}

-- by key, then by edge, then by rank
abbrev pub use_cmp : EdgeUse → EdgeUse → Ordering
use_cmp s t = ordering_then (nat_cmp s.key t.key) (ordering_then (edge_cmp s.edge t.edge) (nat_cmp s.rank t.rank))

edge_cmp_total : IsTotalOrder edge_cmp
edge_cmp_total =
    then_total (on_total (λ (e : Edge). e.u) point_cmp_total) (on_total (λ (e : Edge). e.v) point_cmp_total)

use_cmp_total : IsTotalOrder use_cmp
use_cmp_total = then_total (on_total (λ (s : EdgeUse). s.key) nat_cmp_total)
    (then_total (on_total (λ (s : EdgeUse). s.edge) edge_cmp_total) (on_total (λ (s : EdgeUse). s.rank) nat_cmp_total))

edges_from_tie : (e f : Edge) → edge_cmp e f ≡ Equal → e ≡ f
edges_from_tie e f h =
    let w = then_ties (point_cmp e.u f.u) (point_cmp e.v f.v) h in
    same_edges e f (points_from_tie e.u f.u w.0) (points_from_tie e.v f.v w.1)

-- what isn't less as a whole isn't less in its first part
first_not_less : (a b : Ordering) → is_lt (ordering_then a b) ≡ false → is_lt a ≡ false
first_not_less Less b e = e
first_not_less Equal b e = refl
first_not_less Greater b e = refl

tie : (a : Ordering) → is_lt a ≡ false → is_lt (ordering_reverse a) ≡ false → a ≡ Equal
tie Less e f = cc
tie Equal e f = refl
tie Greater e f = cc

not_less_from_cmp : (m n : ℕ) → is_lt (nat_cmp m n) ≡ false → n ≤ m
not_less_from_cmp m n e = grind (arith, nat_tests)

-- where the first part ties, the second isn't less
second_not_less : (m n : ℕ) (o : Ordering) → m ≡ n → is_lt (ordering_then (nat_cmp m n) o) ≡ false → is_lt o ≡ false
second_not_less m n o e h =
    let P : ℕ → Type 0 = λ k. is_lt (ordering_then (nat_cmp m k) o) ≡ false in
    ap (λ a. is_lt (ordering_then a o)) (sym (tied_itself nat_cmp_total m)) ∙ subst P (sym e) h

-- edge uses on one edge have one key
keys_from_edge : (s t : EdgeUse) → HasEdgeKey s → HasEdgeKey t → s.edge ≡ t.edge → s.key ≡ t.key
keys_from_edge s t h k e = h ∙ (ap edge_key e ∙ sym k)

rises : (uses : List EdgeUse) → IsSorted use_cmp uses → (a b : ℕ) → a ≤ b → b < length uses →
    is_lt (use_cmp (use_at uses b) (use_at uses a)) ≡ false
rises uses s a b h l =
    sorted_far (λ x y. is_lt (use_cmp x y)) (ranks_by use_cmp_total (λ (s : EdgeUse). s)) uses s a b no_use h l

key_rises : (uses : List EdgeUse) → IsSorted use_cmp uses → (a b : ℕ) → a ≤ b → b < length uses →
    (use_at uses a).key ≤ (use_at uses b).key
key_rises uses s a b h l =
    not_less_from_cmp (use_at uses b).key (use_at uses a).key
    (first_not_less (nat_cmp (use_at uses b).key (use_at uses a).key)
    (ordering_then (edge_cmp (use_at uses b).edge (use_at uses a).edge)
    (nat_cmp (use_at uses b).rank (use_at uses a).rank)) (rises uses s a b h l))

-- at one key the edges rise, and on one edge the ranks
edge_rises : (uses : List EdgeUse) → IsSorted use_cmp uses → (a b : ℕ) → a ≤ b → b < length uses →
    (use_at uses b).key ≡ (use_at uses a).key →
    is_lt (ordering_then (edge_cmp (use_at uses b).edge (use_at uses a).edge)
    (nat_cmp (use_at uses b).rank (use_at uses a).rank)) ≡ false
edge_rises uses s a b h l e =
    second_not_less (use_at uses b).key (use_at uses a).key
    (ordering_then (edge_cmp (use_at uses b).edge (use_at uses a).edge)
    (nat_cmp (use_at uses b).rank (use_at uses a).rank)) e (rises uses s a b h l)

pub in_order_from_sorted : (uses : List EdgeUse) → All HasEdgeKey uses → IsSorted use_cmp uses → AreInOrder uses
in_order_from_sorted uses own s = record {
  grouped = λ a p b h k l one.
      let same : (use_at uses a).edge ≡ (use_at uses b).edge = edges_from_one (use_at uses a) (use_at uses b) one in
      let key : (use_at uses a).key ≡ (use_at uses b).key =
      keys_from_edge (use_at uses a) (use_at uses b) (own a no_use (omega arith)) (own b no_use l) same in
      let from_a : (use_at uses a).key ≤ (use_at uses p).key = key_rises uses s a p h (omega arith) in
      let to_b : (use_at uses p).key ≤ (use_at uses b).key = key_rises uses s p b k l in
      let first : is_lt (edge_cmp (use_at uses p).edge (use_at uses a).edge) ≡ false =
      first_not_less (edge_cmp (use_at uses p).edge (use_at uses a).edge)
      (nat_cmp (use_at uses p).rank (use_at uses a).rank)
      (edge_rises uses s a p h (omega arith) (omega arith)) in
      let last : is_lt (edge_cmp (use_at uses b).edge (use_at uses p).edge) ≡ false =
      first_not_less (edge_cmp (use_at uses b).edge (use_at uses p).edge)
      (nat_cmp (use_at uses b).rank (use_at uses p).rank)
      (edge_rises uses s p b k l (omega arith)) in
      let P : Edge → Type 0 = λ e. is_lt (edge_cmp e (use_at uses p).edge) ≡ false in
      let lower : is_lt (edge_cmp (use_at uses a).edge (use_at uses p).edge) ≡ false = subst P (sym same) last in
      let upper : is_lt (ordering_reverse (edge_cmp (use_at uses a).edge (use_at uses p).edge)) ≡ false =
      ap is_lt (sym (edge_cmp_total.antisymm (use_at uses p).edge (use_at uses a).edge)) ∙ first in
      on_one_edge-from (use_at uses a) (use_at uses p)
      (edges_from_tie (use_at uses a).edge (use_at uses p).edge
      (tie (edge_cmp (use_at uses a).edge (use_at uses p).edge) lower upper));
  ascend = λ a b h l one.
      let same : (use_at uses a).edge ≡ (use_at uses b).edge = edges_from_one (use_at uses a) (use_at uses b) one in
      let key : (use_at uses b).key ≡ (use_at uses a).key =
      keys_from_edge (use_at uses b) (use_at uses a) (own b no_use l) (own a no_use (omega arith)) (sym same) in
      let P : Edge → Type 0 =
      λ e. is_lt (ordering_then (edge_cmp (use_at uses b).edge e)
      (nat_cmp (use_at uses b).rank (use_at uses a).rank)) ≡ false in
      let tied : edge_cmp (use_at uses b).edge (use_at uses b).edge ≡ Equal =
      tied_itself edge_cmp_total (use_at uses b).edge in
      not_less_from_cmp (use_at uses b).rank (use_at uses a).rank
      (ap (λ o. is_lt (ordering_then o (nat_cmp (use_at uses b).rank (use_at uses a).rank))) (sym tied) ∙
      subst P same (edge_rises uses s a b h l key));
}

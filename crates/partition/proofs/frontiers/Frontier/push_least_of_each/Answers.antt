use Rattle.std.proofs.Common.{◌<◌, inl, inr, None, length, sym, ◌∙◌, arith}
use Rattle.std.proofs.lemmas.List.{get_or_default}
use Rattle.partition.proofs.Walks.{IsWalk-starts, IsWalk-item_edge, IsWalk-more, IsWalk-ends}
use Rattle.partition.proofs.frontiers.Frontier.push_least_of_each.Goals as goal

pub loop-next-init : goal.loop-next-init
loop-next-init c =
    let starts =
    IsWalk-starts c.args.shared.now (length c.args.placed.now) c.args.edges_of_item.now c.args.item
    c.args.placed.now c.args.self.now.queue c.requires.edges_of_item c.requires.item in
    let within : c.args.item < length c.args.edges_of_item.now.last.items =
    omega (arith, c.requires.item, c.requires.edges_of_item.counted) in
    record {
      cursors = c.requires.cursors;
      walk =
          rw (c.index-next.ensures ∙ get_or_default c.args.edges_of_item.now.last.items c.args.item
          c.index-next.result.now None within) starts;
      keeps = λ item is. is;
      adds = λ other is. inl is;
    }

pub loop-next-preserved : goal.loop-next-preserved
loop-next-preserved c =
    let i = c.loop-next.invariant in
    let walk = rw c.in-Some.is at i.walk in
    let item_edge =
    IsWalk-item_edge c.args.shared.now (length c.args.placed.now) c.args.edges_of_item.now c.args.item
    c.args.placed.now c.loop-next.self.queue c.in-Some.place c.index-item_edge.result.now walk in
    let holds = rw (sym c.index-item_edge.ensures) at item_edge.1 in
    record {
      cursors = c.in_ok-push_least.ensures.cursors;
      walk =
          IsWalk-more c.args.shared.now (length c.args.placed.now) c.args.edges_of_item.now c.args.item
          c.args.placed.now c.loop-next.self.queue c.push_least.new.self.queue c.in-Some.place
          c.index-item_edge.result.now walk c.index-item_edge.ensures c.in_ok-push_least.ensures.least_queued
          c.in_ok-push_least.ensures.keeps;
      keeps = λ item is. c.in_ok-push_least.ensures.keeps item (i.keeps item is);
      adds = λ other is. elim (c.in_ok-push_least.ensures.adds other is) [
        | inl before ↦ i.adds other before
        | inr added ↦ inr (c.index-item_edge.result.now.edge, holds, (holds.0, added))
      ];
    }

pub returns-clause-least_queued : goal.returns-clause-least_queued
returns-clause-least_queued c =
    let walk = rw c.in_default.is at c.loop-next.invariant.walk in
    IsWalk-ends c.args.shared.now (length c.args.placed.now) c.args.edges_of_item.now c.args.item c.args.placed.now
    c.loop-next.self.queue walk

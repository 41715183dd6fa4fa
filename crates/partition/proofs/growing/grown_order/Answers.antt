use Rattle.std.proofs.Common.{◌≡◌, length, ap, arith}
use Rattle.partition.specs.Internal.Growths.{batch_of}
use Rattle.partition.specs.Internal.SharedEdges.{are_adjacent}
use Rattle.partition.proofs.Nexts.{next_is}
use Rattle.partition.proofs.Taking.{Grows-taken, is_grown-from, left_of_order, queued_below, ready-taken}
use Rattle.partition.proofs.growing.grown_order.Goals as goal

pub places-init : goal.places-init
places-init c = record {
  placed = c.in_ok-growth.ensures.placed;
  counted = ap length c.in_ok-growth.ensures.order;
  growth = c.in_ok-growth.ensures.growth c.args.size;
  ready = c.in_ok-growth.ensures.ready c.args.size;
}

pub next-item-requires-clause-queued : goal.next-item-requires-clause-queued
next-item-requires-clause-queued c =
    let g = c.places.growth in
    let i = c.places.invariant in
    queued_below c.args.shared.now c.args.size g.placed.items g.order.items g.least g.frontier.cursors.items
    g.frontier.queue
    (λ k d h. rw i.placed (c.requires.sound k d h)) i.growth

pub next-item-requires-clause-left : goal.next-item-requires-clause-left
next-item-requires-clause-left c =
    let g = c.places.growth in
    let i = c.places.invariant in
    left_of_order c.args.shared.now c.args.size g.placed.items g.order.items g.least g.frontier.cursors.items
    g.frontier.queue
    i.growth (omega (arith, i.placed, i.counted, c.places-test.true))

pub place-requires-clause-shared : goal.place-requires-clause-shared
place-requires-clause-shared c =
    λ k d h. rw (c.next-item.ensures.placed, c.places.invariant.placed) (c.requires.sound k d h)

pub place-requires-clause-growth : goal.place-requires-clause-growth
place-requires-clause-growth c =
    let g = c.places.growth in
    rw (c.next-item.ensures.placed, c.next-item.ensures.order, c.next-item.ensures.cursors)
    (Grows-taken c.args.shared.now c.args.size g.placed.items g.order.items g.least g.frontier.cursors.items
    g.frontier.queue
    c.next-item.new.self.least c.next-item.new.self.frontier.queue c.places.invariant.growth c.next-item.ensures.from
    c.next-item.ensures.least)

pub place-requires-clause-ready : goal.place-requires-clause-ready
place-requires-clause-ready c =
    let g = c.places.growth in
    rw (c.next-item.ensures.placed, c.next-item.ensures.order)
    (ready-taken c.args.shared.now (batch_of c.args.size g.order.items) g.placed.items c.next-item.result
    g.frontier.queue
    c.next-item.new.self.frontier.queue c.places.invariant.ready c.next-item.ensures.rest)

pub place-requires-clause-next : goal.place-requires-clause-next
place-requires-clause-next c =
    let g = c.places.growth in
    rw (c.next-item.ensures.placed, c.next-item.ensures.order)
    (next_is c.args.shared.now c.args.size g.placed.items g.order.items g.least g.frontier.cursors.items
    g.frontier.queue
    c.next-item.result c.places.invariant.growth c.places.invariant.ready c.next-item.ensures.next)

pub returns : goal.returns
returns c =
    let g = c.places.growth in
    let i = c.places.invariant in
    let whole : length g.order.items ≡ c.args.count = omega (arith, i.counted, c.places-test.false) in
    let chosen = rw i.placed at i.growth.grown in
    is_grown-from c.args.count (λ _. 0) (are_adjacent c.args.shared.now) c.args.size g.order.items whole
    (λ place h. chosen place (omega arith))

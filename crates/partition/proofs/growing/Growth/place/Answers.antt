use Rattle.std.proofs.Common.{◌≡◌, length, true, ap, ◌∙◌, arith}
use Rattle.std.proofs.lemmas.List.{length-set}
use Rattle.partition.specs.Internal.Growths.{batch_of}
use Rattle.partition.specs.Internal.SharedEdges.{are_adjacent}
use Rattle.partition.proofs.Nexts.{is_next-is}
use Rattle.partition.proofs.Placing.{Grows-more, queued-after, ready-after}
use Rattle.partition.proofs.growing.Growth.place.Goals as goal

pub index_mut-requires : goal.index_mut-requires
index_mut-requires c =
    let placed = c.args.self.now.placed in
    let order = c.args.self.now.order.items in
    let is =
    is_next-is (length placed.items) (λ _. 0) (are_adjacent c.args.shared.now) order
    (batch_of c.args.size order) c.args.item c.requires.next in
    omega (arith, is.below, placed.ok.0)

pub push_least_of_each-requires-clause-shared : goal.push_least_of_each-requires-clause-shared
push_least_of_each-requires-clause-shared c =
    let same : length c.deref.result.now ≡ length c.args.self.now.placed.items =
    ap length c.deref.ensures.value ∙ length-set c.args.self.now.placed.items c.args.item true in
    λ k d h. rw same (c.requires.shared k d h)

pub push_least_of_each-requires-clause-item : goal.push_least_of_each-requires-clause-item
push_least_of_each-requires-clause-item c =
    let placed = c.args.self.now.placed in
    let order = c.args.self.now.order.items in
    let is =
    is_next-is (length placed.items) (λ _. 0) (are_adjacent c.args.shared.now) order
    (batch_of c.args.size order) c.args.item c.requires.next in
    omega (arith, is.below, ap length c.deref.ensures.value, length-set placed.items c.args.item true)

pub returns-clause-growth : goal.returns-clause-growth
returns-clause-growth c =
    let g = c.args.self.now in
    let end = c.end_full_batch.ensures in
    let pushed = c.in_ok-push.ensures.items in
    let cursors = rw c.deref.ensures.value at c.in_ok-push_least_of_each.ensures.cursors in
    let full = rw pushed at end.full in
    let room = rw pushed at end.room in
    rw (end.placed, end.order, end.least, end.cursors, pushed)
    (Grows-more c.args.shared.now c.args.size g.placed.items g.order.items g.least g.frontier.cursors.items
    g.frontier.queue c.args.item
    c.push_least_of_each.new.self.cursors.items c.end_full_batch.new.self.frontier.queue c.requires.growth
    c.requires.next cursors
    (queued-after c.args.shared.now c.args.size g.order.items c.args.item g.frontier.queue
    c.push_least_of_each.new.self.queue
    c.end_full_batch.new.self.frontier.queue c.requires.size_range full room c.requires.growth.queued
    c.in_ok-push_least_of_each.ensures.adds))

pub returns-clause-ready : goal.returns-clause-ready
returns-clause-ready c =
    let g = c.args.self.now in
    let end = c.end_full_batch.ensures in
    let pushed = c.in_ok-push.ensures.items in
    let entered = rw c.deref.ensures.value at c.in_ok-push_least_of_each.ensures.least_queued in
    let full = rw pushed at end.full in
    let room = rw pushed at end.room in
    rw (end.placed, end.order, pushed)
    (ready-after c.args.shared.now c.args.size g.placed.items g.order.items c.args.item g.frontier.queue
    c.push_least_of_each.new.self.queue
    c.end_full_batch.new.self.frontier.queue c.requires.size_range full room c.requires.ready
    c.in_ok-push_least_of_each.ensures.keeps entered)

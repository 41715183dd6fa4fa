use Rattle.std.proofs.Common.{inl, inr, []}
use Rattle.std.proofs.lemmas.Result.{on_ok_weaker}
use Rattle.partition.proofs.Popped.{pushed, kept_by_push, in_pushed}
use Rattle.partition.proofs.frontiers.Frontier.push_least.Goals as goal

pub least_left-requires-clause-edge : goal.least_left-requires-clause-edge
least_left-requires-clause-edge c = rw c.items_on.ensures (c.requires.shared c.args.edge [] c.requires.edge)

pub returns-in-Some-clause-least_queued : goal.returns-in-Some-clause-least_queued
returns-in-Some-clause-least_queued c =
    let some = rw c.items_on.ensures at c.in-Some.ensures.least in
    on_ok_weaker c.push.result
    (λ added item is left. record {
      lesser = c.in-Some.item;
      queued = pushed c.in-Some.item c.args.self.now.queue c.push.new.self added;
      among = some.among;
      left = some.left;
      le = some.least item is left;
    })
    c.push.ensures

pub returns-in-Some-clause-keeps : goal.returns-in-Some-clause-keeps
returns-in-Some-clause-keeps c =
    on_ok_weaker c.push.result (kept_by_push c.in-Some.item c.args.self.now.queue c.push.new.self) c.push.ensures

pub returns-in-Some-clause-adds : goal.returns-in-Some-clause-adds
returns-in-Some-clause-adds c =
    let some = rw c.items_on.ensures at c.in-Some.ensures.least in
    on_ok_weaker c.push.result
    (λ added item is. elim (in_pushed c.in-Some.item c.args.self.now.queue c.push.new.self added item is) [
      | inl same ↦ inr (rw same some.among)
      | inr before ↦ inl before
    ])
    c.push.ensures

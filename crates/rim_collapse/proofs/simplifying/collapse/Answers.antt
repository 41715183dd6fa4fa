use Rattle.std.proofs.Common.{◌≡◌, ◌<◌, ◌/◌, ◌-◌, true, All, length, get_or, sym, ap, ◌∙◌, subst, arith}
use Rattle.std.specs.Bool.{◌==◌}
use Rattle.std.specs.List.{list_any}
use Rattle.rim_collapse.specs.Internal.Chains.{faces_at}
use Rattle.rim_collapse.specs.Internal.Faces.{left, point_at, tris_at}
use Rattle.rim_collapse.specs.Internal.Marks.{HasMarkedCorners, IsSetBelow}
use Rattle.rim_collapse.proofs.FaceChains.{chain-all, chain-nexts, chain-slots}
use Rattle.rim_collapse.proofs.Collapsing.{chain-some, chained-joined, counts-few, marked-round, mesh-after}
use Rattle.rim_collapse.proofs.Collapsing.{last-below, numbers-apart}
use Rattle.rim_collapse.proofs.simplifying.collapse.Goals as goal

pub list_corners-requires-clause-corners : goal.list_corners-requires-clause-corners
list_corners-requires-clause-corners c =
    chain-nexts (length c.args.points.now) c.args.progress.now.faces.items c.args.progress.now.chains c.args.a
    c.requires.progress.mesh.linked c.requires.a

pub put_round-requires-clause-corners : goal.put_round-requires-clause-corners
put_round-requires-clause-corners c =
    subst (λ l. All (λ d. d / 3 < length l) c.deref-2.result.now) (sym c.deref.ensures.value)
    (subst (All (λ d. d / 3 < length c.args.progress.now.faces.items))
    (sym (c.deref-2.ensures.value ∙ c.in_ok-list_corners.ensures))
    (chain-slots (length c.args.points.now) c.args.progress.now.faces.items c.args.progress.now.chains c.args.a
    c.requires.progress.mesh.linked c.requires.a))

pub move_corners-requires-clause-apart : goal.move_corners-requires-clause-apart
move_corners-requires-clause-apart c =
    numbers-apart c.args.points.now (tris_at c.args.points.now (left c.args.progress.now.faces.items)) c.args.a c.args.b
    c.requires.edge

pub move_corners-requires-clause-corners : goal.move_corners-requires-clause-corners
move_corners-requires-clause-corners c =
    subst (All (λ d. d / 3 < length c.args.progress.now.faces.items))
    (sym (c.deref-3.ensures.value ∙ c.in_ok-list_corners.ensures))
    (chain-slots (length c.args.points.now) c.args.progress.now.faces.items c.args.progress.now.chains c.args.a
    c.requires.progress.mesh.linked c.requires.a)

pub move_corners-requires-clause-all : goal.move_corners-requires-clause-all
move_corners-requires-clause-all c = λ k within has.
    subst (λ l. list_any (λ d. d / 3 == k) l ≡ true) (sym (c.deref-3.ensures.value ∙ c.in_ok-list_corners.ensures))
    (chain-all (length c.args.points.now) c.args.progress.now.faces.items c.args.progress.now.chains c.args.a k
    c.requires.progress.mesh.linked c.requires.a within has)

pub last_of-requires : goal.last_of-requires
last_of-requires c = record {
  count = subst (λ l. 0 < length l) (sym (c.deref-4.ensures.value ∙ c.in_ok-list_corners.ensures))
      (chain-some c.args.points.now c.args.progress.now.faces.items c.args.progress.now.chains c.args.a
      (point_at c.args.points.now c.args.b) c.requires.progress.mesh c.requires.a c.requires.edge);
}

pub join-requires-clause-last : goal.join-requires-clause-last
join-requires-clause-last c =
    last-below c.args.points.now c.args.progress.now.faces.items c.args.progress.now.chains c.args.a
    (point_at c.args.points.now c.args.b) c.last_of.result c.deref-4.result.now
    c.requires.progress.mesh c.requires.a c.requires.edge
    (c.deref-4.ensures.value ∙ c.in_ok-list_corners.ensures) c.last_of.ensures

pub join-requires-clause-count : goal.join-requires-clause-count
join-requires-clause-count c =
    counts-few c.args.points.now c.args.progress.now.faces.items c.args.progress.now.chains c.args.a c.args.b
    c.requires.progress.mesh c.requires.a c.requires.b

pub returns-clause-progress : goal.returns-clause-progress
returns-clause-progress c =
    let points = c.args.points.now in
    let faces = c.args.progress.now.faces.items in
    let chains = c.args.progress.now.chains in
    let before = c.requires.progress in
    let corners = c.deref-4.ensures.value ∙ c.in_ok-list_corners.ensures in
    record {
      mesh = mesh-after points faces c.move_corners.new.faces.items chains c.join.new.chains c.args.a c.args.b
          before.mesh
          c.requires.a c.requires.b c.requires.edge c.move_corners.ensures.faces
          (chained-joined (length points) faces chains c.join.new.chains c.args.a c.args.b c.last_of.result
          before.mesh.linked c.requires.a c.requires.b
          (numbers-apart points (tris_at points (left faces)) c.args.a c.args.b c.requires.edge)
          (chain-some points faces chains c.args.a (point_at points c.args.b) before.mesh c.requires.a c.requires.edge)
          (c.last_of.ensures ∙ ap (λ l. get_or l (length l - 1) 0) corners)
          c.join.ensures.firsts c.join.ensures.counts c.join.ensures.nexts);
      left = omega (arith, before.left, c.move_corners.ensures.count);
      bests = before.bests;
      asked = subst (λ n. IsSetBelow n c.put_round.new.set) before.asked.size c.in_ok-put_round.ensures.members;
      targets = before.targets;
    }

pub returns-clause-asked : goal.returns-clause-asked
returns-clause-asked c =
    marked-round (length c.args.points.now) c.args.progress.now.faces.items c.args.progress.now.chains c.args.a
    c.put_round.new.set.marks.items c.requires.progress.mesh.linked c.requires.a
    (subst (λ l. All (HasMarkedCorners c.put_round.new.set.marks.items) (faces_at c.args.progress.now.faces.items l))
    (c.deref-2.ensures.value ∙ c.in_ok-list_corners.ensures)
    (subst (λ l. All (HasMarkedCorners c.put_round.new.set.marks.items) (faces_at l c.deref-2.result.now))
    c.deref.ensures.value c.in_ok-put_round.ensures.round))

use Rattle.std.proofs.Common.{rules, ◌≡◌, [], ◌∷◌, ◌++◌, None, true, sym, ap, subst, ◌∙◌, length}
use Rattle.std.proofs.Common.{Contains, arith}
use Rattle.rim_collapse.specs.Legal.{has_edge}
use Rattle.rim_collapse.specs.Simplified.{IsNext, Lead}
use Rattle.rim_collapse.specs.States.{after, begun, present}
use Rattle.rim_collapse.specs.Internal.Bests.{AreRight}
use Rattle.rim_collapse.specs.Internal.Faces.{left, state_of, tris_at}
use Rattle.rim_collapse.specs.Internal.Progress.{IsProgress}
use Rattle.rim_collapse.specs.Internal.Steps.{IsNextOf}
use Rattle.rim_collapse.proofs.Collapsing.{progress-few, progress-numbered}
use Rattle.rim_collapse.proofs.FaceLaws.{length-state_of, present-state_of}
use Rattle.rim_collapse.proofs.Following.{edge-from_legal}
use Rattle.rim_collapse.proofs.StepLaws.{found-next, lead-more, length-lt-after}
use Rattle.rim_collapse.proofs.simplifying.end_state.Goals as goal

pub begin-requires-clause-corners : goal.begin-requires-clause-corners
begin-requires-clause-corners c = λ p corner.
    subst (λ l. Contains l p) (sym c.deref.ensures.value) (c.in_ok-points.ensures.corners p corner)

pub collapses-init : goal.collapses-init
unfolding Lead
collapses-init c =
    let tris = c.args.tris.now in
    let points = c.in_ok-points.points.items in
    let progress = c.in_ok-progress.progress in
    let faces = left progress.faces.items in
    record {
      lead = (
        [],
        sym (subst (λ l. state_of tris l faces ≡ begun tris) c.deref.ensures.value c.in_ok-progress.ensures.state),
      );
      progress = subst (λ l. IsProgress l progress) c.deref.ensures.value c.in_ok-progress.ensures.progress;
      was = c.in_ok-progress.ensures.was;
      right = subst (λ l. AreRight (tris_at l faces) c.args.locked.now.keys l progress.bests.items)
          c.deref.ensures.value c.in_ok-progress.ensures.right;
    }

pub next_collapse-requires : goal.next_collapse-requires
next_collapse-requires c = record {
  triangle_limit = progress-few c.in_ok-points.points.items c.collapses.progress c.collapses.invariant.progress;
}

pub step-requires-clause-edge : goal.step-requires-clause-edge
step-requires-clause-edge c =
    let tris = c.args.tris.now in
    let keys = c.args.locked.now.keys in
    let points = c.in_ok-points.points.items in
    let faces = left c.collapses.progress.faces.items in
    let key = c.in-Some.key in
    let next : IsNext keys (length tris) (state_of tris points faces) key.from key.to =
    subst (IsNextOf keys (length tris) (state_of tris points faces)) c.in-Some.is
    (found-next tris keys points faces c.collapses.progress.left c.collapses.progress.bests.items
    c.deref-in-collapses.result.now c.next_collapse.result c.collapses.invariant.progress.left
    c.deref-in-collapses.ensures.value c.next_collapse.ensures
    (progress-numbered points c.collapses.progress c.collapses.invariant.progress)
    c.collapses.invariant.progress.bests c.collapses.invariant.right) in
    subst (λ l. has_edge (tris_at l faces) key.from key.to ≡ true) (sym c.deref-in-Some.ensures.value)
    (subst (λ l. has_edge l key.from key.to ≡ true) (present-state_of tris points faces)
    (edge-from_legal (present (state_of tris points faces)) keys key.from key.to next.least.legal))

pub collapses-smaller : goal.collapses-smaller
collapses-smaller c =
    let tris = c.args.tris.now in
    let keys = c.args.locked.now.keys in
    let points = c.in_ok-points.points.items in
    let faces = left c.collapses.progress.faces.items in
    let after_it = left c.step.new.progress.faces.items in
    let key = c.in-Some.key in
    let next : IsNext keys (length tris) (state_of tris points faces) key.from key.to =
    subst (IsNextOf keys (length tris) (state_of tris points faces)) c.in-Some.is
    (found-next tris keys points faces c.collapses.progress.left c.collapses.progress.bests.items
    c.deref-in-collapses.result.now c.next_collapse.result c.collapses.invariant.progress.left
    c.deref-in-collapses.ensures.value c.next_collapse.ensures
    (progress-numbered points c.collapses.progress c.collapses.invariant.progress)
    c.collapses.invariant.progress.bests c.collapses.invariant.right) in
    let is : state_of tris points after_it ≡ after key.from key.to (state_of tris points faces) =
    subst (λ l. state_of tris l after_it ≡ after key.from key.to (state_of tris l faces))
    c.deref-in-Some.ensures.value (c.in_ok-step.ensures.state tris) in
    let fewer = length-lt-after keys (length tris) (state_of tris points faces) key.from key.to next in
    let before = length-state_of tris points faces in
    let then = length-state_of tris points after_it in
    omega (arith, ap length is, fewer, before, then)

pub collapses-preserved : goal.collapses-preserved
collapses-preserved c =
    let tris = c.args.tris.now in
    let keys = c.args.locked.now.keys in
    let points = c.in_ok-points.points.items in
    let faces = left c.collapses.progress.faces.items in
    let new = c.step.new.progress in
    let after_it = left new.faces.items in
    let key = c.in-Some.key in
    let lead = c.collapses.invariant.lead in
    let next : IsNext keys (length tris) (state_of tris points faces) key.from key.to =
    subst (IsNextOf keys (length tris) (state_of tris points faces)) c.in-Some.is
    (found-next tris keys points faces c.collapses.progress.left c.collapses.progress.bests.items
    c.deref-in-collapses.result.now c.next_collapse.result c.collapses.invariant.progress.left
    c.deref-in-collapses.ensures.value c.next_collapse.ensures
    (progress-numbered points c.collapses.progress c.collapses.invariant.progress)
    c.collapses.invariant.progress.bests c.collapses.invariant.right) in
    let is : state_of tris points after_it ≡ after key.from key.to (state_of tris points faces) =
    subst (λ l. state_of tris l after_it ≡ after key.from key.to (state_of tris l faces))
    c.deref-in-Some.ensures.value (c.in_ok-step.ensures.state tris) in
    record {
      lead = (
        lead.0 ++ (key.from, key.to) ∷ [],
        subst (Lead keys (length tris) (lead.0 ++ (key.from, key.to) ∷ []) (begun tris)) (sym is)
            (lead-more keys (length tris) lead.0 (begun tris) (state_of tris points faces) key.from key.to lead.1 next),
      );
      progress = subst (λ l. IsProgress l new) c.deref-in-Some.ensures.value c.in_ok-step.ensures.progress;
      was = c.in_ok-step.ensures.was (length tris) c.collapses.invariant.was;
      right = subst (λ l. AreRight (tris_at l after_it) keys l new.bests.items) c.deref-in-Some.ensures.value
          c.in_ok-step.ensures.right;
    }

pub returns : goal.returns
returns c =
    let tris = c.args.tris.now in
    let keys = c.args.locked.now.keys in
    let points = c.in_ok-points.points.items in
    let faces = left c.collapses.progress.faces.items in
    let lead = c.collapses.invariant.lead in
    let none : c.next_collapse.result ≡ None = first_of (search rules, grind rules) in
    let is : c.in_ok-kept.kept.items ≡ state_of tris points faces =
    c.in_ok-kept.ensures ∙ ap (λ l. state_of tris l (left c.deref-3.result.now)) c.deref-2.ensures.value ∙
    ap (λ l. state_of tris points (left l)) c.deref-3.ensures.value in
    record {
      collapses = lead.0;
      lead = subst (Lead keys (length tris) lead.0 (begun tris)) (sym is) lead.1;
      end = subst (λ l. IsNextOf keys (length tris) l None) (sym is)
          (subst (IsNextOf keys (length tris) (state_of tris points faces)) none
          (found-next tris keys points faces c.collapses.progress.left c.collapses.progress.bests.items
          c.deref-in-collapses.result.now c.next_collapse.result c.collapses.invariant.progress.left
          c.deref-in-collapses.ensures.value c.next_collapse.ensures
          (progress-numbered points c.collapses.progress c.collapses.invariant.progress)
          c.collapses.invariant.progress.bests c.collapses.invariant.right));
    }

use Rattle.std.proofs.Common.{◌≡◌, ◌<◌, ℕ, List, true, All, length, sym, ap, subst, ◌∙◌, None}
use Rattle.std.specs.Bool.{◌==◌}
use Rattle.std.specs.List.{list_any}
use Rattle.std.specs.Prelude.{slice_index_or}
use Rattle.std.proofs.lemmas.List.Elements.{All-filter, All-map}
use Rattle.geom_core.specs.declared.points.Pt.{Pt}
use Rattle.rim_collapse.specs.declared.faces.Face.{Face}
use Rattle.rim_collapse.specs.Legal.{has_edge}
use Rattle.rim_collapse.specs.States.{after}
use Rattle.rim_collapse.specs.Internal.Bests.{AreRight, IsBestAt}
use Rattle.rim_collapse.specs.Internal.Faces.{IsNumbered, face_to, has_distinct_numbers, left, point_at}
use Rattle.rim_collapse.specs.Internal.Faces.{state_of, tris_at}
use Rattle.rim_collapse.proofs.Collapsing.{left-moved}
use Rattle.rim_collapse.proofs.FaceLaws.{corners-numbered, state_of-after}
use Rattle.rim_collapse.proofs.Following.{target-corner}
use Rattle.rim_collapse.proofs.NearLaws.{right-after}
use Rattle.rim_collapse.proofs.SetLaws.{unlisted}
use Rattle.rim_collapse.proofs.StepLaws.{source-corner}
use Rattle.rim_collapse.proofs.simplifying.step.Goals as goal

left-numbered : (n : ℕ) (faces : List Face) → All (IsNumbered n) faces → All (IsNumbered n) (left faces)
left-numbered n faces all = All-filter has_distinct_numbers (IsNumbered n) faces all

pub number_of-from-requires-clause-listed : goal.number_of-from-requires-clause-listed
number_of-from-requires-clause-listed c =
    let faces = left c.args.progress.now.faces.items in
    corners-numbered c.args.points.now faces c.args.a
    (left-numbered (length c.args.points.now) c.args.progress.now.faces.items c.requires.progress.mesh.numbers)
    (source-corner (tris_at c.args.points.now faces) c.args.a c.args.b c.requires.edge)

pub number_of-to-requires-clause-listed : goal.number_of-to-requires-clause-listed
number_of-to-requires-clause-listed c =
    let faces = left c.args.progress.now.faces.items in
    corners-numbered c.args.points.now faces c.args.b
    (left-numbered (length c.args.points.now) c.args.progress.now.faces.items c.requires.progress.mesh.numbers)
    (target-corner (tris_at c.args.points.now faces) c.args.a c.args.b c.requires.edge)

edge_at : (points : List Pt) (faces : List Face) (p q a b : Pt) → p ≡ a → q ≡ b →
    has_edge (tris_at points faces) a b ≡ true → has_edge (tris_at points faces) p q ≡ true
edge_at points faces p q a b at_a at_b edge = rw (at_a, at_b) edge

pub collapse-requires-clause-edge : goal.collapse-requires-clause-edge
collapse-requires-clause-edge c =
    edge_at c.args.points.now (left c.args.progress.now.faces.items) _ _ c.args.a c.args.b
    c.number_of-from.ensures.point c.number_of-to.ensures.point c.requires.edge

pub returns-clause-was : goal.returns-clause-was
returns-clause-was c = λ count all.
    subst (All (λ (f : Face). f.was < count)) (sym c.in_ok-collapse.ensures.faces)
    (All-map (λ (f : Face). f.was < count) (face_to c.number_of-from.result c.number_of-to.result)
    c.args.progress.now.faces.items all)

pub returns-clause-state : goal.returns-clause-state
returns-clause-state c = λ tris.
    let points = c.args.points.now in
    let faces = c.args.progress.now.faces.items in
    let from = c.number_of-from.result in
    let to = c.number_of-to.result in
    ap (λ l. state_of tris points (left l)) c.in_ok-collapse.ensures.faces ∙
    ap (state_of tris points) (left-moved from to faces) ∙
    state_of-after tris points from to (left faces) c.requires.ascending c.number_of-from.ensures.number
    c.number_of-to.ensures.number (left-numbered (length points) faces c.requires.progress.mesh.numbers) ∙
    ap (λ p. after p (point_at points to) (state_of tris points (left faces))) c.number_of-from.ensures.point ∙
    ap (λ p. after c.args.a p (state_of tris points (left faces))) c.number_of-to.ensures.point

pub returns-clause-right : goal.returns-clause-right
returns-clause-right c =
    let points = c.args.points.now in
    let faces = c.args.progress.now.faces.items in
    let keys = c.args.locked.now.keys in
    let from = c.number_of-from.result in
    let to = c.number_of-to.result in
    let set = c.collapse.new.progress.asked in
    let is_set = c.in_ok-collapse.ensures.progress.asked in
    let next = c.refresh.new.bests.items in
    let moved = ap left c.in_ok-collapse.ensures.faces ∙ left-moved from to faces in
    subst (λ l. AreRight (tris_at points l) keys points next) (sym moved)
    (right-after set.marks.items points keys from to (left faces) c.args.progress.now.bests.items next
    c.requires.ascending c.number_of-from.ensures.number c.number_of-to.ensures.number
    (left-numbered (length points) faces c.requires.progress.mesh.numbers) c.requires.progress.mesh.triangles
    c.in_ok-collapse.ensures.asked
    (edge_at points (left faces) _ _ c.args.a c.args.b c.number_of-from.ensures.point c.number_of-to.ensures.point
    c.requires.edge)
    (λ k in_k marked.
    subst (λ l. IsBestAt (tris_at points l) keys (point_at points k) (slice_index_or next k None))
    (ap left c.deref.ensures.value ∙ moved)
    (c.in_ok-refresh.ensures.asked k in_k
    (ap (list_any (λ m. m == k)) c.deref-2.ensures.value ∙ is_set.listed k marked)))
    (λ k unmarked.
    c.in_ok-refresh.ensures.others k
    (ap (list_any (λ m. m == k)) c.deref-2.ensures.value ∙ unlisted (length points) set k is_set unmarked) ∙
    ap (λ b. slice_index_or b.items k None) c.in_ok-collapse.ensures.bests) c.requires.right)

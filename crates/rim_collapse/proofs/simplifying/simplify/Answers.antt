use Rattle.std.proofs.Common.{◌≡◌, map, sym, ap, subst, ◌∙◌}
use Rattle.geom_core.specs.EdgeSum.{edge_sum}
use Rattle.geom_core.specs.TaggedLists.{tris_of}
use Rattle.rim_collapse.specs.Moved.{moved_of}
use Rattle.rim_collapse.specs.Simplified.{IsSimplified}
use Rattle.rim_collapse.specs.Sound.{IsSound}
use Rattle.rim_collapse.specs.States.{tagged_of}
use Rattle.rim_collapse.proofs.Following.{simplified-sound, simplified-sums}
use Rattle.rim_collapse.proofs.simplifying.simplify.Goals as goal

is_simplified : (c : goal.After-drop-tris-2) →
    IsSimplified c.args.tris.items c.args.locked.now.keys c.in_ok-kept.kept.items
is_simplified c =
    subst (λ tris. IsSimplified tris c.args.locked.now.keys c.in_ok-kept.kept.items) c.deref.ensures.value
    c.in_ok-kept.ensures

left_is : (c : goal.After-drop-tris-2) → c.of.result ≡ map tagged_of c.in_ok-kept.kept.items
left_is c = c.of.ensures ∙ c.in_ok-left.ensures ∙ ap (map tagged_of) c.deref-2.ensures.value

pub returns-clause-sums : goal.returns-clause-sums
returns-clause-sums c = λ rim u v.
    subst (λ tris. edge_sum (tris_of tris) u v ≡ edge_sum (tris_of c.args.tris.items) u v) (sym (left_is c))
    (simplified-sums c.args.tris.items c.args.locked.now.keys c.in_ok-kept.kept.items (is_simplified c) rim u v)

pub returns-clause-sound : goal.returns-clause-sound
returns-clause-sound c =
    let moved : c.moved.result ≡ moved_of c.in_ok-kept.kept.items =
    c.moved.ensures ∙ ap moved_of c.deref-3.ensures.value in
    subst (λ tris. IsSound c.args.tris.items tris c.moved.result) (sym (left_is c))
    (subst (IsSound c.args.tris.items (map tagged_of c.in_ok-kept.kept.items)) (sym moved)
    (simplified-sound c.args.tris.items c.args.locked.now.keys c.in_ok-kept.kept.items c.requires.triangles
    (is_simplified c)))

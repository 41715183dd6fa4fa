use Rattle.std.proofs.Common.{◌≡◌, Bool, true, false, ◌&&◌, refl, ap, ◌∙◌}
use Rattle.std.specs.Ordering.{int_eq}
use Rattle.geom_core.specs.EdgeSum.{same_point}
use Rattle.partition.specs.Internal.EdgeUses.{on_one_edge}
use Rattle.partition.proofs.edge_uses.are_on_one_edge.Goals as goal

regrouped : (a b c : Bool) → (a && (b && c)) ≡ (a && b && c)
regrouped true b c = refl
regrouped false b c = refl

pub returns : goal.returns
unfolding on_one_edge same_point
returns c =
    let e = c.args.s.edge in
    let f = c.args.t.edge in
    let v : Bool =
    int_eq c.args.s.edge.v.x c.args.t.edge.v.x &&
    (int_eq c.args.s.edge.v.y c.args.t.edge.v.y && int_eq c.args.s.edge.v.z c.args.t.edge.v.z) in
    let u : Bool =
    int_eq c.args.s.edge.u.x c.args.t.edge.u.x && int_eq c.args.s.edge.u.y c.args.t.edge.u.y && int_eq
    c.args.s.edge.u.z c.args.t.edge.u.z in
    c.eq.ensures
    ∙ (ap (λ b. b && v) (regrouped (int_eq c.args.s.edge.u.x c.args.t.edge.u.x)
    (int_eq c.args.s.edge.u.y c.args.t.edge.u.y) (int_eq c.args.s.edge.u.z c.args.t.edge.u.z))
    ∙ ap (λ b. u && b) (regrouped (int_eq c.args.s.edge.v.x c.args.t.edge.v.x)
    (int_eq c.args.s.edge.v.y c.args.t.edge.v.y) (int_eq c.args.s.edge.v.z c.args.t.edge.v.z)))

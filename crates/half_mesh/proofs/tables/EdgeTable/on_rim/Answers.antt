use Rattle.std.proofs.Common.{◌≡◌, true, Contains, ◌↔◌, sym, ◌∙◌}
use Rattle.std.specs.Option.{is_some}
use Rattle.geom_core.specs.EdgeSum.{OnRim}
use Rattle.half_mesh.proofs.TableLaws.{place_holds, sorted_points}
use Rattle.half_mesh.proofs.tables.EdgeTable.on_rim.Goals as goal

pub position_of-requires : goal.position_of-requires
position_of-requires c =
    record {
      sorted = rw c.deref.ensures.value
          (sorted_points c.self.inside.rim_points.items c.self.invariant.in_order);
    }

pub returns : goal.returns
returns c =
    let place : (is_some c.position_of.result ≡ true) ↔ Contains c.deref.result.now c.args.p =
    place_holds c.deref.result.now c.args.p c.position_of.result c.position_of.ensures.place c.position_of.ensures.found
    c.position_of.ensures.absent in
    let here : (is_some c.position_of.result ≡ true) ↔ Contains c.self.inside.rim_points.items c.args.p =
    rw c.deref.ensures.value at place in
    let rim : Contains c.self.inside.rim_points.items c.args.p ↔ OnRim c.args.self.now c.args.p =
    rw c.self.view_is at (c.self.invariant.on_rim c.args.p) in
    (λ yes. rim.0 (here.0 (sym c.is_some.ensures ∙ yes)), λ on. c.is_some.ensures ∙ here.1 (rim.1 on))

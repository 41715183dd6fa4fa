use Rattle.std.proofs.Common.{[]}
use Rattle.shape_gen.specs.Lattice.{is_on_surface, layer_places}
use Rattle.shape_gen.proofs.Ranges.{filtered_more}
use Rattle.shape_gen.proofs.lattice.lattice.Goals as goal

pub loop-i-preserved : goal.loop-i-preserved
loop-i-preserved c =
    filtered_more (is_on_surface c.args.n) (layer_places c.args.n) [] _ _ c.loop-i.i c.loop-i.invariant
    c.in_ok-push_layer.ensures

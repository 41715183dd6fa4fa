use Rattle.shape_gen.specs.Lattice.{is_on_surface, row_places}
use Rattle.shape_gen.proofs.Ranges.{filtered_more}
use Rattle.shape_gen.proofs.lattice.push_layer.Goals as goal

pub loop-j-preserved : goal.loop-j-preserved
loop-j-preserved c =
    filtered_more (is_on_surface c.args.n) (row_places c.args.n c.args.i) c.args.places.now.items _ _ c.loop-j.j
    c.loop-j.invariant
    c.in_ok-push_row.ensures

use Rattle.std.proofs.Common.{arith}
use Rattle.std.proofs.lemmas.Int.{ints}
use Rattle.view_camera.proofs.OnScreen.{before_test, first_centre}
use Rattle.view_camera.proofs.projections.is_before_first_centre.Goals as goal

pub returns : goal.returns
returns c = λ is k within.
    let at = c.args.at in
    let distance = first_centre c.args.side c.half_side.result c.half_side.ensures c.requires.side_limit in
    before_test c.args.focal c.args.side k at.offset at.depth _ c.scaled.result c.times.result (record {
      offset_bound = c.requires.view_axis.offset;
      depth_bound = c.requires.view_axis.depth;
      far = c.requires.view_axis.far;
      n_is = c.scaled.ensures.product;
      n_bound = c.scaled.ensures.product_limit;
      m_is = c.times.ensures;
      distance_bound = omega (arith, ints, distance);
    }) distance is

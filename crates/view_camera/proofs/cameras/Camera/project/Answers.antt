use Rattle.view_camera.specs.Internal.CameraFields.{view_of}
use Rattle.view_camera.proofs.Ranges.{sides}
use Rattle.view_camera.proofs.Spots.{far_depth, near_depth, spot_at-projected, spot_range}
use Rattle.view_camera.proofs.cameras.Camera.project.Goals as goal

pub project_axis-requires-2-clause-depth : goal.project_axis-requires-2-clause-depth
project_axis-requires-2-clause-depth c =
    far_depth c.self.inside.near c.args.at.depth c.self.invariant.near_low
    (rw (← c.self.view_is) at c.requires.beyond_near.far) c.requires.beyond_near.depth

pub reversed_depth-requires-clause-beyond : goal.reversed_depth-requires-clause-beyond
reversed_depth-requires-clause-beyond c =
    near_depth c.self.inside.near c.args.at.depth
    (rw (← c.self.view_is) at c.requires.beyond_near.far) c.requires.beyond_near.depth

pub returns-clause-spot : goal.returns-clause-spot
returns-clause-spot c =
    let sides = sides c.args.size c.requires.picture in
    rw (← c.self.view_is) (spot_at-projected (view_of c.self.inside) c.args.size c.args.at
    c.half_side.result c.project_axis.result c.half_side-2.result c.project_axis-2.result c.reversed_depth.result
    (record {
      width = sides.width;
      height = sides.height;
      middle_x_is = c.half_side.ensures;
      middle_y_is = c.half_side-2.ensures;
      offset_x_bound = c.project_axis.ensures.coordinate_limit;
      offset_y_bound = c.project_axis-2.ensures.coordinate_limit;
    }) (record {
      right = c.requires.beyond_near.right;
      down = c.requires.beyond_near.down;
      depth = c.requires.beyond_near.depth;
      offset_x_is = c.project_axis.ensures.coordinate;
      offset_y_is = c.project_axis-2.ensures.coordinate;
      z_is = c.reversed_depth.ensures.reversed;
    }))

pub returns-clause-spot_range : goal.returns-clause-spot_range
returns-clause-spot_range c =
    let sides = sides c.args.size c.requires.picture in
    spot_range c.args.size c.half_side.result c.project_axis.result c.half_side-2.result c.project_axis-2.result
    c.reversed_depth.result (record {
      width = sides.width;
      height = sides.height;
      middle_x_is = c.half_side.ensures;
      middle_y_is = c.half_side-2.ensures;
      offset_x_bound = c.project_axis.ensures.coordinate_limit;
      offset_y_bound = c.project_axis-2.ensures.coordinate_limit;
    }) c.reversed_depth.ensures.depth_range

use Rattle.std.proofs.Common.{true}
use Rattle.view_camera.specs.Internal.CameraFields.{view_of}
use Rattle.view_camera.proofs.Spots.{depth_test, spot_of-near, spot_of-view}
use Rattle.view_camera.proofs.cameras.Camera.to_view.Goals as goal

pub returns-then-depth-self-clause-spot : goal.returns-then-depth-self-clause-spot
returns-then-depth-self-clause-spot c = λ size.
    let depth = c.dot_from_eye-depth.result in
    let test = depth_test depth c.self.inside.near true c.dot_from_eye-depth.ensures.dot_limit
    c.self.invariant.near_high c.if-depth-self.true in
    rw (← c.self.view_is) (spot_of-near (view_of c.self.inside) size c.args.p depth c.dot_from_eye-depth.ensures.dot
    test)

pub returns-clause-spot : goal.returns-clause-spot
returns-clause-spot c = λ size.
    rw (← c.self.view_is) (spot_of-view (view_of c.self.inside) size c.args.p c.dot_from_eye.result
    c.dot_from_eye-2.result c.dot_from_eye-depth.result (record {
      near = c.self.invariant.near_high;
      right_is = c.dot_from_eye.ensures.dot;
      right_bound = c.dot_from_eye.ensures.dot_limit;
      down_is = c.dot_from_eye-2.ensures.dot;
      down_bound = c.dot_from_eye-2.ensures.dot_limit;
      depth_is = c.dot_from_eye-depth.ensures.dot;
      depth_bound = c.dot_from_eye-depth.ensures.dot_limit;
      far = c.if-depth-self.false;
    }))

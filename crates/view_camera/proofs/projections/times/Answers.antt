use Rattle.view_camera.proofs.OnScreen.{times_value}
use Rattle.view_camera.proofs.projections.times.Goals as goal

pub returns : goal.returns
returns c = times_value c.args.distance c.args.depth c.requires.distance c.requires.depth

use Rattle.view_camera.proofs.OnScreen.{on_screen_value}
use Rattle.view_camera.proofs.projections.project_axis.Goals as goal

pub returns-clause-coordinate : goal.returns-clause-coordinate
returns-clause-coordinate c =
    on_screen_value c.args.focal c.args.offset c.scaled.result c.args.depth c.floor_div.result
    c.requires.offset c.scaled.ensures.product c.scaled.ensures.product_limit c.requires.depth c.ranges.depth
    c.floor_div.ensures

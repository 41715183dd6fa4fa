use Rattle.view_camera.specs.ViewPoints.{spot_at}
use Rattle.view_camera.proofs.OffScreen.{words_of-off_columns, words_of-off_rows}
use Rattle.view_camera.proofs.Ranges.{sides}
use Rattle.view_camera.proofs.cameras.Camera.is_off_screen.Goals as goal

pub returns-then-all_off_one_side : goal.returns-then-all_off_one_side
unfolding spot_at
returns-then-all_off_one_side c = λ is cluster place.
    let beside = rw (c.horizontal.ensures, c.horizontal-2.ensures, c.horizontal-3.ensures) at
    c.all_off_one_side.ensures is in
    rw (← c.self.view_is) (words_of-off_columns _ _ _ cluster place c.args.size
    (sides c.args.size c.requires.picture).some_column beside)

pub returns-else-all_off_one_side : goal.returns-else-all_off_one_side
unfolding spot_at
returns-else-all_off_one_side c = λ is cluster place.
    let beside = rw (
      c.vertical.ensures,
      c.vertical-else-all_off_one_side.ensures,
      c.vertical-else-all_off_one_side-2.ensures,
    ) at c.all_off_one_side-else-all_off_one_side.ensures is in
    rw (← c.self.view_is) (words_of-off_rows _ _ _ cluster place c.args.size
    (sides c.args.size c.requires.picture).some_column beside)

use Rattle.std.proofs.Common.{sym}
use Rattle.shape_gen.proofs.PlaceLaws.{vertex_number-found, vertex_number-absent, absent_from_search}
use Rattle.shape_gen.proofs.texts.vertex_number.Goals as goal

pub returns-in-Ok : goal.returns-in-Ok
returns-in-Ok c =
    sym (vertex_number-found c.args.places.now c.args.place c.in-Ok.index c.requires.ascending c.in-Ok.ensures.bound
    c.in-Ok.ensures.ok)

pub returns-in-Err : goal.returns-in-Err
returns-in-Err c =
    sym (vertex_number-absent c.args.places.now c.args.place
    (absent_from_search c.args.places.now c.args.place c.in-Err.field-0 c.requires.ascending c.in-Err.ensures.position))

use Rattle.obj_source.specs.Builder.{so_far}
use Rattle.obj_source.proofs.Standing.{next_line}
use Rattle.obj_source.proofs.mesh_builder.MeshBuilder.end_line.Goals as goal

pub returns-in_ok-take_end-in-Ok-clause-next : goal.returns-in_ok-take_end-in-Ok-clause-next
returns-in_ok-take_end-in-Ok-clause-next c mesh_so_far line words stands =
    let old = c.args.self.now in
    let taken = c.in_ok-take_end-in-Ok.ensures in
    next_line old c.take_end.new.self c.in-Ok.end mesh_so_far line words
    (c.in-Ok.ensures old.scale (so_far old) c.requires.triangle_limit) taken.ended taken.begun taken.line stands

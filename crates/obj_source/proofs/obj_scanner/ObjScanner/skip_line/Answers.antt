use Rattle.std.proofs.Common.{◌∙◌}
use Rattle.obj_source.proofs.obj_scanner.ObjScanner.skip_line.Goals as goal

pub returns-clause-builder : goal.returns-clause-builder
returns-clause-builder c = λ scale mesh_so_far line first more stands long.
    (c.skip_line.ensures.same.0 ∙ stands.0, c.skip_line.ensures.stands mesh_so_far line first more long stands.1)

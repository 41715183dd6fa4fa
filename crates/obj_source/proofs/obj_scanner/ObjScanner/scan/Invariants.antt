use Rattle.std.proofs.Common.{length}
use Rattle.obj_source.proofs.Pieces.{TakenBefore}
use Rattle.obj_source.proofs.obj_scanner.ObjScanner.scan.Given as goal

-- the bytes before the rest were taken in
abbrev pub invariant-marks : goal.invariant-marks
invariant-marks l = TakenBefore l.fn.self l.self l.piece l.rest

abbrev pub decreases-marks : goal.decreases-marks
decreases-marks l = length l.rest

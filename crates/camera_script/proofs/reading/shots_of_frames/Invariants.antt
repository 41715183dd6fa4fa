-- the shots so far, and what the frames that are left give, are what all give
use Rattle.std.proofs.Common.{◌≡◌, ◌≤◌, [], drop, map}
use Rattle.serde_json.specs.View.{view}
use Rattle.camera_script.specs.Script.{shots_from}
use Rattle.camera_script.proofs.reading.shots_of_frames.Given as goal

abbrev pub invariant-loop-frame : goal.invariant-loop-frame
invariant-loop-frame l = record {
  few_prints : l.prints ≤ l.frame;
  so_far : shots_from l.shots.items l.frame l.prints (map view (drop l.frame l.frames)) ≡
      shots_from [] 0 0 (map view l.frames);
}

-- What every script has.
use Rattle.std.specs.Prelude.{◌≤◌, List, length, filter}
use Rattle.geom_core.specs.Limits.{IsPicture}
use Rattle.camera_script.specs.declared.scripts.Script.{Script}
use Rattle.camera_script.specs.declared.scripts.Shot.{Shot}
use Rattle.camera_script.specs.declared.scripts.TheConstants.{MAX_PRINTS, MAX_SHOTS}

-- the shots that are printed
abbrev pub printed : List Shot → List Shot
printed shots = filter (λ shot. shot.print) shots

-- its size is a picture's; it has at least one shot, at most MAX_SHOTS, and at most MAX_PRINTS that are printed
pub record IsScript (script : Script) : Type 0 where
  pub picture : IsPicture script.size
  pub some : 1 ≤ length script.shots
  pub shot_limit : length script.shots ≤ MAX_SHOTS
  pub print_limit : length (printed script.shots) ≤ MAX_PRINTS

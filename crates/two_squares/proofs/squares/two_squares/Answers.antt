use Rattle.std.proofs.Common.{◌≡◌, IfOk, Result, Ok, Err, subst, sym}
use Rattle.geom_core.specs.declared.out_of_memory.Memory.{Memory}
use Rattle.dag_core.specs.declared.dags.Dag.{Dag}
use Rattle.dag_core.specs.TriangleRules.{Sound}
use Rattle.dag_core.proofs.TwoSquares as squares
use Rattle.dag_core.proofs.TwoSquaresLaws.{two_squares_sound}
use Rattle.two_squares.proofs.squares.two_squares.Goals as goal

sound_if : (result : Result Dag Memory) → IfOk result (λ dag. dag ≡ squares.two_squares) → IfOk result Sound
sound_if (Ok dag) same = subst Sound (sym same) two_squares_sound
sound_if (Err refused) same = tt

pub returns-clause-sound : goal.returns-clause-sound
returns-clause-sound c = sound_if c.assembled_dag.result c.assembled_dag.ensures.dag

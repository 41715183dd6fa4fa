use Rattle.std.proofs.Common.{◌≡◌, IfOk, Result, Ok, Err, subst, sym}
use Rattle.geom_core.specs.declared.out_of_memory.Memory.{Memory}
use Rattle.dag_core.specs.declared.heads.Heads.{Heads}
use Rattle.dag_core.specs.Ranges.{IsInRange}
use Rattle.dag_core.specs.Rules.{Checked}
use Rattle.dag_core.proofs.TwoSquares as squares
use Rattle.dag_core.proofs.TwoSquaresLaws.{two_squares_checked, two_squares_in_range}
use Rattle.two_squares.proofs.squares.two_squares_heads.Goals as goal

range_if : (result : Result Heads Memory) → IfOk result (λ heads. heads ≡ squares.two_squares_heads) →
    IfOk result IsInRange
range_if (Ok heads) same = subst IsInRange (sym same) two_squares_in_range
range_if (Err refused) same = tt

checked_if : (result : Result Heads Memory) → IfOk result (λ heads. heads ≡ squares.two_squares_heads) →
    IfOk result Checked
checked_if (Ok heads) same = subst Checked (sym same) two_squares_checked
checked_if (Err refused) same = tt

pub returns-clause-range : goal.returns-clause-range
returns-clause-range c = range_if c.assembled_heads.result c.assembled_heads.ensures.heads

pub returns-clause-checked : goal.returns-clause-checked
returns-clause-checked c = checked_if c.assembled_heads.result c.assembled_heads.ensures.heads

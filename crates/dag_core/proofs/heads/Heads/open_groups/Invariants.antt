use Rattle.std.proofs.Common.{◌≡◌, map}
use Rattle.std.specs.List.{range_with_len}
use Rattle.dag_core.specs.Cuts.{is_open}
use Rattle.dag_core.proofs.heads.Heads.open_groups.Given as goal

abbrev pub invariant-loop-g : goal.invariant-loop-g
invariant-loop-g l = l.open.items ≡ map (is_open l.self l.lens l.resident) (range_with_len 0 l.g)

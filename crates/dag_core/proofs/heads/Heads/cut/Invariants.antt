use Rattle.std.proofs.Common.{◌≡◌, filter}
use Rattle.std.specs.List.{range_with_len}
use Rattle.dag_core.specs.Cuts.{is_in_cut}
use Rattle.dag_core.proofs.heads.Heads.cut.Given as goal

abbrev pub invariant-loop-c : goal.invariant-loop-c
invariant-loop-c l = l.cut.items ≡ filter (is_in_cut l.self l.lens l.resident) (range_with_len 0 l.c)

use Rattle.std.proofs.Common.{◌≡◌, map, take}
use Rattle.std.specs.List.{enumerate_from}
use Rattle.partition.proofs.ranking.numbered.Given as goal

abbrev pub invariant-loop-number : goal.invariant-loop-number
invariant-loop-number l =
    l.items.items ≡ map (λ p. record { key = p.1; number = p.0 }) (enumerate_from 0 (take l.number l.keys))

use Rattle.std.proofs.Common.{◌≡◌, ◌-◌, ◌++◌, get_or}
use Rattle.rim_collapse.specs.Internal.Chains.{chain, walk}
use Rattle.rim_collapse.proofs.chains.list_corners.Given as goal

-- the corners so far, and those that are left
abbrev pub invariant-loop-i : goal.invariant-loop-i
invariant-loop-i l =
    l.corners.items ++ walk l.chains.nexts.items (get_or l.chains.counts.items l.n 0 - l._i) l.corner ≡
    chain l.chains l.n

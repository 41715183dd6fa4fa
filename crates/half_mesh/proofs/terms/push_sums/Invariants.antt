use Rattle.std.proofs.Common.{◌≡◌, ◌++◌, take}
use Rattle.half_mesh.specs.Terms.{terms_in}
use Rattle.half_mesh.proofs.terms.push_sums.Given as goal

-- the edges so far
abbrev pub invariant-loop-place : goal.invariant-loop-place
invariant-loop-place l = l.terms.items ≡ l.initial.terms.items ++ terms_in (take l.place l.edges) (take l.place l.sums)

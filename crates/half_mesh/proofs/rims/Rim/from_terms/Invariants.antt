use Rattle.std.proofs.Common.{◌≡◌, take, map}
use Rattle.half_mesh.specs.declared.terms.EdgeTerm.{EdgeTerm}
use Rattle.half_mesh.proofs.rims.Rim.from_terms.Given as goal

-- the edges and the sums of the terms so far
abbrev pub invariant-loop-term : goal.invariant-loop-term
invariant-loop-term l =
    (l.edges.items ≡ map (λ (t : EdgeTerm). t.edge) (take l.term-index l.term-items)) ×
    (l.sums.items ≡ map (λ (t : EdgeTerm). t.sum) (take l.term-index l.term-items))

use Rattle.std.proofs.Common.{◌≡◌, ◌+◌, take, get_or}
use Rattle.half_mesh.specs.declared.terms.EdgeTerm.{EdgeTerm}
use Rattle.half_mesh.specs.Terms.{term}
use Rattle.half_mesh.proofs.TermLaws.{IsAdding}
use Rattle.half_mesh.proofs.terms.add_up.Given as goal

-- the terms so far are added up, but for those of the last edge
abbrev pub invariant-loop-term : goal.invariant-loop-term
invariant-loop-term l =
    IsAdding (take (l.term-index + 1) l.terms) l.sums.items (term l.edge l.sum) ×
    ((d : EdgeTerm) → l.edge ≡ (get_or l.terms l.term-index d).edge)

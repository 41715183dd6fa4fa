use Rattle.std.proofs.Common.{rules}
use Rattle.std.proofs.lemmas.List.Sorted.{length_permutation}
use Rattle.std.proofs.lemmas.Fn.{always_returns_same}
use Rattle.half_mesh.specs.declared.incidences.Incidence.{Incidence}
use Rattle.half_mesh.proofs.IncidenceLaws.{at_point-stable}
use Rattle.half_mesh.proofs.incidences.sort_by_point.Goals as goal

pub returns-clause-sorted : goal.returns-clause-sorted
returns-clause-sorted g c =
    c.in_ok-sort_by_key.ensures.sorted (λ (incidence : Incidence g.row.T.Denot). incidence.point)
    (always_returns_same _ _ _ (λ a r f' k. search rules))

pub returns-clause-groups : goal.returns-clause-groups
returns-clause-groups g c p =
    at_point-stable c.args.incidences.now.items c.sort_by_key.new.self.items
    (length_permutation _ _ c.sort_by_key.ensures.permutation)
    (c.sort_by_key.ensures.stable (λ (incidence : Incidence g.row.T.Denot). incidence.point)
    (always_returns_same _ _ _ (λ a r f' k. search rules))) p

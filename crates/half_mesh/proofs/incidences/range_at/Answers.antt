use Rattle.std.proofs.Common.{rules, ◌≡◌, ◌≤◌, ◌-◌, take, drop}
use Rattle.std.proofs.lemmas.List.Sorted.{IsPartitionPoint-from_clause}
use Rattle.half_mesh.specs.declared.incidences.Incidence.{Incidence}
use Rattle.geom_core.specs.Order.{is_before}
use Rattle.half_mesh.specs.Incidences.{at_point}
use Rattle.half_mesh.proofs.IncidenceLaws.{is_upto, partitioned_before, partitioned_upto, range_is}
use Rattle.half_mesh.proofs.incidences.range_at.Given.{Over}
use Rattle.half_mesh.proofs.incidences.range_at.Goals as goal

-- the two searches in order, and what stands between them
both : (g : Over) (c : goal.After-partition_point-to g) →
    (c.partition_point-from.result ≤ c.partition_point-to.result) ×
    (take (c.partition_point-to.result - c.partition_point-from.result)
    (drop c.partition_point-from.result c.args.incidences.now) ≡ at_point c.args.p c.args.incidences.now)
both g c =
    range_is c.args.p c.args.incidences.now c.partition_point-from.result c.partition_point-to.result
    (IsPartitionPoint-from_clause (λ (incidence : Incidence g.row.T.Denot). is_before incidence.point c.args.p)
    c.args.incidences.now c.partition_point-from.result c.partition_point-from.ensures.partitioned
    (partitioned_before c.args.p c.args.incidences.now c.requires.sorted) (λ a r f' k. search rules))
    (IsPartitionPoint-from_clause (λ (incidence : Incidence g.row.T.Denot). is_upto c.args.p incidence)
    c.args.incidences.now c.partition_point-to.result c.partition_point-to.ensures.partitioned
    (partitioned_upto c.args.p c.args.incidences.now c.requires.sorted) (λ a r f' k. search rules))
    c.partition_point-from.ensures.bound c.partition_point-to.ensures.bound

pub returns-clause-bounds : goal.returns-clause-bounds
returns-clause-bounds g c = ((both g c).0, c.partition_point-to.ensures.bound)

pub returns-clause-group : goal.returns-clause-group
returns-clause-group g c = (both g c).1

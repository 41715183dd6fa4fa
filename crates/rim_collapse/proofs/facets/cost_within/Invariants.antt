use Rattle.std.proofs.Common.{◌≡◌, ◌≤◌, ◌*◌, ◌^◌, sum_by, take}
use Rattle.rim_collapse.specs.Internal.Facets.{facet_cost}
use Rattle.rim_collapse.proofs.facets.cost_within.Given as goal

abbrev pub invariant-facets : goal.invariant-facets
invariant-facets l = record {
  sum : l.total ≡ sum_by (facet_cost l.offset) (take l.facet-index l.facets);
  size : l.total ≤ l.facet-index * (3 * (2 ^ 43 * 2 ^ 43));
}

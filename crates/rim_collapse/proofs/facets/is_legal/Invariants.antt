use Rattle.std.proofs.Common.{◌≡◌, true, take}
use Rattle.std.specs.List.{list_all}
use Rattle.rim_collapse.specs.Internal.Facets.{facet_keeps}
use Rattle.rim_collapse.proofs.facets.is_legal.Given as goal

abbrev pub invariant-loop-facet : goal.invariant-loop-facet
invariant-loop-facet l = list_all (facet_keeps l.a l.b) (take l.facet-index l.facets) ≡ true

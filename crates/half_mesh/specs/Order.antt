-- The order of edges.
use Rattle.std.specs.Ordering.{ordering_then}
use Rattle.std.specs.declared.cmp.Ordering.{Ordering}
use Rattle.geom_core.specs.Order.{point_cmp}
use Rattle.half_mesh.specs.declared.edges.Edge.{Edge}

-- by u; at equal u by v
abbrev pub edge_cmp : Edge → Edge → Ordering
edge_cmp e f = ordering_then (point_cmp e.u f.u) (point_cmp e.v f.v)

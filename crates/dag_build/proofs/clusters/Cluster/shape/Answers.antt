use Rattle.std.proofs.Common.{All, subst, sym, ◌∙◌}
use Rattle.geom_core.specs.Limits.{IsGridPoint}
use Rattle.geom_core.specs.TaggedLists.{tris_of}
use Rattle.partition.specs.Groups.{IsGridEdge}
use Rattle.dag_build.proofs.BoxLaws.{low_corner-grid, rim-grid}
use Rattle.dag_build.proofs.clusters.Cluster.shape.Goals as goal

pub returns-clause-shape_range : goal.returns-clause-shape_range
returns-clause-shape_range c =
    let tris = tris_of c.self.inside.cluster.tris in
    record {
      low = subst IsGridPoint (sym c.self.invariant.low_of) (low_corner-grid tris c.self.invariant.triangles);
      rim = subst (All IsGridEdge) (sym (c.of.ensures ∙ (c.in_ok-edges.ensures.items_if_clones_equal
          (λ x y same. same) ∙ c.edges.ensures.edges)))
          (rim-grid tris c.self.inside.rim c.self.invariant.rim_of c.self.invariant.triangles);
    }

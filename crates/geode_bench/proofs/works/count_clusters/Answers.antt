use Rattle.geode_bench.proofs.JoinLaws.{grid_corners}
use Rattle.geode_bench.proofs.works.count_clusters.Goals as goal

pub cut_clusters-requires-clause-corner_range : goal.cut_clusters-requires-clause-corner_range
cut_clusters-requires-clause-corner_range c = grid_corners c.args.tris.now c.requires.mesh.each

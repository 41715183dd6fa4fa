use Rattle.std.proofs.Common.{◌≡◌, true, take}
use Rattle.std.specs.List.{list_all}
use Rattle.dag_core.specs.TriangleRules.{is_near_source}
use Rattle.dag_core.specs.Triangles.{tris_at}
use Rattle.dag_soundness.proofs.leaf_places.is_cluster_near.Given as goal

abbrev pub invariant-tris : goal.invariant-tris
invariant-tris l = list_all (is_near_source l.dag l.most) (take l.t-index (tris_at l.dag l.c)) ≡ true

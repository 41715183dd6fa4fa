use Rattle.obj_source.proofs.Standing.{stands_settled, settled_passed, settled_vertex}
use Rattle.obj_source.proofs.mesh_builder.MeshBuilder.ignores_rest.Goals as goal

pub returns-in-Passed : goal.returns-in-Passed
returns-in-Passed c mesh_so_far line words more settled stands =
    stands_settled c.args.self.now mesh_so_far line words more (settled_passed c.args.self.now c.in-Passed.is) stands

pub returns-in-Vertex : goal.returns-in-Vertex
returns-in-Vertex c mesh_so_far line words more settled stands =
    stands_settled c.args.self.now mesh_so_far line words more
    (settled_vertex c.args.self.now c.in-Vertex.vertex c.in-Vertex.is
    (λ scale rest. c.ignores_rest.ensures scale rest settled)) stands

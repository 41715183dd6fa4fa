use Rattle.std.proofs.Common.{List, ℕ, All, ◌<◌, length, subst, sym}
use Rattle.geom_core.specs.Limits.{IsGridTriangle}
use Rattle.geom_core.specs.TaggedLists.{tris_of}
use Rattle.dag_build.proofs.CutLaws.{picked_grid}
use Rattle.dag_build.proofs.cutting.push_clusters.Goals as goal

pub new-requires-clause-triangles : goal.new-requires-clause-triangles
new-requires-clause-triangles c =
    let P : List ℕ → Type 0 = λ numbers. All (λ n. n < length c.args.tris.now) numbers in
    let here : P c.as_slice.result.now = subst P (sym c.as_slice.ensures)
    (subst P (sym c.batch-item.is) (c.requires.number_range c.loop-batch.batch-index c.batch-item.result
    c.loop-batch-test.true)) in
    subst (λ tris. All IsGridTriangle (tris_of tris)) (sym c.in_ok-picked.ensures.triangles)
    (picked_grid c.args.tris.now c.as_slice.result.now here c.requires.triangles)

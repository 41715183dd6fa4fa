use Rattle.std.proofs.Common.{ℕ, List, ◌++◌, take, ap, subst, ◌∙◌}
use Rattle.std.specs.Prelude.{flat_map}
use Rattle.geom_core.specs.Camera.{View}
use Rattle.geom_core.specs.Picture.{drawn, items_of}
use Rattle.geode_tool.proofs.DrawnItems.{drawn-more_by_equal}
use Rattle.geode_tool.proofs.draw_mesh.draw_all.Goals as goal

pub loop-number-preserved : goal.loop-number-preserved
loop-number-preserved g c = (
  c.draw_triangle.ensures.same_camera ∙ c.loop-number.invariant.0,
  c.draw_triangle.ensures.same_size ∙ c.loop-number.invariant.1,
  λ rest before shown.
      let request = c.args.request.now in
      let draws = drawn request.camera request.size in
      let tris = c.args.tris.now in
      let number = c.loop-number.number in
      let so_far : List (ℕ × ℕ) = before ++ flat_map draws (items_of (take number tris)) in
      let last = drawn c.loop-number.cache.camera request.size in
      let same = ap (λ (camera : View). drawn camera request.size) c.loop-number.invariant.0 in
      subst (g.T.PixelSink.shows c.draw_triangle.new.to rest)
      (drawn-more_by_equal draws last before tris number _ same c.loop-number-test.true)
      (c.draw_triangle.ensures.shown rest so_far (c.loop-number.invariant.2 rest before shown)),
)

use Rattle.std.proofs.Common.{◌≡◌, ◌++◌, ℕ, List, take}
use Rattle.std.specs.Prelude.{flat_map}
use Rattle.geom_core.specs.Picture.{drawn, items_of}
use Rattle.geode_tool.proofs.draw_mesh.draw_all.Given as goal

-- the triangles so far have been drawn, and the cache's camera is that of the request
abbrev pub invariant-loop-number : goal.invariant-loop-number
invariant-loop-number g l =
    (l.cache.camera ≡ l.request.camera)
    × (g.T.PixelSink.pixels l.to ≡ g.T.PixelSink.pixels l.fn.to)
    × ((rest : g.row.T-Rest.Denot) (before : List (ℕ × ℕ)) → g.T.PixelSink.shows l.fn.to rest before →
    g.T.PixelSink.shows l.to rest (before ++ flat_map (drawn l.request.camera l.request.size)
    (items_of (take l.number l.tris))))

use Rattle.std.proofs.Common.{◌≡◌, ◌*◌, ℕ, List, ◌++◌}
use Rattle.raster64.specs.Internal.Raster.{words_in}
use Rattle.raster64.proofs.raster.draw_rows.Given as goal

-- the sink shows the words of the rows so far
abbrev pub invariant-rows : goal.invariant-rows
invariant-rows g l =
    (g.T.PixelSink.pixels l.to ≡ g.T.PixelSink.pixels l.fn.to) ×
    ((rest : g.row.T-Rest.Denot) (before : List (ℕ × ℕ)) → g.T.PixelSink.shows l.fn.to rest before →
    g.T.PixelSink.shows l.to rest (before ++ words_in l.triangle 0 (l.row * l.triangle.size.width)))

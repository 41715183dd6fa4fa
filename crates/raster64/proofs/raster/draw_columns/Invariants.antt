use Rattle.std.proofs.Common.{◌≡◌, ◌*◌, ℕ, List, ◌++◌}
use Rattle.geom_core.specs.Depth.{weighted}
use Rattle.raster64.specs.Internal.Centres.{centre}
use Rattle.raster64.specs.Internal.Numerators.{IsDivided}
use Rattle.raster64.specs.Internal.Raster.{words_in}
use Rattle.raster64.proofs.raster.draw_columns.Given as goal

-- the sink shows the words of the columns so far, and the depth is that of the next one
abbrev pub invariant-columns : goal.invariant-columns
invariant-columns g l =
    (g.T.PixelSink.pixels l.to ≡ g.T.PixelSink.pixels l.fn.to) ×
    ((rest : g.row.T-Rest.Denot) (before : List (ℕ × ℕ)) → g.T.PixelSink.shows l.fn.to rest before →
    g.T.PixelSink.shows l.to rest (before ++ words_in l.triangle (l.row * l.triangle.size.width) l.column)) ×
    IsDivided (weighted l.triangle.a l.triangle.b l.triangle.c (centre l.column) (centre l.row))
    (g.W.Wide.int l.plane.divisor) (g.W.Wide.int l.depth.whole) (g.W.Wide.int l.depth.rest)

-- The depth of a column that a triangle covers, by the quotient that is stepped along the row.
use Rattle.std.proofs.Common.{◌≡◌, ◌≢◌, ℕ, ◌+◌, ◌*◌, ◌≤◌, ◌<◌, true, not, ℤ, pos, sym, ◌∙◌, arith}
use Rattle.std.proofs.lemmas.Int.{ints}
use Rattle.std.specs.Ordering.{int_eq}
use Rattle.geom_core.specs.Limits.{IsSpot}
use Rattle.geom_core.specs.declared.limits.TheConstants.{MAX_DEPTH}
use Rattle.geom_core.specs.Winding.{winding}
use Rattle.geom_core.specs.Depth.{weighted, depth}
use Rattle.raster64.specs.declared.raster.ScreenTriangle.{ScreenTriangle}
use Rattle.raster64.specs.Internal.Centres.{centre, AreInRange}
use Rattle.raster64.specs.Internal.Numerators.{IsDivided, IsDepthPlane}
use Rattle.raster64.specs.Internal.Raster.{is_covered}
use Rattle.raster64.proofs.Bounds.{spot_z, depth_limit}
use Rattle.raster64.proofs.DepthSteps.{whole-depth, depth_at_most}
use Rattle.raster64.proofs.Stretches.{is_covered-at}

is_round : (w : ℤ) → not (int_eq w (pos 0)) ≡ true → w ≢ pos 0
is_round w h = grind (arith, ints)

-- in the range of covered columns the quotient is the depth
pub column_depth : (d : ScreenTriangle) (row column first end : ℕ) (divisor step_whole step_rest whole rest : ℤ) →
    AreInRange (λ k. is_covered d (row * d.size.width + k)) first end d.size.width → first ≤ column → column < end →
    IsDepthPlane d.a d.b d.c divisor step_whole step_rest →
    IsDivided (weighted d.a d.b d.c (centre column) (centre row)) divisor whole rest →
    whole ≡ pos (depth d.a d.b d.c (centre column) (centre row))
column_depth d row column first end divisor step_whole step_rest whole rest range from before plane h =
    let limit = range.limit in
    let round = is_round (winding d.a d.b d.c (centre column) (centre row))
    (sym (is_covered-at d row column (omega arith)) ∙ range.inside column from before) in
    whole-depth d.a d.b d.c (centre column) (centre row) divisor whole rest round plane.area plane.positive h

-- the depth of a triangle that can be drawn
pub depth_size : (d : ScreenTriangle) (row column : ℕ) → IsSpot d.a × IsSpot d.b × IsSpot d.c →
    depth d.a d.b d.c (centre column) (centre row) ≤ MAX_DEPTH
depth_size d row column spots =
    depth_at_most d.a d.b d.c (centre column) (centre row) (depth_limit d.a.z (spot_z d.a spots.0))
    (depth_limit d.b.z (spot_z d.b spots.1)) (depth_limit d.c.z (spot_z d.c spots.2))

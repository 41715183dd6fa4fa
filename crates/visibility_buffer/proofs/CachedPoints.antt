-- Entries of a vertex cache that are right for its camera.
use Rattle.std.proofs.Common.{◌≡◌, IfSome, option_map}
use Rattle.geom_core.specs.declared.screens.Size.{Size}
use Rattle.geom_core.specs.Camera.{View, spot_of}
use Rattle.view_camera.specs.ViewPoints.{spot_at, IsBeyondNear}
use Rattle.visibility_buffer.specs.declared.vertex_caches.CachedPoint.{CachedPoint}

-- the entry is right for the camera
abbrev pub IsRight : View → CachedPoint → Type 0
IsRight view entry = IfSome entry.at (IsBeyondNear view)
    × ((size : Size) → spot_of view size entry.point ≡ option_map (spot_at view size) entry.at)

-- The spot of a point, from what the camera's steps give.
use Rattle.std.specs.Prelude.{◌≡◌, ◌+◌, ◌*◌, ◌≤◌, ◌^◌, ℕ, ℤ, pos, ◌+ℤ◌, ◌≤ℤ◌, unsigned_abs, int_lt, Bool, true, false}
use Rattle.std.specs.Prelude.{Some, None, refl}
use Rattle.std.proofs.Common.{arith, ◌∙◌, to_z, of_z, w64, lit<}
use Rattle.std.proofs.lemmas.Int.{ints, to_z_pos}
use Rattle.geom_core.specs.declared.points.Pt.{Pt}
use Rattle.geom_core.specs.declared.screens.Size.{Size}
use Rattle.geom_core.specs.declared.screens.Spot.{Spot}
use Rattle.geom_core.specs.Camera.{View, along, on_screen, reversed_depth, spot_of}
use Rattle.view_camera.specs.ViewPoints.{spot_at}
use Rattle.view_camera.specs.declared.view_points.ViewPoint.{ViewPoint}
use Rattle.geom_core.specs.Limits.{IsDepth, IsSpot}
use Rattle.view_camera.proofs.Bounds.{small_stays}
use Rattle.view_camera.proofs.Ranges.{is_spot_from}

-- the test of the near depth, as the code has it
pub depth_test : (depth : ℤ) (near : ℕ) (b : Bool) → unsigned_abs depth ≤ 876173328384 → near ≤ 2 ^ 34 →
    int_lt (to_z w64 (of_z w64 depth)) (to_z w64 near) ≡ b → int_lt depth (pos near) ≡ b
depth_test depth near b p q h =
    let left = small_stays depth 876173328384 p (lit< tt) in
    let right = to_z_pos w64 near (omega arith) in
    rw (left, right) at h

pub spot_of-near : (view : View) (size : Size) (p : Pt) (depth : ℤ) → depth ≡ along view.forward view.eye p →
    int_lt depth (pos view.near) ≡ true → spot_of view size p ≡ None
unfolding spot_of
spot_of-near view size p depth d h = let t = rw d at h in rw t refl

-- a point in the camera's axes, as the code has it
abbrev computed : ℤ → ℤ → ℤ → ViewPoint
computed right down depth =
    record { right = to_z w64 (of_z w64 right); down = to_z w64 (of_z w64 down); depth = to_z w64 (of_z w64 depth) }

-- what the steps of turning a point give
pub record ViewSteps (view : View) (p : Pt) (right down depth : ℤ) : Type 0 where
  pub near : view.near ≤ 2 ^ 34
  pub right_is : right ≡ along view.right view.eye p
  pub right_bound : unsigned_abs right ≤ 876173328384
  pub down_is : down ≡ along view.down view.eye p
  pub down_bound : unsigned_abs down ≤ 876173328384
  pub depth_is : depth ≡ along view.forward view.eye p
  pub depth_bound : unsigned_abs depth ≤ 876173328384
  pub far : int_lt (to_z w64 (of_z w64 depth)) (to_z w64 view.near) ≡ false

pub spot_of-view : (view : View) (size : Size) (p : Pt) (right down depth : ℤ) → ViewSteps view p right down depth →
    spot_of view size p ≡ Some (spot_at view size (computed right down depth))
unfolding spot_of spot_at
spot_of-view view size p right down depth t =
    let test = depth_test depth view.near false t.depth_bound t.near t.far in
    let right_stays : to_z w64 (of_z w64 right) ≡ along view.right view.eye p = small_stays right 876173328384
    t.right_bound (lit< tt) ∙ t.right_is in
    let down_stays : to_z w64 (of_z w64 down) ≡ along view.down view.eye p = small_stays down 876173328384 t.down_bound
    (lit< tt) ∙ t.down_is in
    let depth_stays : to_z w64 (of_z w64 depth) ≡ along view.forward view.eye p = small_stays depth 876173328384
    t.depth_bound (lit< tt) ∙ t.depth_is in
    let beyond = rw t.depth_is at test in
    rw (right_stays, down_stays, depth_stays, beyond) refl

-- a coordinate, as the code has it: from the picture's edge
abbrev from_edge : ℤ → ℤ → ℤ
from_edge middle offset = to_z w64 (of_z w64 (to_z w64 (of_z w64 middle) +ℤ to_z w64 (of_z w64 offset)))

from_edge_is : (side : ℕ) (middle offset : ℤ) → middle ≡ pos (8 * side) → side ≤ 512 →
    unsigned_abs offset + 4096 ≤ 2 ^ 42 → from_edge middle offset ≡ pos (8 * side) +ℤ offset
from_edge_is side middle offset e p q = omega (arith, ints)

-- two middles and offsets of a picture's size
pub record Centred (size : Size) (middle_x offset_x middle_y offset_y : ℤ) : Type 0 where
  pub width : size.width ≤ 512
  pub height : size.height ≤ 512
  pub middle_x_is : middle_x ≡ pos (8 * size.width)
  pub middle_y_is : middle_y ≡ pos (8 * size.height)
  pub offset_x_bound : unsigned_abs offset_x + 4096 ≤ 2 ^ 42
  pub offset_y_bound : unsigned_abs offset_y + 4096 ≤ 2 ^ 42

from_edge_limit : (side : ℕ) (middle offset : ℤ) → middle ≡ pos (8 * side) → side ≤ 512 →
    unsigned_abs offset + 4096 ≤ 2 ^ 42 → unsigned_abs (from_edge middle offset) ≤ 2 ^ 42
from_edge_limit side middle offset e p q = rw (from_edge_is side middle offset e p q) (omega (arith, ints))

pub spot_range : (size : Size) (middle_x offset_x middle_y offset_y : ℤ) (z : ℕ) →
    Centred size middle_x offset_x middle_y offset_y → IsDepth z →
    IsSpot (record { x = from_edge middle_x offset_x; y = from_edge middle_y offset_y; z = z })
spot_range size middle_x offset_x middle_y offset_y z s depth =
    is_spot_from (record { x = from_edge middle_x offset_x; y = from_edge middle_y offset_y; z = z })
    (from_edge_limit size.width middle_x offset_x s.middle_x_is s.width s.offset_x_bound)
    (from_edge_limit size.height middle_y offset_y s.middle_y_is s.height s.offset_y_bound) depth

-- what the steps of projecting a point give
pub record Projected (view : View) (at : ViewPoint) (offset_x offset_y : ℤ) (z : ℕ) : Type 0 where
  pub right : unsigned_abs at.right ≤ 876173328384
  pub down : unsigned_abs at.down ≤ 876173328384
  pub depth : unsigned_abs at.depth ≤ 876173328384
  pub offset_x_is : offset_x ≡ on_screen view.focal (to_z w64 (of_z w64 at.right)) (to_z w64 (of_z w64 at.depth))
  pub offset_y_is : offset_y ≡ on_screen view.focal (to_z w64 (of_z w64 at.down)) (to_z w64 (of_z w64 at.depth))
  pub z_is : z ≡ reversed_depth view.near (to_z w64 (of_z w64 at.depth))

pub spot_at-projected : (view : View) (size : Size) (at : ViewPoint) (middle_x offset_x middle_y offset_y : ℤ) (z : ℕ) →
    Centred size middle_x offset_x middle_y offset_y → Projected view at offset_x offset_y z →
    ◌≡◌ {A = Spot} (record { x = from_edge middle_x offset_x; y = from_edge middle_y offset_y; z = z })
    (spot_at view size at)
unfolding spot_at
spot_at-projected view size at middle_x offset_x middle_y offset_y z e s =
    let right = small_stays at.right 876173328384 s.right (lit< tt) in
    let down = small_stays at.down 876173328384 s.down (lit< tt) in
    let depth = small_stays at.depth 876173328384 s.depth (lit< tt) in
    let x = from_edge_is size.width middle_x offset_x e.middle_x_is e.width e.offset_x_bound in
    let y = from_edge_is size.height middle_y offset_y e.middle_y_is e.height e.offset_y_bound in
    rw (x, y, s.offset_x_is, s.offset_y_is, s.z_is, right, down, depth) refl

-- a depth that is no nearer than near, as the code has it
pub near_depth : (near : ℕ) (depth : ℤ) → pos near ≤ℤ depth → unsigned_abs depth ≤ 876173328384 →
    pos near ≤ℤ to_z w64 (of_z w64 depth)
near_depth near depth far bound = rw (small_stays depth 876173328384 bound (lit< tt)) far

pub far_depth : (near : ℕ) (depth : ℤ) → 16384 ≤ near → pos near ≤ℤ depth → unsigned_abs depth ≤ 876173328384 →
    pos 16384 ≤ℤ to_z w64 (of_z w64 depth)
far_depth near depth least far bound =
    rw (small_stays depth 876173328384 bound (lit< tt)) (omega (arith, ints))

-- The camera that numbers make, none of which is out of its range.
use Rattle.std.specs.Prelude.{◌≡◌, ◌+◌, ◌-◌, ◌<◌, ◌≤◌, ◌^◌, ◌||◌, ◌∷◌, [], List, ℕ, zero, suc, ℤ, pos, int_lt, ◌≤ℤ◌}
use Rattle.std.specs.Prelude.{unsigned_abs, Bool, true, false, Option, Some, None, cond, length, refl}
use Rattle.std.proofs.Common.{arith, ap, sym, subst, ◌∙◌, to_z, of_z, w32, w64, lit<, lit≤, get_or}
use Rattle.std.proofs.lemmas.Int.{ints}
use Rattle.std.proofs.lemmas.List.{get_or-drop, get_or-replicate}
use Rattle.geom_core.specs.Camera.{Direction}
use Rattle.view_camera.specs.declared.rotation.RotationRow.{RotationRow}
use Rattle.view_camera.specs.declared.cameras.Camera.TheInside.{Inside}
use Rattle.view_camera.specs.declared.number_ranges.NumberRange.{NumberRange}
use Rattle.view_camera.specs.CameraNumbers.{within, between, ranges, is_outside, first_outside, first_bad, number_at}
use Rattle.view_camera.specs.CameraNumbers.{direction_at, view_of_numbers}
use Rattle.view_camera.specs.Internal.RotationRows.{IsRotationRow, direction_of}
use Rattle.view_camera.specs.Internal.CameraFields.{IsCamera, view_of}
use Rattle.view_camera.proofs.Bounds.{small_stays}
use Rattle.view_camera.proofs.Ranges.{is_eye_from}

abbrev no_range : NumberRange
no_range = record { least = pos 0; greatest = pos 0 }

-- a test that comes before others finds nothing, and they don't
none_of : (b : Bool) (k : ℕ) (o : Option ℕ) → cond b (Some k) o ≡ None → (b ≡ false) × (o ≡ None)
none_of true k o h = absurd (cc)
none_of false k o h = (refl, h)

-- where no number is out of its range, each is inside its own
each_inside : (place : ℕ) (rs : List NumberRange) (ns : List ℤ) (d : NumberRange) → first_outside place rs ns ≡ None →
    (k : ℕ) → k < length rs → k < length ns → is_outside (get_or rs k d) (get_or ns k (pos 0)) ≡ false
each_inside place [] ns d h k p q = absurd (omega arith)
each_inside place (r ∷ rs) [] d h k p q = absurd (omega arith)
each_inside place (r ∷ rs) (n ∷ ns) d h zero p q = (none_of (is_outside r n) place _ h).0
each_inside place (r ∷ rs) (n ∷ ns) d h (suc k) p q =
    each_inside (place + 1) rs ns d (none_of (is_outside r n) place _ h).1 k (omega arith) (omega arith)

neither : (a b : Bool) → (a || b) ≡ false → (a ≡ false) × (b ≡ false)
neither true b h = absurd (cc)
neither false b h = (refl, h)

-- what it is to be inside a range
inside : (range : NumberRange) (n : ℤ) → is_outside range n ≡ false → (range.least ≤ℤ n) × (n ≤ℤ range.greatest)
inside range n h =
    let both = neither (int_lt n range.least) (int_lt range.greatest n) h in
    let low : int_lt n range.least ≡ false = both.0 in
    let high : int_lt range.greatest n ≡ false = both.1 in
    (omega (arith, ints), omega (arith, ints))

in_range : (ns : List ℤ) → length ns ≡ 15 → first_bad ns ≡ None → (k : ℕ) → k < 15 →
    is_outside (get_or ranges k no_range) (number_at ns k) ≡ false
unfolding first_bad
in_range ns e h k p = each_inside 0 ranges ns no_range h k p (omega arith)

-- the ranges, number by number
pub record InRange (ns : List ℤ) : Type 0 where
  pub focal_low : pos 1 ≤ℤ number_at ns 0
  pub focal_high : number_at ns 0 ≤ℤ pos 4096
  pub near_low : pos 16384 ≤ℤ number_at ns 1
  pub near_high : number_at ns 1 ≤ℤ pos (2 ^ 34)
  pub tolerance_low : pos 0 ≤ℤ number_at ns 2
  pub tolerance_high : number_at ns 2 ≤ℤ pos 65535
  pub eye_x : unsigned_abs (number_at ns 3) ≤ 2 ^ 24
  pub eye_y : unsigned_abs (number_at ns 4) ≤ 2 ^ 24
  pub eye_z : unsigned_abs (number_at ns 5) ≤ 2 ^ 24
  pub rows : (k : ℕ) → k < 15 → 6 ≤ k → unsigned_abs (number_at ns k) ≤ 16384

-- a range that is as wide on both sides
within_bound : (most : ℕ) (n : ℤ) → is_outside (within most) n ≡ false → unsigned_abs n ≤ most
within_bound most n h = let b = inside (within most) n h in omega (arith, ints, b.0, b.1)

-- the entries of the rows have one range
row_range : (k : ℕ) → k < 15 → 6 ≤ k → get_or ranges k no_range ≡ within 16384
row_range k p q =
    let past : 6 + (k - 6) ≡ k = omega arith in
    ap (λ i. get_or ranges i no_range) (sym past)
    ∙ sym (get_or-drop 6 ranges (k - 6) no_range)
    ∙ get_or-replicate 9 (k - 6) (within 16384) no_range (omega arith)

pub in_ranges : (ns : List ℤ) → length ns ≡ 15 → first_bad ns ≡ None → InRange ns
in_ranges ns e h =
    let focal = inside (between 1 4096) (number_at ns 0) (in_range ns e h 0 (lit< tt)) in
    let near = inside (between 16384 (2 ^ 34)) (number_at ns 1) (in_range ns e h 1 (lit< tt)) in
    let tolerance = inside (between 0 65535) (number_at ns 2) (in_range ns e h 2 (lit< tt)) in
    record {
      focal_low = focal.0;
      focal_high = focal.1;
      near_low = near.0;
      near_high = near.1;
      tolerance_low = tolerance.0;
      tolerance_high = tolerance.1;
      eye_x = within_bound (2 ^ 24) (number_at ns 3) (in_range ns e h 3 (lit< tt));
      eye_y = within_bound (2 ^ 24) (number_at ns 4) (in_range ns e h 4 (lit< tt));
      eye_z = within_bound (2 ^ 24) (number_at ns 5) (in_range ns e h 5 (lit< tt));
      rows = λ k p q. within_bound 16384 (number_at ns k)
          (subst (λ (r : NumberRange). is_outside r (number_at ns k) ≡ false) (row_range k p q) (in_range ns e h k p));
    }

-- the fields, as the code has them
abbrev natural : ℤ → ℕ
natural n = unsigned_abs (to_z w64 (of_z w64 n))

abbrev coordinate : ℤ → ℤ
coordinate n = to_z w32 (of_z w32 (to_z w64 (of_z w64 n)))

abbrev made : List ℤ → RotationRow → RotationRow → RotationRow → Inside
made ns right down forward = record {
  focal = natural (number_at ns 0);
  near = natural (number_at ns 1);
  tolerance = natural (number_at ns 2);
  eye = record { x = coordinate (number_at ns 3); y = coordinate (number_at ns 4); z = coordinate (number_at ns 5) };
  right = right;
  down = down;
  forward = forward;
}

natural_is : (n : ℤ) (most : ℕ) → pos 0 ≤ℤ n → n ≤ℤ pos most → most < 2 ^ 63 → natural n ≡ unsigned_abs n
natural_is n most p q r = ap unsigned_abs (small_stays n most (omega (arith, ints)) r)

coordinate_is : (n : ℤ) → unsigned_abs n ≤ 2 ^ 24 → coordinate n ≡ n
coordinate_is n p = omega (arith, ints)

pub view_of-made : (ns : List ℤ) (right down forward : RotationRow) → InRange ns →
    direction_of right ≡ direction_at ns 6 → direction_of down ≡ direction_at ns 9 →
    direction_of forward ≡ direction_at ns 12 → view_of (made ns right down forward) ≡ view_of_numbers ns
unfolding view_of_numbers
view_of-made ns right down forward r e f g =
    let focal = natural_is (number_at ns 0) 4096 (omega (arith, ints)) r.focal_high (lit< tt) in
    let near = natural_is (number_at ns 1) (2 ^ 34) (omega (arith, ints)) r.near_high (lit< tt) in
    let tolerance = natural_is (number_at ns 2) 65535 (omega (arith, ints)) r.tolerance_high (lit< tt) in
    let x = coordinate_is (number_at ns 3) r.eye_x in
    let y = coordinate_is (number_at ns 4) r.eye_y in
    let z = coordinate_is (number_at ns 5) r.eye_z in
    rw (focal, near, tolerance, x, y, z, e, f, g) refl

-- the entries of a row that begins at a place
row_is : (ns : List ℤ) (row : RotationRow) (place : ℕ) → InRange ns → 6 ≤ place → place ≤ 12 →
    direction_of row ≡ direction_at ns place → IsRotationRow row
row_is ns row place r p q e =
    let x : row.x ≡ number_at ns place = ap (λ (d : Direction). d.x) e in
    let y : row.y ≡ number_at ns (place + 1) = ap (λ (d : Direction). d.y) e in
    let z : row.z ≡ number_at ns (place + 2) = ap (λ (d : Direction). d.z) e in
    record {
      x = rw x (r.rows place (omega arith) p);
      y = rw y (r.rows (place + 1) (omega arith) (omega arith));
      z = rw z (r.rows (place + 2) (omega arith) (omega arith));
    }

pub IsCamera-made : (ns : List ℤ) (right down forward : RotationRow) → InRange ns →
    direction_of right ≡ direction_at ns 6 → direction_of down ≡ direction_at ns 9 →
    direction_of forward ≡ direction_at ns 12 → IsCamera (made ns right down forward)
IsCamera-made ns right down forward r e f g =
    let focal = natural_is (number_at ns 0) 4096 (omega (arith, ints)) r.focal_high (lit< tt) in
    let near = natural_is (number_at ns 1) (2 ^ 34) (omega (arith, ints)) r.near_high (lit< tt) in
    let tolerance = natural_is (number_at ns 2) 65535 (omega (arith, ints)) r.tolerance_high (lit< tt) in
    record {
      focal_low = rw focal (omega (arith, ints));
      focal_high = rw focal (omega (arith, ints));
      near_low = rw near (omega (arith, ints));
      near_high = rw near (omega (arith, ints));
      tolerance_high = rw tolerance (omega (arith, ints));
      eye = is_eye_from (made ns right down forward).eye (record {
        x = rw (coordinate_is (number_at ns 3) r.eye_x) r.eye_x;
        y = rw (coordinate_is (number_at ns 4) r.eye_y) r.eye_y;
        z = rw (coordinate_is (number_at ns 5) r.eye_z) r.eye_z;
      });
      right = row_is ns right 6 r (lit≤ tt) (lit≤ tt) e;
      down = row_is ns down 9 r (lit≤ tt) (lit≤ tt) f;
      forward = row_is ns forward 12 r (lit≤ tt) (lit≤ tt) g;
    }

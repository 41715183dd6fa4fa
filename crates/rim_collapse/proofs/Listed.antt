-- The facets that are listed of a list of triangles, and candidates among them.
use Rattle.std.proofs.Common.{◌≡◌, ℕ, ◌^◌, ◌≤◌, Bool, true, false, ◌&&◌, ℤ, ◌-ℤ◌, ◌*ℤ◌, unsigned_abs, List}
use Rattle.std.proofs.Common.{map, All, refl, arith}
use Rattle.std.proofs.lemmas.Bool.{and_parts}
use Rattle.std.proofs.lemmas.Bool.Decides.{nat_tests}
use Rattle.std.specs.Prelude.{nat_le, IsTrue}
use Rattle.std.proofs.lemmas.List.Elements.{All-filter, All-map, filter_passes}
use Rattle.geom_core.specs.declared.points.Pt.{Pt}
use Rattle.geom_core.specs.declared.triangles.Tri.{Tri}
use Rattle.geom_core.specs.Corners.{has_corner}
use Rattle.geom_core.specs.Distance.{distance}
use Rattle.geom_core.specs.EdgeSum.{same_point}
use Rattle.geom_core.specs.Limits.{is_grid_coordinate, IsGridCoordinate, is_grid_point, IsGridPoint, HasGridCorners}
use Rattle.geom_core.specs.Limits.{IsGridTriangle}
use Rattle.geom_core.proofs.SizeLaws.{size-mul, size-sub}
use Rattle.rim_collapse.specs.declared.vectors.Vector.{Vector}
use Rattle.rim_collapse.specs.Cost.{around, cost, key_of}
use Rattle.rim_collapse.specs.Legal.{has_edge, is_legal}
use Rattle.rim_collapse.specs.Normals.{cross, minus, normal}
use Rattle.rim_collapse.specs.Internal.Bests.{is_open}
use Rattle.rim_collapse.specs.Internal.Facets.{IsFacet, facet_of}
use Rattle.rim_collapse.specs.Internal.Sizes.{IsWithin}
use Rattle.rim_collapse.proofs.FacetLaws.{HasGridCorners-grid}

-- ---- how large normals are

coordinate : (n : ℤ) → IsGridCoordinate n → unsigned_abs n ≤ 2 ^ 20
coordinate n h = at_most (unsigned_abs n) (2 ^ 20) h
  where
    at_most : (m most : ℕ) → IsTrue (nat_le m most) → m ≤ most
    at_most m most le = grind (arith, nat_tests)

minus-size : (p q : Pt) → IsGridPoint p → IsGridPoint q → IsWithin (2 ^ 21) (minus p q)
unfolding minus
minus-size p q grid_p grid_q =
    let front_p = and_parts (is_grid_coordinate p.x && is_grid_coordinate p.y) (is_grid_coordinate p.z) grid_p in
    let front_q = and_parts (is_grid_coordinate q.x && is_grid_coordinate q.y) (is_grid_coordinate q.z) grid_q in
    let first_p = and_parts (is_grid_coordinate p.x) (is_grid_coordinate p.y) front_p.0 in
    let first_q = and_parts (is_grid_coordinate q.x) (is_grid_coordinate q.y) front_q.0 in
    record {
      x = size-sub p.x q.x (2 ^ 20) (2 ^ 20) (coordinate p.x first_p.0) (coordinate q.x first_q.0);
      y = size-sub p.y q.y (2 ^ 20) (2 ^ 20) (coordinate p.y first_p.1) (coordinate q.y first_q.1);
      z = size-sub p.z q.z (2 ^ 20) (2 ^ 20) (coordinate p.z front_p.1) (coordinate q.z front_q.1);
    }

cross-size : (u v : Vector) → IsWithin (2 ^ 21) u → IsWithin (2 ^ 21) v → IsWithin (2 ^ 43) (cross u v)
unfolding cross
cross-size u v of_u of_v = record {
  x = both u.y v.z u.z v.y of_u.y of_v.z of_u.z of_v.y;
  y = both u.z v.x u.x v.z of_u.z of_v.x of_u.x of_v.z;
  z = both u.x v.y u.y v.x of_u.x of_v.y of_u.y of_v.x;
}
  where
    both : (k n l m : ℤ) → unsigned_abs k ≤ 2 ^ 21 → unsigned_abs n ≤ 2 ^ 21 → unsigned_abs l ≤ 2 ^ 21 →
        unsigned_abs m ≤ 2 ^ 21 → unsigned_abs (k *ℤ n -ℤ l *ℤ m) ≤ 2 ^ 43
    both k n l m size_k size_n size_l size_m =
        size-sub (k *ℤ n) (l *ℤ m) (2 ^ 42) (2 ^ 42) (size-mul k n (2 ^ 21) (2 ^ 21) size_k size_n)
        (size-mul l m (2 ^ 21) (2 ^ 21) size_l size_m)

normal-size : (t : Tri) → HasGridCorners t → IsWithin (2 ^ 43) (normal t)
unfolding normal
normal-size t corners =
    let front = and_parts (is_grid_point t.a && is_grid_point t.b) (is_grid_point t.c) corners in
    let first = and_parts (is_grid_point t.a) (is_grid_point t.b) front.0 in
    cross-size (minus t.b t.a) (minus t.c t.a) (minus-size t.b t.a first.1 first.0)
    (minus-size t.c t.a front.1 first.0)

pub facets-listed : (a : Pt) (tris : List Tri) → All IsGridTriangle tris →
    All (IsFacet a) (map facet_of (around a tris))
facets-listed a tris all = All-map (IsFacet a) facet_of (around a tris) (λ k d in_list. each _
    (filter_passes (has_corner a) tris k d in_list) (All-filter (has_corner a) IsGridTriangle tris all k d in_list))
  where
    each : (t : Tri) → has_corner a t ≡ true → IsGridTriangle t → IsFacet a (facet_of t)
    each t corner grid = record {
      corner = corner;
      grid = grid;
      normal = refl;
      size = normal-size t (HasGridCorners-grid t grid);
    }

-- ---- candidates

pub key-is : (tris : List Tri) (a b : Pt) (n m : ℕ) → n ≡ cost tris a b → m ≡ distance a b →
    record { cost = n; distance = m; from = a; to = b } ≡ key_of tris a b
unfolding key_of
key-is tris a b n m by_cost by_distance = rw (by_cost, by_distance)

pub closed-itself : (tris : List Tri) (a b : Pt) → same_point a b ≡ true → is_open tris a b ≡ false
unfolding has_edge
closed-itself tris a b same = rw same

pub closed-illegal : (tris : List Tri) (a b : Pt) → is_legal tris a b ≡ false → is_open tris a b ≡ false
closed-illegal tris a b illegal = rw illegal (second (has_edge tris a b))
  where
    second : (x : Bool) → x && false ≡ false
    second true = refl
    second false = refl

-- What a page of source triangles spells breaks no rule, and reads back.
use Rattle.std.proofs.Common.{◌≡◌, ℕ, ℤ, pos, negsuc, ◌*◌, ◌<◌, ◌≤◌, Bool, true, false, ◌&&◌, ltb, List, [], ◌∷◌, ◌++◌}
use Rattle.std.proofs.Common.{length, map, refl, ap, ◌∙◌, arith}
use Rattle.std.specs.Prelude.{unsigned_abs}
use Rattle.std.specs.Int.{w32}
use Rattle.std.specs.List.{All}
use Rattle.std.proofs.lemmas.Bool.Decides.{nat_tests}
use Rattle.std.proofs.lemmas.Int.{to_z-of_z, fits_signed_from_abs}
use Rattle.std.proofs.lemmas.List.{append_assoc, drop_at}
use Rattle.std.proofs.lemmas.List.Elements.{All-head, All-tail, All-from_recursion}
use Rattle.geom_core.specs.declared.triangles.Tri.{Tri}
use Rattle.geom_core.specs.declared.triangles.Tagged.{Tagged}
use Rattle.geom_core.specs.Limits.{is_grid_coordinate, is_grid_point, has_grid_corners, has_distinct_corners}
use Rattle.dag_core.specs.declared.heads.Heads.{Heads}
use Rattle.dag_core.specs.Members.{cluster_at}
use Rattle.dag_core.specs.TriangleRules.{IsSourcedTriangle}
use Rattle.page_codec.specs.declared.pages.PageCluster.{PageCluster}
use Rattle.page_codec.specs.Numbers.{records}
use Rattle.page_codec.specs.Records.{coordinate_number, coordinate_from, triangle_numbers, triangle_from}
use Rattle.page_codec.specs.Records.{triangle_bytes, triangle_of}
use Rattle.page_codec.specs.Breaks.{triangle_rules}
use Rattle.page_codec.specs.Reading.{triangles_of, clusters_of}
use Rattle.page_codec.specs.Spelling.{cluster_bytes, clusters_bytes}
use Rattle.page_codec.proofs.ClusterBytes.{length-triangle_bytes, length-cluster_bytes}
use Rattle.page_codec.proofs.NumberLaws.{Is32, numbers_of-spelt}
use Rattle.page_codec.proofs.RecordLaws.{records-spelt}

pub and-left : (a b : Bool) → a && b ≡ true → a ≡ true
and-left true b both = refl
and-left false b both = both

pub and-right : (a b : Bool) → a && b ≡ true → b ≡ true
and-right true b both = both
and-right false b both = cc

coordinate-abs : (z : ℤ) → is_grid_coordinate z ≡ true → unsigned_abs z ≤ 1048576
coordinate-abs z grid = grind (arith, nat_tests)

-- a coordinate of a mesh is a number of 32 bits, and reads back
pub coordinate-fits : (z : ℤ) → is_grid_coordinate z ≡ true → coordinate_number z < 4294967296
coordinate-fits (pos n) grid = let most = coordinate-abs (pos n) grid in omega (arith, most)
coordinate-fits (negsuc n) grid = omega arith

pub coordinate-back : (z : ℤ) → is_grid_coordinate z ≡ true → coordinate_from (coordinate_number z) ≡ z
coordinate-back z grid = to_z-of_z w32 z (fits_signed_from_abs w32 z (omega (arith, coordinate-abs z grid)))

-- nine coordinates of a mesh
record Coordinates (t : Tri) : Type 0 where
  ax : is_grid_coordinate t.a.x ≡ true
  ay : is_grid_coordinate t.a.y ≡ true
  az : is_grid_coordinate t.a.z ≡ true
  bx : is_grid_coordinate t.b.x ≡ true
  by : is_grid_coordinate t.b.y ≡ true
  bz : is_grid_coordinate t.b.z ≡ true
  cx : is_grid_coordinate t.c.x ≡ true
  cy : is_grid_coordinate t.c.y ≡ true
  cz : is_grid_coordinate t.c.z ≡ true

coordinates-of : (t : Tri) → has_grid_corners t ≡ true → Coordinates t
coordinates-of t grid =
    let ab = and-left (is_grid_point t.a && is_grid_point t.b) (is_grid_point t.c) grid in
    let a = and-left (is_grid_point t.a) (is_grid_point t.b) ab in
    let b = and-right (is_grid_point t.a) (is_grid_point t.b) ab in
    let c = and-right (is_grid_point t.a && is_grid_point t.b) (is_grid_point t.c) grid in
    let g = is_grid_coordinate in
    let axy = and-left (g t.a.x && g t.a.y) (g t.a.z) a in
    let bxy = and-left (g t.b.x && g t.b.y) (g t.b.z) b in
    let cxy = and-left (g t.c.x && g t.c.y) (g t.c.z) c in
    record {
      ax = and-left (g t.a.x) (g t.a.y) axy;
      ay = and-right (g t.a.x) (g t.a.y) axy;
      az = and-right (g t.a.x && g t.a.y) (g t.a.z) a;
      bx = and-left (g t.b.x) (g t.b.y) bxy;
      by = and-right (g t.b.x) (g t.b.y) bxy;
      bz = and-right (g t.b.x && g t.b.y) (g t.b.z) b;
      cx = and-left (g t.c.x) (g t.c.y) cxy;
      cy = and-right (g t.c.x) (g t.c.y) cxy;
      cz = and-right (g t.c.x && g t.c.y) (g t.c.z) c;
    }

triangle-fits : (t : Tagged) → Coordinates t.tri → t.source < 4294967296 → All Is32 (triangle_numbers t)
unfolding triangle_numbers
triangle-fits t on small =
    All-from_recursion Is32 (triangle_numbers t) (
      coordinate-fits t.tri.a.x on.ax,
      (
        coordinate-fits t.tri.a.y on.ay,
        (
          coordinate-fits t.tri.a.z on.az,
          (
            coordinate-fits t.tri.b.x on.bx,
            (
              coordinate-fits t.tri.b.y on.by,
              (
                coordinate-fits t.tri.b.z on.bz,
                (
                  coordinate-fits t.tri.c.x on.cx,
                  (
                    coordinate-fits t.tri.c.y on.cy,
                    (coordinate-fits t.tri.c.z on.cz, (small, tt)),
                  ),
                ),
              ),
            ),
          ),
        ),
      ),
    )

triangle-back : (t : Tagged) → Coordinates t.tri → triangle_from (triangle_numbers t) ≡ t
unfolding triangle_numbers triangle_from
triangle-back t on =
    rw (
      coordinate-back t.tri.a.x on.ax,
      coordinate-back t.tri.a.y on.ay,
      coordinate-back t.tri.a.z on.az,
      coordinate-back t.tri.b.x on.bx,
      coordinate-back t.tri.b.y on.by,
      coordinate-back t.tri.b.z on.bz,
      coordinate-back t.tri.c.x on.cx,
      coordinate-back t.tri.c.y on.cy,
      coordinate-back t.tri.c.z on.cz,
    ) refl

-- a triangle reads back
pub triangle_of-spelt : (sources : ℕ) (t : Tagged) → sources ≤ 1048576 → IsSourcedTriangle sources t →
    triangle_of (triangle_bytes t) ≡ t
unfolding triangle_numbers
triangle_of-spelt sources t most is =
    let on = coordinates-of t.tri (and-left (has_grid_corners t.tri) (has_distinct_corners t.tri) is.triangle) in
    ap triangle_from (numbers_of-spelt (triangle_numbers t) (triangle-fits t on (omega (arith, is.source)))) ∙
    triangle-back t on

-- it breaks no rule
pub triangle_rules-spelt : (sources : ℕ) (t : Tagged) → sources ≤ 1048576 → IsSourcedTriangle sources t →
    triangle_rules sources (triangle_of (triangle_bytes t)) ≡ []
unfolding triangle_rules
triangle_rules-spelt sources t most is =
    let grid = and-left (has_grid_corners t.tri) (has_distinct_corners t.tri) is.triangle in
    let distinct = and-right (has_grid_corners t.tri) (has_distinct_corners t.tri) is.triangle in
    let below : ltb t.source sources ≡ true = grind (arith, nat_tests, is.source) in
    rw (triangle_of-spelt sources t most is, grid, distinct, below) refl

-- clusters read back, one after the other
pub clusters_of-spelt : (heads : Heads) (clusters : List PageCluster) (rest : List ℕ) → heads.sources ≤ 1048576
    → All (λ cluster. length cluster.tris ≡ (cluster_at heads cluster.number).tris) clusters →
    All (λ cluster. All (IsSourcedTriangle heads.sources) cluster.tris) clusters
    → clusters_of heads (map (λ cluster. cluster.number) clusters) (clusters_bytes clusters ++ rest) ≡ clusters
unfolding cluster_bytes triangles_of
clusters_of-spelt heads [] rest most counts sourced = refl
clusters_of-spelt heads (cluster ∷ clusters) rest most counts sourced =
    let count =
    All-head (λ cluster. length cluster.tris ≡ (cluster_at heads cluster.number).tris) cluster clusters counts in
    let is = All-head (λ cluster. All (IsSourcedTriangle heads.sources) cluster.tris) cluster clusters sourced in
    let more = clusters_bytes clusters ++ rest in
    let whole = append_assoc (cluster_bytes cluster.tris) (clusters_bytes clusters) rest in
    let size : length (cluster_bytes cluster.tris) ≡ 40 * length cluster.tris = length-cluster_bytes cluster.tris in
    let tris : records triangle_of 40 (length cluster.tris) (cluster_bytes cluster.tris ++ more) ≡ cluster.tris =
    records-spelt triangle_of triangle_bytes 40 (IsSourcedTriangle heads.sources) (λ t good. length-triangle_bytes t)
    (λ t good. triangle_of-spelt heads.sources t most good) cluster.tris more is in
    rw (whole, ← count, tris, drop_at (cluster_bytes cluster.tris) more (40 * length cluster.tris) size)
    (ap (λ cs. cluster ∷ cs) (clusters_of-spelt heads clusters rest most
    (All-tail (λ cluster. length cluster.tris ≡ (cluster_at heads cluster.number).tris) cluster clusters counts)
    (All-tail (λ cluster. All (IsSourcedTriangle heads.sources) cluster.tris) cluster clusters sourced)))

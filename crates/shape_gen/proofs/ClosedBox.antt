-- The edge sums of a box are 0: the edges of a side add up to its four borders, and each border of the cube is one
-- of two sides, once each way.
use Rattle.std.proofs.Common.{◌≡◌, ℕ, ◌+◌, Bool, true, false, ◌&&◌, ℤ, pos, ◌+ℤ◌, ◌-ℤ◌, neg_ℤ, List, [], ◌∷◌, ◌++◌}
use Rattle.std.proofs.Common.{flat_map, if◌then◌else◌, refl, ap, ◌∙◌, arith}
use Rattle.std.proofs.lemmas.Int.{ints}
use Rattle.geom_core.specs.declared.points.Pt.{Pt}
use Rattle.geom_core.specs.declared.triangles.Tri.{Tri}
use Rattle.geom_core.specs.EdgeSum.{same_point, edge_sum}
use Rattle.geom_core.proofs.EdgeSumLaws.{edge_count-one, edge_sum-none, edge_sum-append, edge_sum-first}
use Rattle.shape_gen.specs.declared.lattice.Place.{Place}
use Rattle.shape_gen.specs.declared.sides.Axis.{Axis}
use Rattle.shape_gen.specs.declared.sides.Axis.TheVariants.{X, Y, Z}
use Rattle.shape_gen.specs.declared.sides.End.TheVariants.{First, Last}
use Rattle.shape_gen.specs.declared.sides.Face.{Face}
use Rattle.shape_gen.specs.Boxes.{fan_of, triangles_of_box}
use Rattle.shape_gen.specs.Lattice.{point_at}
use Rattle.shape_gen.specs.Sides.{place_on, face_on, below, row_faces, side_faces, axis_faces, faces}
use Rattle.shape_gen.proofs.Totals.{total, total-same, total-append, total-map, total-flat_map, total-difference}
use Rattle.shape_gen.proofs.Totals.{total-negated, telescoped}

-- ---- the edges of a face

-- what the edge from a to b adds to the sum from u to v
unfoldable edge : Pt → Pt → Pt → Pt → ℤ
edge u v a b =
    pos (if same_point a u && same_point b v then 1 else 0) -ℤ pos (if same_point a v && same_point b u then 1 else 0)

and_turned : (p q : Bool) → p && q ≡ q && p
and_turned true true = refl
and_turned true false = refl
and_turned false true = refl
and_turned false false = refl

edge-turned : (u v a b : Pt) → edge u v b a ≡ neg_ℤ (edge u v a b)
unfolding edge
edge-turned u v a b =
    rw (and_turned (same_point b u) (same_point a v), and_turned (same_point b v) (same_point a u))
    (omega (arith, ints))

edge_sum-one : (t : Tri) (u v : Pt) →
    edge_sum (t ∷ []) u v ≡ edge u v t.a t.b +ℤ (edge u v t.b t.c +ℤ edge u v t.c t.a)
unfolding edge_sum edge
edge_sum-one t u v = rw (edge_count-one t u v, edge_count-one t v u) (omega (arith, ints))

-- the edges round a face
rim : (Place → Place → ℤ) → Face → ℤ
rim e f = e f.a f.b +ℤ (e f.b f.c +ℤ (e f.c f.d +ℤ e f.d f.a))

-- what the edge from one place to another adds
between : ℕ → Pt → Pt → Place → Place → ℤ
between number u v p q = edge u v (point_at number p) (point_at number q)

-- the two triangles of a face have its edges, and the diagonal once each way
edge_sum-fan : (number : ℕ) (u v : Pt) (f : Face) → edge_sum (fan_of number f) u v ≡ rim (between number u v) f
unfolding rim between
edge_sum-fan number u v f =
    edge_sum-first lower (upper ∷ []) u v ∙
    omega (
      arith,
      ints,
      edge_sum-one lower u v,
      edge_sum-one upper u v,
      edge-turned u v (point_at number f.a) (point_at number f.c),
    )
  where
    lower : Tri
    lower = record { a = point_at number f.a; b = point_at number f.b; c = point_at number f.c }

    upper : Tri
    upper = record { a = point_at number f.a; b = point_at number f.c; c = point_at number f.d }

edge_sum-fans : (number : ℕ) (u v : Pt) (fs : List Face) →
    edge_sum (flat_map (fan_of number) fs) u v ≡ total (rim (between number u v)) fs
edge_sum-fans number u v [] = edge_sum-none u v
edge_sum-fans number u v (f ∷ fs) =
    edge_sum-append (fan_of number f) (flat_map (fan_of number) fs) u v ∙
    omega (arith, ints, edge_sum-fan number u v f, edge_sum-fans number u v fs)

-- ---- the edges of a side

-- an edge counts the other way in the other direction
abbrev IsSigned : (Place → Place → ℤ) → Type 0
IsSigned e = (p q : Place) → e q p ≡ neg_ℤ (e p q)

-- the edges along p and along q at a depth of an axis
along_p : (Place → Place → ℤ) → Axis → ℕ → ℕ → ℕ → ℤ
along_p e axis d p q = e (place_on axis d p q) (place_on axis d (p + 1) q)

along_q : (Place → Place → ℤ) → Axis → ℕ → ℕ → ℕ → ℤ
along_q e axis d p q = e (place_on axis d p q) (place_on axis d p (q + 1))

-- the edges round a cell, counterclockwise as seen from the axis's end
cell : (Place → Place → ℤ) → Axis → ℕ → ℕ → ℕ → ℤ
cell e axis d p q =
    (along_q e axis d (p + 1) q -ℤ along_q e axis d p q) +ℤ
    (neg_ℤ (along_p e axis d p (q + 1)) -ℤ neg_ℤ (along_p e axis d p q))

rim-last : (e : Place → Place → ℤ) → IsSigned e → (n : ℕ) (axis : Axis) (p q : ℕ) →
    rim e (face_on n axis Last p q) ≡ cell e axis n p q
unfolding rim cell along_p along_q
rim-last e signed n axis p q =
    omega (
      arith,
      ints,
      signed (place_on axis n p (q + 1)) (place_on axis n (p + 1) (q + 1)),
      signed (place_on axis n p q) (place_on axis n p (q + 1)),
    )

rim-first : (e : Place → Place → ℤ) → IsSigned e → (n : ℕ) (axis : Axis) (p q : ℕ) →
    rim e (face_on n axis First p q) ≡ neg_ℤ (cell e axis 0 p q)
unfolding rim cell along_p along_q
rim-first e signed n axis p q =
    omega (
      arith,
      ints,
      signed (place_on axis 0 (p + 1) q) (place_on axis 0 (p + 1) (q + 1)),
      signed (place_on axis 0 p q) (place_on axis 0 (p + 1) q),
    )

-- the edges of a line of cells
line_p : (Place → Place → ℤ) → Axis → ℕ → ℕ → ℕ → ℤ
line_p e axis d n q = total (λ p. along_p e axis d p q) (below n)

line_q : (Place → Place → ℤ) → Axis → ℕ → ℕ → ℕ → ℤ
line_q e axis d n p = total (along_q e axis d p) (below n)

-- the four borders of a side
borders : (Place → Place → ℤ) → Axis → ℕ → ℕ → ℤ
borders e axis n d =
    (line_q e axis d n n -ℤ line_q e axis d n 0) +ℤ (line_p e axis d n 0 -ℤ line_p e axis d n n)

row-cells : (e : Place → Place → ℤ) (n : ℕ) (axis : Axis) (d p : ℕ) →
    total (cell e axis d p) (below n) ≡
    (along_p e axis d p 0 -ℤ along_p e axis d p n) +ℤ (line_q e axis d n (p + 1) -ℤ line_q e axis d n p)
unfolding cell line_q
row-cells e n axis d p =
    telescoped (λ q. along_q e axis d (p + 1) q -ℤ along_q e axis d p q) (λ q. neg_ℤ (along_p e axis d p q)) n ∙
    omega (arith, ints, total-difference (along_q e axis d (p + 1)) (along_q e axis d p) (below n))

side-cells : (e : Place → Place → ℤ) (n : ℕ) (axis : Axis) (d : ℕ) →
    total (λ p. total (cell e axis d p) (below n)) (below n) ≡ borders e axis n d
unfolding borders line_p
side-cells e n axis d =
    total-same (λ p. total (cell e axis d p) (below n))
    (λ p. (along_p e axis d p 0 -ℤ along_p e axis d p n) +ℤ (line_q e axis d n (p + 1) -ℤ line_q e axis d n p))
    (row-cells e n axis d) (below n) ∙
    telescoped (λ p. along_p e axis d p 0 -ℤ along_p e axis d p n) (line_q e axis d n) n ∙
    omega (arith, ints, total-difference (λ p. along_p e axis d p 0) (λ p. along_p e axis d p n) (below n))

-- the rims of a side's faces, cell by cell
side-rims : (e : Place → Place → ℤ) (n : ℕ) (axis : Axis) (end : _) (g : ℕ → ℕ → ℤ) →
    ((p q : ℕ) → rim e (face_on n axis end p q) ≡ g p q) →
    total (rim e) (side_faces n axis end) ≡ total (λ p. total (g p) (below n)) (below n)
side-rims e n axis end g same =
    total-flat_map (rim e) (row_faces n axis end) (below n) ∙
    total-same (λ p. total (rim e) (row_faces n axis end p)) (λ p. total (g p) (below n))
    (λ p. total-map (rim e) (face_on n axis end p) (below n) ∙
    total-same (λ q. rim e (face_on n axis end p q)) (g p) (same p) (below n)) (below n)

last-rims : (e : Place → Place → ℤ) → IsSigned e → (n : ℕ) (axis : Axis) →
    total (rim e) (side_faces n axis Last) ≡ borders e axis n n
last-rims e signed n axis =
    side-rims e n axis Last (cell e axis n) (rim-last e signed n axis) ∙ side-cells e n axis n

first-rims : (e : Place → Place → ℤ) → IsSigned e → (n : ℕ) (axis : Axis) →
    total (rim e) (side_faces n axis First) ≡ neg_ℤ (borders e axis n 0)
first-rims e signed n axis =
    side-rims e n axis First (λ p q. neg_ℤ (cell e axis 0 p q)) (rim-first e signed n axis) ∙
    total-same (λ p. total (λ q. neg_ℤ (cell e axis 0 p q)) (below n)) (λ p. neg_ℤ (total (cell e axis 0 p) (below n)))
    (λ p. total-negated (cell e axis 0 p) (below n)) (below n) ∙
    total-negated (λ p. total (cell e axis 0 p) (below n)) (below n) ∙ ap neg_ℤ (side-cells e n axis 0)

axis-rims : (e : Place → Place → ℤ) → IsSigned e → (n : ℕ) (axis : Axis) →
    total (rim e) (axis_faces n axis) ≡ borders e axis n n -ℤ borders e axis n 0
axis-rims e signed n axis =
    total-append (rim e) (side_faces n axis First) (side_faces n axis Last) ∙
    omega (arith, ints, first-rims e signed n axis, last-rims e signed n axis)

-- ---- the box: a line along p on one side is a line along q on the side of another axis

same_line_z : (e : Place → Place → ℤ) (n d p : ℕ) → line_q e X d n p ≡ line_p e Y p n d
unfolding line_q line_p along_q along_p
same_line_z e n d p = refl

same_line_x : (e : Place → Place → ℤ) (n d p : ℕ) → line_q e Y d n p ≡ line_p e Z p n d
unfolding line_q line_p along_q along_p
same_line_x e n d p = refl

same_line_y : (e : Place → Place → ℤ) (n d p : ℕ) → line_q e Z d n p ≡ line_p e X p n d
unfolding line_q line_p along_q along_p
same_line_y e n d p = refl

all-rims : (e : Place → Place → ℤ) → IsSigned e → (n : ℕ) → total (rim e) (faces n) ≡ pos 0
unfolding borders
all-rims e signed n =
    total-append (rim e) (axis_faces n X) (axis_faces n Y ++ axis_faces n Z) ∙
    omega (
      arith,
      ints,
      total-append (rim e) (axis_faces n Y) (axis_faces n Z),
      axis-rims e signed n X,
      axis-rims e signed n Y,
      axis-rims e signed n Z,
      same_line_z e n 0 0,
      same_line_z e n 0 n,
      same_line_z e n n 0,
      same_line_z e n n n,
      same_line_x e n 0 0,
      same_line_x e n 0 n,
      same_line_x e n n 0,
      same_line_x e n n n,
      same_line_y e n 0 0,
      same_line_y e n 0 n,
      same_line_y e n n 0,
      same_line_y e n n n,
    )

between-signed : (number : ℕ) (u v : Pt) → IsSigned (between number u v)
unfolding between
between-signed number u v p q = edge-turned u v (point_at number p) (point_at number q)

pub edge_sum-box : (n number : ℕ) (u v : Pt) → edge_sum (triangles_of_box n number) u v ≡ pos 0
edge_sum-box n number u v =
    edge_sum-fans number u v (faces n) ∙ all-rims (between number u v) (between-signed number u v) n

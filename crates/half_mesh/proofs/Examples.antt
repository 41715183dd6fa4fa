-- Worked examples of the definitions, computed by the checker: a square of four triangles round its middle.
use Rattle.std.specs.Prelude.{◌≡◌, ℕ, ℤ, pos, negsuc, true, false, List, [], ◌∷◌, ◌++◌, map, refl}
use Rattle.std.specs.declared.cmp.Ordering.TheVariants.{Less, Equal, Greater}
use Rattle.geom_core.specs.declared.points.Pt.{Pt}
use Rattle.geom_core.specs.declared.triangles.Tri.{Tri}
use Rattle.geom_core.specs.EdgeSum.{same_point, edges_of, edge_count, edge_sum, is_rim_edge}
use Rattle.half_mesh.specs.declared.edges.Edge.{Edge}
use Rattle.geom_core.specs.Corners.{has_corner}
use Rattle.half_mesh.specs.Around.{triangles_around}
use Rattle.half_mesh.specs.Corners.{corners_at}
use Rattle.half_mesh.specs.Incidences.{at_point}
use Rattle.half_mesh.specs.Order.{edge_cmp}
use Rattle.half_mesh.specs.Rim.{EdgeSums, edge_sums, sum_on, same_edge, sum_in, sum_in_all, all_of, ends_of}
use Rattle.half_mesh.specs.Terms.{edge_of, term, total_at, term_of, terms_of, unless_cancelled, terms_in, terms_in_all}

abbrev point : ℤ → ℤ → ℤ → Pt
point x y z = record { x = x; y = y; z = z }

abbrev tri : Pt → Pt → Pt → Tri
tri a b c = record { a = a; b = b; c = c }

abbrev A : Pt
A = point (pos 0) (pos 0) (pos 0)

abbrev B : Pt
B = point (pos 8) (pos 0) (pos 0)

abbrev C : Pt
C = point (pos 8) (pos 8) (pos 0)

abbrev D : Pt
D = point (pos 0) (pos 8) (pos 0)

abbrev M : Pt
M = point (pos 4) (pos 4) (pos 0)

abbrev one : ℤ
one = pos 1

abbrev minus_one : ℤ
minus_one = negsuc 0

abbrev first_half : List Tri
first_half = tri A B M ∷ tri B C M ∷ []

abbrev second_half : List Tri
second_half = tri C D M ∷ tri D A M ∷ []

abbrev square : List Tri
square = all_of (first_half ∷ second_half ∷ [])

-- the square's sides, ascending: two run from their later point to their earlier one
abbrev sides : List Edge
sides = edge_of A D ∷ edge_of A B ∷ edge_of D C ∷ edge_of B C ∷ []

abbrev side_sums : List ℤ
side_sums = minus_one ∷ one ∷ minus_one ∷ one ∷ []

abbrev first_rim : EdgeSums
first_rim =
    edge_sums (edge_of A M ∷ edge_of A B ∷ edge_of M C ∷ edge_of B C ∷ []) (minus_one ∷ one ∷ minus_one ∷ one ∷ [])

abbrev second_rim : EdgeSums
second_rim =
    edge_sums (edge_of A D ∷ edge_of A M ∷ edge_of D C ∷ edge_of M C ∷ []) (minus_one ∷ one ∷ minus_one ∷ one ∷ [])

-- ---- edges: ordered by u, then v, each by x, y and z

pub edge_order_by_u : edge_cmp (edge_of A C) (edge_of D B) ≡ Less
edge_order_by_u = refl

pub edge_order_by_v : edge_cmp (edge_of A B) (edge_of A D) ≡ Greater
edge_order_by_v = refl

pub edge_order_by_z : edge_cmp (edge_of A (point (pos 8) (pos 0) (pos 1))) (edge_of A B) ≡ Greater
edge_order_by_z = refl

pub edge_order_same : edge_cmp (edge_of A B) (edge_of A B) ≡ Equal
edge_order_same = refl

pub same_edge_both : same_edge (edge_of A B) (edge_of A B) ≡ true
unfolding same_point
same_edge_both = refl

pub same_edge_other_u : same_edge (edge_of D B) (edge_of A B) ≡ false
unfolding same_point
same_edge_other_u = refl

pub same_edge_other_v : same_edge (edge_of A D) (edge_of A B) ≡ false
unfolding same_point
same_edge_other_v = refl

-- ---- the rim of the square, and of its halves

pub square_is : square ≡ tri A B M ∷ tri B C M ∷ tri C D M ∷ tri D A M ∷ []
square_is = refl

pub square_sums : map (sum_on square) sides ≡ side_sums
unfolding same_point edges_of edge_count edge_sum
square_sums = refl

pub square_sides_are_rim : map (λ (e : Edge). is_rim_edge square e.u e.v) sides ≡ true ∷ true ∷ true ∷ true ∷ []
unfolding same_point edges_of edge_count edge_sum is_rim_edge
square_sides_are_rim = refl

pub square_spokes_cancel : map (λ p. is_rim_edge square p M) (A ∷ B ∷ C ∷ D ∷ []) ≡ false ∷ false ∷ false ∷ false ∷ []
unfolding same_point edges_of edge_count edge_sum is_rim_edge
square_spokes_cancel = refl

pub first_half_sums : map (sum_on first_half) first_rim.edges ≡ first_rim.sums
unfolding same_point edges_of edge_count edge_sum
first_half_sums = refl

pub second_half_sums : map (sum_on second_half) second_rim.edges ≡ second_rim.sums
unfolding same_point edges_of edge_count edge_sum
second_half_sums = refl

-- joined, the halves have the sums of the square: on its sides, and 0 on the two edges between them
pub joined_halves_on_sides : map (λ e. sum_in_all e (first_rim ∷ second_rim ∷ [])) sides ≡ side_sums
unfolding same_point sum_in sum_in_all
joined_halves_on_sides = refl

pub joined_halves_between : map (λ e. sum_in_all e (first_rim ∷ second_rim ∷ []))
    (edge_of A M ∷ edge_of M C ∷ []) ≡ pos 0 ∷ pos 0 ∷ []
unfolding same_point sum_in sum_in_all
joined_halves_between = refl

-- the sum of an edge that stands twice is both
pub sum_in_repeated : sum_in (edge_of A B) (edge_of A B ∷ edge_of A D ∷ edge_of A B ∷ [])
    (pos 3 ∷ pos 5 ∷ minus_one ∷ []) ≡ pos 2
unfolding same_point sum_in
sum_in_repeated = refl

-- edges without sums, and sums without edges, count nothing
pub sum_in_short : sum_in (edge_of A B) (edge_of A D ∷ edge_of A B ∷ []) (pos 3 ∷ []) ≡ pos 0
unfolding same_point sum_in
sum_in_short = refl

-- of all sums of three parts, none on the way is that of the whole
pub sum_over_three : sum_in_all (edge_of A B)
    (edge_sums (edge_of A B ∷ []) (pos 2 ∷ []) ∷ edge_sums (edge_of A B ∷ []) (one ∷ []) ∷ edge_sums (edge_of A B ∷ [])
    (negsuc 2 ∷ []) ∷ []) ≡ pos 0
unfolding same_point sum_in sum_in_all
sum_over_three = refl

pub ends_are_both : ends_of (edge_of A D ∷ edge_of B C ∷ []) ≡ A ∷ D ∷ B ∷ C ∷ []
ends_are_both = refl

-- ---- a triangle twice, and with its back

pub doubled_sum : sum_on (tri A B C ∷ tri A B C ∷ []) (edge_of A B) ≡ pos 2
unfolding same_point edges_of edge_count edge_sum
doubled_sum = refl

pub doubled_sum_back : sum_on (tri A B C ∷ tri A B C ∷ []) (edge_of A C) ≡ negsuc 1
unfolding same_point edges_of edge_count edge_sum
doubled_sum_back = refl

pub back_cancels : map (λ (e : Edge). is_rim_edge (tri A B C ∷ tri C B A ∷ []) e.u e.v)
    (edge_of A B ∷ edge_of A C ∷ edge_of B C ∷ []) ≡
    false ∷ false ∷ false ∷ []
unfolding same_point edges_of edge_count edge_sum is_rim_edge
back_cancels = refl

-- ---- terms

pub terms_of_a_triangle : terms_of (tri A B C) ≡ term (edge_of A B) one ∷ term (edge_of B C) one ∷ term
    (edge_of A C) minus_one ∷ []
unfolding edges_of term_of terms_of
terms_of_a_triangle = refl

-- an edge from a point to itself is no term
pub terms_of_a_flat_triangle : terms_of (tri A A B) ≡ term (edge_of A B) one ∷ term (edge_of A B) minus_one ∷ []
unfolding edges_of term_of terms_of
terms_of_a_flat_triangle = refl

pub total_of_two : total_at (edge_of A B)
    (term (edge_of A B) (pos 3) ∷ term (edge_of A C) (pos 5) ∷ term (edge_of A B) minus_one ∷ []) ≡ pos 2
unfolding same_point total_at
total_of_two = refl

pub cancelled_term : unless_cancelled (term (edge_of A B) (pos 0)) ≡ []
cancelled_term = refl

pub term_left : unless_cancelled (term (edge_of A B) minus_one) ≡ term (edge_of A B) minus_one ∷ []
term_left = refl

pub terms_in_two_parts : terms_in_all (edge_sums (edge_of A B ∷ edge_of A C ∷ []) (one ∷ pos 2 ∷ []) ∷ edge_sums
    (edge_of B C ∷ []) (pos 3 ∷ []) ∷ []) ≡
    term (edge_of A B) one ∷ term (edge_of A C) (pos 2) ∷ term (edge_of B C) (pos 3) ∷ []
unfolding terms_in
terms_in_two_parts = refl

-- ---- corners

pub around_the_corner : triangles_around square A ≡ 0 ∷ 3 ∷ []
unfolding has_corner same_point
around_the_corner = refl

pub around_the_middle : triangles_around square M ≡ 0 ∷ 1 ∷ 2 ∷ 3 ∷ []
unfolding has_corner same_point
around_the_middle = refl

-- each point of a triangle is one corner
pub corners_once : corners_at 7 (tri A B A) ≡ record { point = A; what = 7 } ∷ record { point = B; what = 7 } ∷ []
unfolding corners_at same_point
corners_once = refl

pub corners_of_a_point : corners_at 7 (tri A A A) ≡ record { point = A; what = 7 } ∷ []
unfolding corners_at same_point
corners_of_a_point = refl

pub corners_of_three : corners_at 7 (tri A B C) ≡
    record { point = A; what = 7 } ∷ record { point = B; what = 7 } ∷ record { point = C; what = 7 } ∷ []
unfolding corners_at same_point
corners_of_three = refl

pub corners_at_a_point : at_point {T = ℕ} B
    (record { point = A; what = 0 } ∷ record { point = B; what = 1 } ∷ record { point = B; what = 2 } ∷ []) ≡
    record { point = B; what = 1 } ∷ record { point = B; what = 2 } ∷ []
unfolding same_point
corners_at_a_point = refl

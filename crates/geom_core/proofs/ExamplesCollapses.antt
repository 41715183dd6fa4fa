-- Worked examples of collapses, computed by the checker.
use Rattle.std.specs.Prelude.{◌≡◌, ℤ, pos, negsuc, true, false, List, [], ◌∷◌, map, filter, refl}
use Rattle.geom_core.specs.declared.points.Pt.{Pt}
use Rattle.geom_core.specs.declared.triangles.Tri.{Tri}
use Rattle.geom_core.specs.EdgeSum.{same_point, edges_of, edge_count, edge_sum, is_rim_edge}
use Rattle.geom_core.specs.Limits.{has_distinct_corners}
use Rattle.geom_core.specs.Corners.{has_corner, IsCornerIn}
use Rattle.geom_core.specs.Collapses.{replaced_point, replaced, collapsed}
use Rattle.std.proofs.Common.{sym, arith}
use Rattle.std.proofs.lemmas.Bool.{true≢false}
use Rattle.std.proofs.lemmas.List.Elements.{All-from_recursion}
use Rattle.geom_core.proofs.CollapseCorners.{from_corner}

abbrev point : ℤ → ℤ → Pt
point x y = record { x = x; y = y; z = pos 0 }

-- the corners of a square in turn, and its middle
abbrev p : Pt
p = point (pos 0) (pos 0)

abbrev q : Pt
q = point (pos 8) (pos 0)

abbrev r : Pt
r = point (pos 8) (pos 8)

abbrev s : Pt
s = point (pos 0) (pos 8)

abbrev middle : Pt
middle = point (pos 4) (pos 4)

abbrev tri : Pt → Pt → Pt → Tri
tri a b c = record { a = a; b = b; c = c }

-- a square of four triangles round its middle
abbrev square : List Tri
square = tri p q middle ∷ tri q r middle ∷ tri r s middle ∷ tri s p middle ∷ []

-- the pairs of these five points, each once
abbrev pairs : List (Pt × Pt)
pairs = (p, q) ∷ (p, r) ∷ (p, s) ∷ (p, middle) ∷ (q, r) ∷ (q, s) ∷ (q, middle) ∷ (r, s) ∷ (r, middle) ∷ (s, middle) ∷ []

-- the edges that don't cancel, and the sums at all pairs
abbrev rim : List Tri → List (Pt × Pt)
rim tris = filter (λ e. is_rim_edge tris e.0 e.1) pairs

abbrev sums : List Tri → List ℤ
sums tris = map (λ e. edge_sum tris e.0 e.1) pairs

-- ---- corners

pub has_corner-first : has_corner p (tri p q middle) ≡ true
unfolding has_corner same_point
has_corner-first = refl

pub has_corner-second : has_corner q (tri p q middle) ≡ true
unfolding has_corner same_point
has_corner-second = refl

pub has_corner-third : has_corner middle (tri p q middle) ≡ true
unfolding has_corner same_point
has_corner-third = refl

pub has_corner-none : has_corner r (tri p q middle) ≡ false
unfolding has_corner same_point
has_corner-none = refl

-- some triangle has the corner, not each
pub IsCornerIn-some : IsCornerIn (tri p q middle ∷ tri r s middle ∷ []) r
unfolding has_corner same_point
IsCornerIn-some = (1, tri r s middle, omega arith, refl, refl)

pub IsCornerIn-none : IsCornerIn (tri p q middle ∷ tri q s middle ∷ []) r → ⊥
unfolding has_corner same_point
IsCornerIn-none = from_corner ⊥ r (tri p q middle ∷ tri q s middle ∷ [])
    (All-from_recursion (λ t. has_corner r t ≡ true → ⊥) (tri p q middle ∷ tri q s middle ∷ [])
    ((λ has. true≢false (sym has)), ((λ has. true≢false (sym has)), tt)))

-- ---- replacing

-- each corner that is the point, and no other
pub replaced-all : replaced p q (tri p p p) ≡ tri q q q
unfolding replaced replaced_point same_point
replaced-all = refl

pub replaced-one : replaced r p (tri q r s) ≡ tri q p s
unfolding replaced replaced_point same_point
replaced-one = refl

pub replaced-none : replaced middle p (tri q r s) ≡ tri q r s
unfolding replaced replaced_point same_point
replaced-none = refl

-- ---- collapses that keep the rim

-- the middle goes to the first corner: the triangles at it go, and the others keep order and corners
pub collapsed-middle : collapsed middle p square ≡ tri q r p ∷ tri r s p ∷ []
unfolding collapsed replaced replaced_point has_distinct_corners same_point
collapsed-middle = refl

-- the four sides are the rim before and after, each with its direction; the edges at the middle are no edges
-- any more, and the new edge between p and r cancels
pub rim-square : rim square ≡ (p, q) ∷ (p, s) ∷ (q, r) ∷ (r, s) ∷ []
unfolding is_rim_edge edge_sum edge_count edges_of same_point
rim-square = refl

pub rim-collapsed_middle : rim (collapsed middle p square) ≡ (p, q) ∷ (p, s) ∷ (q, r) ∷ (r, s) ∷ []
unfolding collapsed replaced replaced_point has_distinct_corners is_rim_edge edge_sum edge_count edges_of same_point
rim-collapsed_middle = refl

pub sums-square : sums square ≡
    pos 1 ∷ pos 0 ∷ negsuc 0 ∷ pos 0 ∷ pos 1 ∷ pos 0 ∷ pos 0 ∷ pos 1 ∷ pos 0 ∷ pos 0 ∷ []
unfolding edge_sum edge_count edges_of same_point
sums-square = refl

pub sums-collapsed_middle : sums (collapsed middle p square) ≡
    pos 1 ∷ pos 0 ∷ negsuc 0 ∷ pos 0 ∷ pos 1 ∷ pos 0 ∷ pos 0 ∷ pos 1 ∷ pos 0 ∷ pos 0 ∷ []
unfolding collapsed replaced replaced_point has_distinct_corners edge_sum edge_count edges_of same_point
sums-collapsed_middle = refl

-- ---- collapses of a point on the rim

-- a corner goes to the middle: its two sides are gone, and the two edges to the middle don't cancel any more
pub collapsed-corner : collapsed r middle square ≡ tri p q middle ∷ tri s p middle ∷ []
unfolding collapsed replaced replaced_point has_distinct_corners same_point
collapsed-corner = refl

pub rim-collapsed_corner : rim (collapsed r middle square) ≡ (p, q) ∷ (p, s) ∷ (q, middle) ∷ (s, middle) ∷ []
unfolding collapsed replaced replaced_point has_distinct_corners is_rim_edge edge_sum edge_count edges_of same_point
rim-collapsed_corner = refl

pub sums-collapsed_corner : sums (collapsed r middle square) ≡
    pos 1 ∷ pos 0 ∷ negsuc 0 ∷ pos 0 ∷ pos 0 ∷ pos 0 ∷ pos 1 ∷ pos 0 ∷ pos 0 ∷ negsuc 0 ∷ []
unfolding collapsed replaced replaced_point has_distinct_corners edge_sum edge_count edges_of same_point
sums-collapsed_corner = refl

-- a corner goes to the next one: the first two corners of the triangle between them are equal then
pub collapsed-side : collapsed p q square ≡ tri q r middle ∷ tri r s middle ∷ tri s q middle ∷ []
unfolding collapsed replaced replaced_point has_distinct_corners same_point
collapsed-side = refl

-- a triangle that was flat before is left out as well
pub collapsed-flat : collapsed middle p (tri q q r ∷ tri q r s ∷ []) ≡ tri q r s ∷ []
unfolding collapsed replaced replaced_point has_distinct_corners same_point
collapsed-flat = refl

-- ---- sums of replaced triangles

-- a triangle twice has the sum 2 at its edges, which move with a corner of it: nothing is left where it was
abbrev doubled : List Tri
doubled = tri p q middle ∷ tri p q middle ∷ []

pub sums-doubled : sums doubled ≡
    pos 2 ∷ pos 0 ∷ pos 0 ∷ negsuc 1 ∷ pos 0 ∷ pos 0 ∷ pos 2 ∷ pos 0 ∷ pos 0 ∷ pos 0 ∷ []
unfolding edge_sum edge_count edges_of same_point
sums-doubled = refl

pub sums-doubled_replaced : sums (map (replaced p s) doubled) ≡
    pos 0 ∷ pos 0 ∷ pos 0 ∷ pos 0 ∷ pos 0 ∷ negsuc 1 ∷ pos 2 ∷ pos 0 ∷ pos 0 ∷ negsuc 1 ∷ []
unfolding replaced replaced_point edge_sum edge_count edges_of same_point
sums-doubled_replaced = refl

-- the sum at an edge of the target is its own and that of the edge that comes to it
pub sums-square_replaced : sums (map (replaced q r) square) ≡
    pos 0 ∷ pos 1 ∷ negsuc 0 ∷ pos 0 ∷ pos 0 ∷ pos 0 ∷ pos 0 ∷ pos 1 ∷ pos 0 ∷ pos 0 ∷ []
unfolding replaced replaced_point edge_sum edge_count edges_of same_point
sums-square_replaced = refl

-- a triangle and its back have no edge that is left, whichever corner is replaced
abbrev two_faced : List Tri
two_faced = tri p q middle ∷ tri p middle q ∷ []

pub rim-two_faced : rim two_faced ≡ []
unfolding is_rim_edge edge_sum edge_count edges_of same_point
rim-two_faced = refl

pub rim-two_faced_collapsed : rim (collapsed middle r two_faced) ≡ []
unfolding collapsed replaced replaced_point has_distinct_corners is_rim_edge edge_sum edge_count edges_of same_point
rim-two_faced_collapsed = refl

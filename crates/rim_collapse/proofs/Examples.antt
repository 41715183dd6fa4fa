-- Worked examples of the rule, computed by the checker.
use Rattle.std.specs.Prelude.{◌≡◌, false, not, ℕ, ℤ, pos, negsuc, List, [], ◌∷◌, map, filter, flat_map, refl}
use Rattle.std.specs.List.{list_any}
use Rattle.geom_core.specs.declared.points.Pt.{Pt}
use Rattle.geom_core.specs.declared.triangles.Tri.{Tri}
use Rattle.geom_core.specs.declared.triangles.Tagged.{Tagged}
use Rattle.geom_core.specs.Collapses.{replaced_point, replaced}
use Rattle.geom_core.specs.Corners.{has_corner}
use Rattle.geom_core.specs.Distance.{distance}
use Rattle.geom_core.specs.EdgeSum.{same_point}
use Rattle.geom_core.specs.Limits.{has_distinct_corners}
use Rattle.geom_core.specs.Shift.{shift_of}
use Rattle.rim_collapse.specs.Cost.{cost, goes_before, key_of}
use Rattle.rim_collapse.specs.Legal.{has_edge, is_legal, is_legal_collapse, keeps_facing}
use Rattle.rim_collapse.specs.Moved.{moved_of}
use Rattle.rim_collapse.specs.Normals.{cross, dot, minus, normal}
use Rattle.rim_collapse.specs.States.{after, begun, present, tagged_of}

abbrev point : ℤ → ℤ → ℤ → Pt
point x y z = record { x = x; y = y; z = z }

abbrev tri : Pt → Pt → Pt → Tri
tri a b c = record { a = a; b = b; c = c }

abbrev from_source : ℕ → Tri → Tagged
from_source k t = record { tri = t; source = k }

-- the corners of a square in turn, and its middle
abbrev p : Pt
p = point (pos 0) (pos 0) (pos 0)

abbrev q : Pt
q = point (pos 8) (pos 0) (pos 0)

abbrev r : Pt
r = point (pos 8) (pos 8) (pos 0)

abbrev s : Pt
s = point (pos 0) (pos 8) (pos 0)

abbrev middle : Pt
middle = point (pos 4) (pos 4) (pos 0)

abbrev corners : List Pt
corners = p ∷ q ∷ r ∷ s ∷ []

abbrev square : List Tagged
square =
    from_source 0 (tri p q middle) ∷ from_source 1 (tri q r middle) ∷ from_source 2 (tri r s middle)
    ∷ from_source 3 (tri s p middle) ∷ []

-- all pairs of the points
abbrev pairs : List Pt → List (Pt × Pt)
pairs points = flat_map (λ a. map (λ b. (a, b)) points) points

-- the legal collapses among these pairs
abbrev legal_of : List Tri → List Pt → List (Pt × Pt) → List (Pt × Pt)
legal_of tris locked some = filter (λ e. is_legal_collapse tris locked e.0 e.1) some

-- those before which none of these goes
abbrev firsts_of : List Tri → List (Pt × Pt) → List (Pt × Pt)
firsts_of tris some = filter (λ e. not (list_any (λ f. goes_before tris f.0 f.1 e.0 e.1) some)) some

-- ---- normals

pub normal-side : normal (tri p q s) ≡ record { x = pos 0; y = pos 0; z = pos 64 }
unfolding normal cross minus
normal-side = refl

pub normal-turned : normal (tri p s q) ≡ record { x = pos 0; y = pos 0; z = negsuc 63 }
unfolding normal cross minus
normal-turned = refl

-- ---- a square whose four corners are locked

-- the middle alone may move, to each corner
pub legal_of-square : legal_of (present (begun square)) corners (pairs (middle ∷ corners)) ≡
    (middle, p) ∷ (middle, q) ∷ (middle, r) ∷ (middle, s) ∷ []
unfolding has_edge is_legal keeps_facing has_corner same_point has_distinct_corners replaced replaced_point normal cross
    dot minus
legal_of-square = refl

-- costs and distances are equal, so the least target decides
pub firsts_of-square : firsts_of (present (begun square)) (map (λ b. (middle, b)) corners) ≡ (middle, p) ∷ []
unfolding key_of cost distance has_corner same_point normal cross dot minus
firsts_of-square = refl

-- the triangles with both points are left out, the others keep order, corners and sources
pub after-square : map tagged_of (after middle p (begun square)) ≡
    from_source 1 (tri q r p) ∷ from_source 2 (tri r s p) ∷ []
unfolding after same_point has_distinct_corners replaced replaced_point
after-square = refl

-- the middle moved by 4 in both of them
pub moved_of-square : moved_of (after middle p (begun square)) ≡ 4
unfolding after same_point has_distinct_corners replaced replaced_point shift_of distance
moved_of-square = refl

-- ---- one triangle

-- nothing locked: any corner may move to any other, since that leaves the triangle out
pub legal_of-one : legal_of (tri p q s ∷ []) [] (pairs (p ∷ q ∷ s ∷ [])) ≡
    (p, q) ∷ (p, s) ∷ (q, p) ∷ (q, s) ∷ (s, p) ∷ (s, q) ∷ []
unfolding has_edge is_legal keeps_facing has_corner same_point has_distinct_corners replaced replaced_point normal cross
    dot minus
legal_of-one = refl

pub after-one : after p s (begun (from_source 7 (tri p q s) ∷ [])) ≡ []
unfolding after same_point has_distinct_corners replaced replaced_point
after-one = refl

-- three corners locked: no collapse
pub legal_of-locked : legal_of (tri p q s ∷ []) corners (pairs (p ∷ q ∷ s ∷ [])) ≡ []
unfolding has_edge is_legal keeps_facing has_corner same_point has_distinct_corners replaced replaced_point normal cross
    dot minus
legal_of-locked = refl

-- ---- a collapse that would turn a triangle over

-- four triangles round a point of a plane, in a quadrilateral that has its inner corner at `dent`
abbrev low : Pt
low = point (negsuc 1) (pos 0) (pos 0)

abbrev near : Pt
near = point (pos 8) (pos 0) (pos 0)

abbrev dent : Pt
dent = point (pos 4) (pos 6) (pos 0)

abbrev top : Pt
top = point (negsuc 1) (pos 40) (pos 0)

abbrev inside : Pt
inside = point (pos 4) (pos 1) (pos 0)

abbrev dented : List Tri
dented = tri low near inside ∷ tri near dent inside ∷ tri dent top inside ∷ tri top low inside ∷ []

abbrev targets : List (Pt × Pt)
targets = map (λ b. (inside, b)) (low ∷ near ∷ dent ∷ top ∷ [])

-- the collapse to the nearest corner goes before all others, but would turn the triangle at the dent over
pub firsts_of-dented : firsts_of dented targets ≡ (inside, near) ∷ []
unfolding key_of cost distance has_corner same_point normal cross dot minus
firsts_of-dented = refl

pub turns_over : keeps_facing inside near (tri dent top inside) ≡ false
unfolding keeps_facing has_corner same_point has_distinct_corners replaced replaced_point normal cross dot minus
turns_over = refl

-- so it is passed by, and the one to the dent is done
pub firsts_of-legal : firsts_of dented (legal_of dented [] targets) ≡ (inside, dent) ∷ []
unfolding key_of cost distance has_edge is_legal keeps_facing has_corner same_point has_distinct_corners replaced
    replaced_point normal cross dot minus
firsts_of-legal = refl

-- ---- costs

-- a roof: the way along its ridge leaves no plane, the ways down to the eaves do
abbrev ridge : Pt
ridge = point (pos 4) (pos 4) (pos 3)

abbrev gable : Pt
gable = point (pos 0) (pos 4) (pos 3)

abbrev roof : List Tri
roof = tri p q ridge ∷ tri gable p ridge ∷ tri r s ridge ∷ tri s gable ridge ∷ []

pub cost-ridge : cost roof ridge gable ≡ 0
unfolding cost has_corner same_point normal cross dot minus
cost-ridge = refl

-- the planes of the two triangles on the other side
pub cost-eaves : cost roof ridge p ≡ 288
unfolding cost has_corner same_point normal cross dot minus
cost-eaves = refl

-- the cost decides before the distance: the gable is no nearer than the eaves
pub firsts_of-roof : firsts_of roof ((ridge, p) ∷ (ridge, gable) ∷ []) ≡ (ridge, gable) ∷ []
unfolding key_of cost distance has_corner same_point normal cross dot minus
firsts_of-roof = refl

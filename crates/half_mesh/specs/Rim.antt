-- The rim of a list of triangles: the edges whose sum isn't 0, ascending, each with its sum.
use Rattle.std.specs.Prelude.{◌≡◌, ◌≢◌, Bool, ◌&&◌, ⊤, ℤ, pos, ◌+ℤ◌, List, [], ◌∷◌, length, map, flat_map, All}
use Rattle.std.specs.Prelude.{AllPairs, Contains, IsTrue, FitsSigned, if◌then◌else◌}
use Rattle.std.specs.Int.{w32}
use Rattle.std.specs.declared.cmp.Ordering.TheVariants.{Less}
use Rattle.geom_core.specs.declared.triangles.Tri.{Tri}
use Rattle.geom_core.specs.declared.points.Pt.{Pt}
use Rattle.geom_core.specs.EdgeSum.{same_point, edge_sum, is_rim_edge}
use Rattle.geom_core.specs.Order.{point_cmp}
use Rattle.half_mesh.specs.declared.edges.Edge.{Edge}
use Rattle.half_mesh.specs.Order.{edge_cmp}

-- edges, and the sum from u to v of the edge at the same place
pub record EdgeSums : Type 0 where
  pub edges : List Edge
  pub sums : List ℤ

abbrev pub edge_sums : List Edge → List ℤ → EdgeSums
edge_sums edges sums = record { edges = edges; sums = sums }

-- u comes before v, and the triangles' edges between them don't cancel
abbrev pub IsRimEdge : List Tri → Edge → Type 0
IsRimEdge tris e = (point_cmp e.u e.v ≡ Less) × IsTrue (is_rim_edge tris e.u e.v)

-- each edge comes before those that follow it
abbrev pub IsAscending : List Edge → Type 0
IsAscending edges = AllPairs (λ e f. edge_cmp e f ≡ Less) edges

-- what every rim is: ascending edges, each with a sum that isn't 0
pub record IsRim (edges : List Edge) (sums : List ℤ) : Type 0 where
  pub ascending : IsAscending edges
  pub one_each : length sums ≡ length edges
  pub some : All (λ sum. sum ≢ pos 0) sums

-- the edge sum along an edge
abbrev pub sum_on : List Tri → Edge → ℤ
sum_on tris e = edge_sum tris e.u e.v

-- the rim of these triangles, with its sums
pub record IsRimOf (tris : List Tri) (edges : List Edge) (sums : List ℤ) : Type 0 where
  pub ascending : IsAscending edges
  pub sound : All (IsRimEdge tris) edges
  pub complete : (e : Edge) → IsRimEdge tris e → Contains edges e
  pub summed : sums ≡ map (sum_on tris) edges

-- the edges have the same points
abbrev pub same_edge : Edge → Edge → Bool
same_edge e f = same_point e.u f.u && same_point e.v f.v

-- what the sums of an edge among these add up to
unfoldable pub sum_in : Edge → List Edge → List ℤ → ℤ
sum_in e [] sums = pos 0
sum_in e (f ∷ edges) [] = pos 0
sum_in e (f ∷ edges) (sum ∷ sums) = (if same_edge f e then sum else pos 0) +ℤ sum_in e edges sums

-- what the sums of an edge among all parts add up to
unfoldable pub sum_in_all : Edge → List EdgeSums → ℤ
sum_in_all e [] = pos 0
sum_in_all e (part ∷ parts) = sum_in e part.edges part.sums +ℤ sum_in_all e parts

-- at each edge, the sums of the parts add up to an i32
abbrev pub HaveSmallSums : List EdgeSums → Type 0
HaveSmallSums parts = (e : Edge) → FitsSigned w32 (sum_in_all e parts)

-- the triangles of all lists
abbrev pub all_of : List (List Tri) → List Tri
all_of lists = flat_map (λ tris. tris) lists

-- each part is the rim of the list at the same place
unfoldable pub AreRimsOf : List (List Tri) → List EdgeSums → Type 0
AreRimsOf [] [] = ⊤
AreRimsOf [] (part ∷ parts) = ⊥
AreRimsOf (tris ∷ lists) [] = ⊥
AreRimsOf (tris ∷ lists) (part ∷ parts) = IsRimOf tris part.edges part.sums × AreRimsOf lists parts

-- both points of each edge
abbrev pub ends_of : List Edge → List Pt
ends_of edges = flat_map (λ e. e.u ∷ e.v ∷ []) edges

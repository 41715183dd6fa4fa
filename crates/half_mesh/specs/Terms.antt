-- The terms of edge sums: edges with numbers of uses, and what these add up to.
use Rattle.std.specs.Prelude.{◌≡◌, ◌≢◌, ℤ, pos, neg_ℤ, ◌+ℤ◌, List, [], ◌∷◌, map, flat_map, All, FitsSigned}
use Rattle.std.specs.Prelude.{if◌then◌else◌}
use Rattle.std.specs.List.Sorted.{IsSortedByKey}
use Rattle.std.specs.Ordering.{int_eq}
use Rattle.std.specs.Int.{w32, int_wrap}
use Rattle.geom_core.specs.declared.points.Pt.{Pt}
use Rattle.geom_core.specs.declared.triangles.Tri.{Tri}
use Rattle.geom_core.specs.EdgeSum.{edges_of}
use Rattle.geom_core.specs.Order.{is_before}
use Rattle.half_mesh.specs.declared.edges.Edge.{Edge}
use Rattle.half_mesh.specs.declared.terms.EdgeTerm.{EdgeTerm}
use Rattle.half_mesh.specs.Order.{edge_cmp}
use Rattle.half_mesh.specs.Rim.{EdgeSums, IsAscending, same_edge}

abbrev pub edge_of : Pt → Pt → Edge
edge_of u v = record { u = u; v = v }

abbrev pub term : Edge → ℤ → EdgeTerm
term edge sum = record { edge = edge; sum = sum }

-- what the terms of an edge add up to
unfoldable pub total_at : Edge → List EdgeTerm → ℤ
total_at e [] = pos 0
total_at e (t ∷ terms) = (if same_edge t.edge e then t.sum else pos 0) +ℤ total_at e terms

-- a directed edge as a term of the edge without direction: 1 one way, -1 the other
unfoldable pub term_of : Pt × Pt → List EdgeTerm
term_of edge =
    (if is_before edge.0 edge.1 then term (edge_of edge.0 edge.1) (pos 1) ∷ []
    else (if is_before edge.1 edge.0 then term (edge_of edge.1 edge.0) (neg_ℤ (pos 1)) ∷ [] else []))

-- the terms of a triangle's three edges
unfoldable pub terms_of : Tri → List EdgeTerm
terms_of t = flat_map term_of (edges_of t)

-- the term, unless its sum is 0
abbrev pub unless_cancelled : EdgeTerm → List EdgeTerm
unless_cancelled t = if int_eq t.sum (pos 0) then [] else t ∷ []

-- each edge with its sum
unfoldable pub terms_in : List Edge → List ℤ → List EdgeTerm
terms_in [] sums = []
terms_in (e ∷ edges) [] = []
terms_in (e ∷ edges) (sum ∷ sums) = term e sum ∷ terms_in edges sums

-- those of all parts
abbrev pub terms_in_all : List EdgeSums → List EdgeTerm
terms_in_all parts = flat_map (λ part. terms_in part.edges part.sums) parts

-- no term's edge comes before that of the term that it follows
abbrev pub IsByEdge : List EdgeTerm → Type 0
IsByEdge terms = IsSortedByKey (λ (t : EdgeTerm). t.edge) edge_cmp terms

-- at each edge, both lists add up to the same i32
abbrev pub AddUpAlike : List EdgeTerm → List EdgeTerm → Type 0
AddUpAlike terms others = (e : Edge) → int_wrap w32 (total_at e terms) ≡ int_wrap w32 (total_at e others)

-- each sum fits an i32
abbrev pub AreSmall : List EdgeTerm → Type 0
AreSmall terms = All (λ (t : EdgeTerm). FitsSigned w32 t.sum) terms

-- the terms added up, edge by edge: each edge once, ascending, where the sum isn't 0
pub record IsSumOf (terms sums : List EdgeTerm) : Type 0 where
  pub ascending : IsAscending (map (λ (t : EdgeTerm). t.edge) sums)
  pub some : All (λ (t : EdgeTerm). t.sum ≢ pos 0) sums
  pub small : AreSmall sums
  pub total : (e : Edge) → total_at e sums ≡ int_wrap w32 (total_at e terms)

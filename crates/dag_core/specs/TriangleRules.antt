-- The rules of a DAG's triangles, by number: 6 edge sums, 7 sources, 8 corners; and the DAGs that keep them.
use Rattle.std.specs.Prelude.{◌≡◌, Bool, true, false, not, ◌&&◌, ◌==◌, nat_le, nat_lt, ℕ, ◌<◌, List, ◌++◌, length}
use Rattle.std.specs.Prelude.{flat_map, Option, Some, None, All, if◌then◌else◌}
use Rattle.std.specs.List.{list_all}
use Rattle.std.specs.Ordering.{int_eq}
use Rattle.geom_core.specs.declared.triangles.Tri.{Tri}
use Rattle.geom_core.specs.declared.triangles.Tagged.{Tagged}
use Rattle.geom_core.specs.Distance.{distance}
use Rattle.geom_core.specs.EdgeSum.{edge_sum, edges_of}
use Rattle.geom_core.specs.Limits.{IsGridTriangle}
use Rattle.geom_core.specs.TaggedLists.{tris_of}
use Rattle.dag_core.specs.declared.heads.Heads.{Heads}
use Rattle.dag_core.specs.declared.dags.Dag.{Dag}
use Rattle.dag_core.specs.Members.{group_at, cluster_at, members, made_by}
use Rattle.dag_core.specs.Ranges.{IsInRange}
use Rattle.dag_core.specs.Rules.{Checked, KeepsRulesBelow}
use Rattle.dag_core.specs.Triangles.{tris_at, tris_in, leaf_tris_from, HasTris}

-- both lists have the same edge sum at each edge of either; at all other pairs of points both sums are 0
unfoldable pub have_same_sums : List Tri → List Tri → Bool
have_same_sums tris others =
    list_all (λ edge. int_eq (edge_sum tris edge.0 edge.1) (edge_sum others edge.0 edge.1))
    (flat_map edges_of (tris ++ others))

-- rule 6, at a group: it isn't terminal, and its members and the clusters that it made differ in an edge sum
unfoldable pub breaks_sums : Dag → ℕ → Bool
breaks_sums dag g =
    nat_lt g (length dag.heads.groups) && (not (group_at dag.heads g).terminal
    && not (have_same_sums (tris_of (tris_in dag (members dag.heads g))) (tris_of (tris_in dag (made_by dag.heads g)))))

-- rule 7, at a source: not exactly one leaf triangle has it
unfoldable pub breaks_source : Dag → ℕ → Bool
breaks_source dag source = nat_lt source dag.heads.sources && not (length (leaf_tris_from dag source) == 1)

-- each corner of a triangle is at most this far from the same corner of the other
unfoldable pub is_near : ℕ → Tri → Tri → Bool
is_near most t s = nat_le (distance t.a s.a) most && nat_le (distance t.b s.b) most && nat_le (distance t.c s.c) most

-- the error of a maker: 0 where there is none
abbrev pub error_of_maker : Heads → Option ℕ → ℕ
error_of_maker heads None = 0
error_of_maker heads (Some maker) = (group_at heads maker).error

-- how far the corners of a cluster's triangles may be from those of their source triangles
abbrev pub error_of : Heads → ℕ → ℕ
error_of heads c = error_of_maker heads (cluster_at heads c).made

-- each leaf triangle with the triangle's source is as near to it as this
unfoldable pub is_near_source : Dag → ℕ → Tagged → Bool
is_near_source dag most t = list_all (λ s. is_near most t.tri s.tri) (leaf_tris_from dag t.source)

-- rule 8, at a cluster: a corner is further from the same corner of its source triangle than the maker's error
unfoldable pub breaks_corners : Dag → ℕ → Bool
breaks_corners dag c =
    nat_lt c (length dag.heads.clusters) && not (list_all (is_near_source dag (error_of dag.heads c)) (tris_at dag c))

-- the rule of this number is broken at this index
abbrev pub dag_breaks : ℕ → Dag → ℕ → Bool
dag_breaks rule dag index =
    if rule == 6 then breaks_sums dag index
    else (if rule == 7 then breaks_source dag index
    else (if rule == 8 then breaks_corners dag index
    else false))

-- the first of these rules that is broken, at the first index where it is
pub record IsFirstDagBreak (dag : Dag) (rule index : ℕ) : Type 0 where
  pub broken : dag_breaks rule dag index ≡ true
  pub first_index : (before : ℕ) → before < index → dag_breaks rule dag before ≡ false
  pub first_rule : (lesser before : ℕ) → lesser < rule → dag_breaks lesser dag before ≡ false

-- a triangle of a mesh, with the number of a source triangle
pub record IsSourcedTriangle (sources : ℕ) (t : Tagged) : Type 0 where
  pub triangle : IsGridTriangle t.tri
  pub source : t.source < sources

-- what laying out needs: all rules of the heads but that of pages, and triangles that a page can store
pub record CanBeLaidOut (dag : Dag) : Type 0 where
  pub range : IsInRange dag.heads
  pub rules : KeepsRulesBelow 5 dag.heads
  pub counts : HasTris dag
  pub triangles : All (All (IsSourcedTriangle dag.heads.sources)) dag.tris

-- a DAG that pages can be written of: all rules of the heads, and triangles that a page can store
pub record IsLaidOut (dag : Dag) : Type 0 where
  pub range : IsInRange dag.heads
  pub rules : Checked dag.heads
  pub counts : HasTris dag
  pub triangles : All (All (IsSourcedTriangle dag.heads.sources)) dag.tris

-- a DAG each of whose levels of detail stands for the source mesh
pub record Sound (dag : Dag) : Type 0 where
  pub laid_out : IsLaidOut dag
  pub rules : (rule index : ℕ) → dag_breaks rule dag index ≡ false

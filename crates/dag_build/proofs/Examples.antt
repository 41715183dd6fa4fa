-- Worked examples of levels and their numbers, computed by the checker. A cluster has 2 triangles here, a group 2
-- clusters.
use Rattle.std.specs.Prelude.{◌≡◌, ◌+◌, ◌*◌, true, false, ℕ, pos, List, [], ◌∷◌, map, Some, None, refl}
use Rattle.geom_core.specs.declared.boxes.Cube.{Cube}
use Rattle.geom_core.specs.declared.limits.TheConstants.{MAX_ERROR}
use Rattle.geom_core.specs.declared.points.Pt.{Pt}
use Rattle.geom_core.specs.declared.triangles.Tri.{Tri}
use Rattle.geom_core.specs.declared.triangles.Tagged.{Tagged}
use Rattle.geom_core.specs.Boxes.{high_of, hull_of, join_of, low_of}
use Rattle.geom_core.specs.EdgeSum.{edges_of, same_point}
use Rattle.partition.specs.Growing.{batches_of, is_grown, is_next}
use Rattle.partition.specs.Morton.{cell_of, interleave, morton_of}
use Rattle.partition.specs.Neighbours.{same_edge, share_edge}
use Rattle.dag_core.specs.Triangles.{source_of}
use Rattle.dag_build.specs.declared.level_clusters.LevelCluster.{LevelCluster}
use Rattle.dag_build.specs.declared.level_clusters.Maker.{Maker}
use Rattle.dag_build.specs.Grouping.{AreCut}
use Rattle.dag_build.specs.Levels.{LevelGroup, made_from, next_clusters, numbered, source_cluster}
use Rattle.dag_build.specs.Numbers.{clusters_in, dag_of, groups_in, heads_from}
use Rattle.dag_build.specs.Outcomes.{greatest_error, is_terminal, points_of}

-- ---- which groups are terminal

-- of 8 triangles 7 may be left, and of 9 also 7, but not 8
pub goes_on-seven_eighths : is_terminal 2 8 7 0 ≡ false
unfolding is_terminal
goes_on-seven_eighths = refl

pub terminal-all_left : is_terminal 2 8 8 0 ≡ true
unfolding is_terminal
terminal-all_left = refl

pub terminal-more_than_seven_eighths : is_terminal 2 9 8 0 ≡ true
unfolding is_terminal
terminal-more_than_seven_eighths = refl

-- the level has one cluster
pub terminal-one_cluster : is_terminal 1 8 4 0 ≡ true
unfolding is_terminal
terminal-one_cluster = refl

-- nothing is left
pub terminal-nothing_left : is_terminal 2 8 0 0 ≡ true
unfolding is_terminal
terminal-nothing_left = refl

-- an error of 0 is no reason to end
pub goes_on-error_0 : is_terminal 2 8 4 0 ≡ false
unfolding is_terminal
goes_on-error_0 = refl

pub goes_on-greatest_error : is_terminal 2 8 4 MAX_ERROR ≡ false
unfolding is_terminal
goes_on-greatest_error = refl

pub terminal-error_too_great : is_terminal 2 8 4 (MAX_ERROR + 1) ≡ true
unfolding is_terminal
terminal-error_too_great = refl

-- ---- two levels

abbrev at : ℕ → ℕ → Pt
at x y = record { x = pos x; y = pos y; z = pos 0 }

-- a triangle of a strip of squares of side 4: the k-th lower one, and the k-th upper one
abbrev lower : ℕ → Tri
lower k = record { a = at (4 * k) 0; b = at (4 * k + 4) 0; c = at (4 * k) 4 }

abbrev upper : ℕ → Tri
upper k = record { a = at (4 * k + 4) 0; b = at (4 * k + 4) 4; c = at (4 * k) 4 }

abbrev from_source : ℕ → Tri → Tagged
from_source k t = record { tri = t; source = k }

abbrev cube : ℕ → ℕ → Cube
cube low high = record { lo = at low 0; hi = at high 4 }

-- four leaves of two triangles each
abbrev leaf : ℕ → List Tagged
leaf k = from_source (2 * k) (lower k) ∷ from_source (2 * k + 1) (upper k) ∷ []

-- sources count from 0
pub numbered-three : numbered 0 (lower 0 ∷ upper 0 ∷ lower 1 ∷ []) ≡
    from_source 0 (lower 0) ∷ from_source 1 (upper 0) ∷ from_source 2 (lower 1) ∷ []
unfolding numbered
numbered-three = refl

-- Level 0: the first group made two clusters of one triangle each, and has error 3; the second is terminal.
abbrev first : LevelGroup
first = record {
  members = source_cluster (leaf 0) ∷ source_cluster (leaf 1) ∷ [];
  error = 3;
  terminal = false;
  cube = cube 0 8;
  made = (from_source 0 (lower 0) ∷ []) ∷ (from_source 3 (upper 1) ∷ []) ∷ [];
}

abbrev second : LevelGroup
second = record {
  members = source_cluster (leaf 2) ∷ source_cluster (leaf 3) ∷ [];
  error = 0;
  terminal = true;
  cube = cube 8 16;
  made = [];
}

abbrev maker : Maker
maker = record { group = 0; error = 3; cube = cube 0 8 }

abbrev made : List Tagged → LevelCluster
made tris = record { tris = tris; maker = Some maker }

-- the next level's clusters keep the place, error and box of the group that made them
pub next_clusters-two : next_clusters (first ∷ second ∷ []) ≡
    made (from_source 0 (lower 0) ∷ []) ∷ made (from_source 3 (upper 1) ∷ []) ∷ []
unfolding made_from
next_clusters-two = refl

-- where the second group is the first of its level, the makers' place is 1
pub next_clusters-place : map (λ cluster. cluster.maker) (next_clusters (second ∷ first ∷ [])) ≡
    Some (record { group = 1; error = 3; cube = cube 0 8 })
    ∷ Some (record { group = 1; error = 3; cube = cube 0 8 }) ∷ []
unfolding made_from
next_clusters-place = refl

-- Level 1: one terminal group of the two clusters.
abbrev third : LevelGroup
third = record {
  members = next_clusters (first ∷ second ∷ []);
  error = 0;
  terminal = true;
  cube = cube 0 8;
  made = [];
}

abbrev levels : List (List LevelGroup)
levels = (first ∷ second ∷ []) ∷ (third ∷ []) ∷ []

-- the group of level 1 is number 0, and those of level 0 are 1 and 2; so the clusters of level 1 were made by group 1
pub dag_of-two_levels : dag_of 8 levels ≡ record {
  heads = record {
    groups =
        record { error = 0; terminal = true; cube = cube 0 8; page = 0; first = 0; count = 2 }
        ∷ record { error = 3; terminal = false; cube = cube 0 8; page = 0; first = 2; count = 2 }
        ∷ record { error = 0; terminal = true; cube = cube 8 16; page = 0; first = 4; count = 2 } ∷ [];
    clusters =
        record { made = Some 1; tris = 1 } ∷ record { made = Some 1; tris = 1 } ∷ record { made = None; tris = 2 }
        ∷ record { made = None; tris = 2 } ∷ record { made = None; tris = 2 } ∷ record { made = None; tris = 2 } ∷ [];
    pages = 1;
    roots = 1;
    sources = 8;
  };
  tris = (from_source 0 (lower 0) ∷ []) ∷ (from_source 3 (upper 1) ∷ []) ∷ leaf 0 ∷ leaf 1 ∷ leaf 2 ∷ leaf 3 ∷ [];
}
unfolding dag_of groups_in heads_from clusters_in made_from
dag_of-two_levels = refl

-- its source mesh is the strip
pub source_of-two_levels : source_of (dag_of 8 levels) ≡
    lower 0 ∷ upper 0 ∷ lower 1 ∷ upper 1 ∷ lower 2 ∷ upper 2 ∷ lower 3 ∷ upper 3 ∷ []
unfolding dag_of groups_in heads_from clusters_in made_from
source_of-two_levels = refl

-- ---- errors and boxes

-- source clusters have no maker, and so no error
pub greatest_error-leaves : greatest_error first.members ≡ 0
greatest_error-leaves = refl

pub greatest_error-made : greatest_error (source_cluster (leaf 2) ∷ made (leaf 0) ∷ []) ≡ 3
greatest_error-made = refl

-- the box of a group is that of its members' corners and of their makers' boxes
pub box-leaves : hull_of (points_of first.members) ≡ Some (cube 0 8)
unfolding join_of low_of high_of
box-leaves = refl

pub box-made : hull_of (points_of (made (from_source 0 (lower 0) ∷ []) ∷ [])) ≡ Some (cube 0 8)
unfolding join_of low_of high_of
box-made = refl

-- ---- clusters of two triangles

-- the triangles grow along their edges: each square is a cluster, in the order of the squares
pub cut-two_squares : AreCut 2 (numbered 0 (lower 0 ∷ upper 0 ∷ lower 1 ∷ upper 1 ∷ [])) (leaf 0 ∷ leaf 1 ∷ [])
unfolding numbered is_grown is_next share_edge same_edge same_point batches_of edges_of low_of morton_of cell_of
    interleave
cut-two_squares = record {
  batches = (0 ∷ 1 ∷ []) ∷ (2 ∷ 3 ∷ []) ∷ [];
  grown = record { grown = refl; split = refl };
  picked = refl;
}

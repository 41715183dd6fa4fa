-- The two squares: a DAG of three groups and four clusters, written out. Square 1 has the corners A, B, C, D and the
-- middle M. Its leaf has four triangles round the middle; group 1 made two triangles of them, without the middle.
-- Square 2 is square 1 moved by 16 in x, with group 2. Group 0 has the two coarse clusters.
use Rattle.std.specs.Prelude.{true, false, ℕ, pos, ◌+◌, List, [], ◌∷◌, None, Some}
use Rattle.geom_core.specs.declared.points.Pt.{Pt}
use Rattle.geom_core.specs.declared.triangles.Tagged.{Tagged}
use Rattle.dag_core.specs.declared.groups.Group.{Group}
use Rattle.dag_core.specs.declared.cluster_heads.ClusterHead.{ClusterHead}
use Rattle.dag_core.specs.declared.heads.Heads.{Heads}
use Rattle.dag_core.specs.declared.dags.Dag.{Dag}

abbrev pub flat_point : ℕ → ℕ → Pt
flat_point x y = record { x = pos x; y = pos y; z = pos 0 }

abbrev pub sourced : Pt → Pt → Pt → ℕ → Tagged
sourced a b c source = record { tri = record { a = a; b = b; c = c }; source = source }

-- the corners of the square whose low corner has this x, and its middle
abbrev pub corner_a : ℕ → Pt
corner_a x = flat_point x 0

abbrev pub corner_b : ℕ → Pt
corner_b x = flat_point (x + 8) 0

abbrev pub corner_c : ℕ → Pt
corner_c x = flat_point (x + 8) 8

abbrev pub corner_d : ℕ → Pt
corner_d x = flat_point x 8

abbrev pub middle : ℕ → Pt
middle x = flat_point (x + 4) 4

-- the square's four triangles round its middle, from this source on
abbrev pub fine_square : ℕ → ℕ → List Tagged
fine_square x source = sourced (corner_a x) (corner_b x) (middle x) source
    ∷ sourced (corner_b x) (corner_c x) (middle x) (source + 1)
    ∷ sourced (corner_c x) (corner_d x) (middle x) (source + 2)
    ∷ sourced (corner_d x) (corner_a x) (middle x) (source + 3) ∷ []

-- its middle moved to A: the two triangles that are left
abbrev pub coarse_square : ℕ → ℕ → List Tagged
coarse_square x source = sourced (corner_b x) (corner_c x) (corner_a x) (source + 1)
    ∷ sourced (corner_c x) (corner_d x) (corner_a x) (source + 2) ∷ []

-- the group of both coarse squares, which nothing replaces
abbrev pub whole : Group
whole =
    record {
      error = 0;
      terminal = true;
      cube = record { lo = corner_a 0; hi = corner_c 16 };
      page = 0;
      first = 0;
      count = 2;
    }

-- the groups of the fine squares
abbrev pub left : Group
left =
    record {
      error = 4;
      terminal = false;
      cube = record { lo = corner_a 0; hi = corner_c 0 };
      page = 1;
      first = 2;
      count = 1;
    }

abbrev pub right : Group
right =
    record {
      error = 4;
      terminal = false;
      cube = record { lo = corner_a 16; hi = corner_c 16 };
      page = 2;
      first = 3;
      count = 1;
    }

abbrev pub made_of_two : ℕ → ClusterHead
made_of_two maker = record { made = Some maker; tris = 2 }

abbrev pub leaf_of_four : ClusterHead
leaf_of_four = record { made = None; tris = 4 }

abbrev pub two_squares_groups : List Group
two_squares_groups = whole ∷ left ∷ right ∷ []

abbrev pub two_squares_clusters : List ClusterHead
two_squares_clusters = made_of_two 1 ∷ made_of_two 2 ∷ leaf_of_four ∷ leaf_of_four ∷ []

abbrev pub two_squares_heads : Heads
two_squares_heads =
    record { groups = two_squares_groups; clusters = two_squares_clusters; pages = 3; roots = 1; sources = 8 }

abbrev pub two_squares_tris : List (List Tagged)
two_squares_tris = coarse_square 0 0 ∷ coarse_square 16 4 ∷ fine_square 0 0 ∷ fine_square 16 4 ∷ []

abbrev pub two_squares : Dag
two_squares = record { heads = two_squares_heads; tris = two_squares_tris }

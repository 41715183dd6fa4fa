-- The records of a page file as numbers, both ways: a triangle ten, a group eleven, a cluster two.
use Rattle.std.specs.Prelude.{Bool, true, false, ◌==◌, ℕ, ◌+◌, ℤ, List, [], ◌∷◌, ◌++◌, Option, Some, None, slice_index}
use Rattle.std.specs.Prelude.{if◌then◌else◌}
use Rattle.std.specs.Int.{w32, cast_signed, cast_unsigned}
use Rattle.geom_core.specs.declared.points.Pt.{Pt}
use Rattle.geom_core.specs.declared.triangles.Tagged.{Tagged}
use Rattle.dag_core.specs.declared.groups.Group.{Group}
use Rattle.dag_core.specs.declared.cluster_heads.ClusterHead.{ClusterHead}
use Rattle.page_codec.specs.declared.sizes.TheConstants.{NO_MAKER}
use Rattle.page_codec.specs.Numbers.{numbers_bytes, numbers_of}

-- a coordinate: two's complement
abbrev pub coordinate_number : ℤ → ℕ
coordinate_number z = cast_unsigned w32 z

abbrev pub coordinate_from : ℕ → ℤ
coordinate_from n = cast_signed w32 n

-- a point: x, y, z
abbrev pub point_numbers : Pt → List ℕ
point_numbers p = coordinate_number p.x ∷ coordinate_number p.y ∷ coordinate_number p.z ∷ []

-- the point of three numbers, from number k on
abbrev pub point_from : ℕ → List ℕ → Pt
point_from k numbers = record {
  x = coordinate_from (slice_index numbers k);
  y = coordinate_from (slice_index numbers (k + 1));
  z = coordinate_from (slice_index numbers (k + 2));
}

-- a triangle: its three corners, then its source
unfoldable pub triangle_numbers : Tagged → List ℕ
triangle_numbers t = point_numbers t.tri.a ++ point_numbers t.tri.b ++ point_numbers t.tri.c ++ (t.source ∷ [])

unfoldable pub triangle_from : List ℕ → Tagged
triangle_from numbers = record {
  tri = record { a = point_from 0 numbers; b = point_from 3 numbers; c = point_from 6 numbers };
  source = slice_index numbers 9;
}

abbrev pub triangle_bytes : Tagged → List ℕ
triangle_bytes t = numbers_bytes (triangle_numbers t)

abbrev pub triangle_of : List ℕ → Tagged
triangle_of bytes = triangle_from (numbers_of 10 bytes)

-- terminal or not: 1 or 0
abbrev pub terminal_number : Bool → ℕ
terminal_number true = 1
terminal_number false = 0

-- a group: error, terminal, low and high corner, page, first, count
unfoldable pub group_numbers : Group → List ℕ
group_numbers group = (group.error ∷ terminal_number group.terminal ∷ [])
    ++ point_numbers group.cube.lo ++ point_numbers group.cube.hi
    ++ (group.page ∷ group.first ∷ group.count ∷ [])

unfoldable pub group_from : List ℕ → Group
group_from numbers = record {
  error = slice_index numbers 0;
  terminal = slice_index numbers 1 == 1;
  cube = record { lo = point_from 2 numbers; hi = point_from 5 numbers };
  page = slice_index numbers 8;
  first = slice_index numbers 9;
  count = slice_index numbers 10;
}

abbrev pub group_bytes : Group → List ℕ
group_bytes group = numbers_bytes (group_numbers group)

abbrev pub group_of : List ℕ → Group
group_of bytes = group_from (numbers_of 11 bytes)

-- the maker, or 2^32 - 1 for a leaf
abbrev pub maker_number : Option ℕ → ℕ
maker_number None = NO_MAKER
maker_number (Some maker) = maker

abbrev pub maker_from : ℕ → Option ℕ
maker_from n = if n == NO_MAKER then None else Some n

-- a cluster: its maker, then the number of its triangles
unfoldable pub head_numbers : ClusterHead → List ℕ
head_numbers head = maker_number head.made ∷ head.tris ∷ []

unfoldable pub head_from : List ℕ → ClusterHead
head_from numbers = record { made = maker_from (slice_index numbers 0); tris = slice_index numbers 1 }

abbrev pub head_bytes : ClusterHead → List ℕ
head_bytes head = numbers_bytes (head_numbers head)

abbrev pub head_of : List ℕ → ClusterHead
head_of bytes = head_from (numbers_of 2 bytes)

-- Worked examples of the definitions, computed by the checker: the bytes of the two squares, and breaks of the grammar.
use Rattle.std.proofs.Common.{◌≡◌, ℕ, ◌+◌, List, [], ◌∷◌, ◌++◌, map, set, Option, Some, None, refl}
use Rattle.std.specs.List.{range_with_len, flat_map}
use Rattle.geom_core.specs.Boxes.{is_under}
use Rattle.geom_core.specs.EdgeSum.{same_point}
use Rattle.geom_core.specs.Limits.{has_distinct_corners}
use Rattle.dag_core.specs.declared.counts.Counts.{Counts}
use Rattle.dag_core.specs.Members.{home}
use Rattle.dag_core.specs.Ranges.{counts_of}
use Rattle.dag_core.proofs.TwoSquares.{left, sourced, corner_a, corner_b, middle, two_squares, two_squares_heads}
use Rattle.dag_core.proofs.TwoSquares.{leaf_of_four, made_of_two}
use Rattle.page_codec.specs.declared.breaks.Break.{Break}
use Rattle.page_codec.specs.Breaks.{first_of, triangle_rules, tail_breaks, page_breaks, group_rules, head_rules}
use Rattle.page_codec.specs.Breaks.{directory_breaks}
use Rattle.page_codec.specs.Numbers.{numbers_bytes, numbers_of}
use Rattle.page_codec.specs.Records.{triangle_numbers, triangle_from, triangle_bytes, group_numbers, group_from}
use Rattle.page_codec.specs.Records.{group_bytes, head_numbers, head_from, head_bytes}
use Rattle.page_codec.specs.Spelling.{cluster_bytes, tail_bytes, page_bytes_in, page_in, counts_bytes, magic, page_at}

-- ---- what is spelt

pub group_1_of_the_two_squares : group_bytes left
    ≡ 4 ∷ 0 ∷ 0 ∷ 0 ∷ 0 ∷ 0 ∷ 0 ∷ 0 ∷ 0 ∷ 0 ∷ 0 ∷ 0 ∷ 0 ∷ 0 ∷ 0 ∷ 0 ∷ 0 ∷ 0 ∷ 0 ∷ 0 ∷ 8 ∷ 0 ∷ 0 ∷ 0 ∷ 8 ∷ 0 ∷ 0 ∷
    0 ∷ 0 ∷ 0 ∷ 0 ∷ 0 ∷ 1 ∷ 0 ∷ 0 ∷ 0 ∷ 2 ∷ 0 ∷ 0 ∷ 0 ∷ 1 ∷ 0 ∷ 0 ∷ 0 ∷ []
unfolding numbers_bytes group_numbers
group_1_of_the_two_squares = refl

pub header_of_the_two_squares : magic ++ counts_bytes 1 (counts_of two_squares_heads)
    ≡ 71 ∷ 69 ∷ 79 ∷ 80 ∷ 65 ∷ 71 ∷ 69 ∷ 83 ∷ 1 ∷ 0 ∷ 0 ∷ 0 ∷ 3 ∷ 0 ∷ 0 ∷ 0 ∷ 4 ∷ 0 ∷ 0 ∷ 0 ∷ 3 ∷ 0 ∷ 0 ∷ 0 ∷ 1 ∷
    0 ∷ 0 ∷ 0 ∷ 8 ∷ 0 ∷ 0 ∷ 0 ∷ []
unfolding numbers_bytes counts_bytes
header_of_the_two_squares = refl

pub first_triangle_of_page_1 : triangle_bytes (sourced (corner_a 0) (corner_b 0) (middle 0) 0)
    ≡ 0 ∷ 0 ∷ 0 ∷ 0 ∷ 0 ∷ 0 ∷ 0 ∷ 0 ∷ 0 ∷ 0 ∷ 0 ∷ 0 ∷ 8 ∷ 0 ∷ 0 ∷ 0 ∷ 0 ∷ 0 ∷ 0 ∷ 0 ∷ 0 ∷ 0 ∷ 0 ∷ 0 ∷ 4 ∷ 0 ∷ 0 ∷
    0 ∷ 4 ∷ 0 ∷ 0 ∷ 0 ∷ 0 ∷ 0 ∷ 0 ∷ 0 ∷ 0 ∷ 0 ∷ 0 ∷ 0 ∷ []
unfolding numbers_bytes triangle_numbers
first_triangle_of_page_1 = refl

pub a_leaf : head_bytes leaf_of_four ≡ 255 ∷ 255 ∷ 255 ∷ 255 ∷ 4 ∷ 0 ∷ 0 ∷ 0 ∷ []
unfolding numbers_bytes head_numbers
a_leaf = refl

pub a_made_cluster : head_bytes (made_of_two 1) ≡ 1 ∷ 0 ∷ 0 ∷ 0 ∷ 2 ∷ 0 ∷ 0 ∷ 0 ∷ []
unfolding numbers_bytes head_numbers
a_made_cluster = refl

pub page_places : map (page_at (counts_of two_squares_heads)) (range_with_len 0 4) ≡ 324 ∷ 65860 ∷ 131396 ∷ 196932 ∷ []
page_places = refl

-- ---- breaks of a page: page 1 of the two squares, cut to 164 bytes

abbrev short_page : List ℕ
short_page = page_bytes_in 164 (page_in two_squares 1)

-- the first break of a page of four triangles in a file of eight source triangles
abbrev first_break : List ℕ → Option Break
first_break bytes = first_of (page_breaks 8 4 bytes)

abbrev break_of : ℕ → ℕ → Option Break
break_of rule offset = Some (record { rule = rule; offset = offset })

-- bytes put in from this place on
abbrev with_bytes : ℕ → List ℕ → List ℕ → List ℕ
with_bytes at [] bytes = bytes
with_bytes at (b ∷ bs) bytes = with_bytes (at + 1) bs (set bytes at b)

abbrev high : List ℕ
high = 255 ∷ 255 ∷ 255 ∷ 127 ∷ []

pub page_1_has_no_break : first_break short_page ≡ None
unfolding home page_in cluster_bytes tail_bytes numbers_bytes numbers_of triangle_numbers triangle_from page_breaks
    tail_breaks triangle_rules has_distinct_corners same_point
page_1_has_no_break = refl

pub coordinate_out_of_range : first_break (with_bytes 0 high short_page) ≡ break_of 1 0
unfolding home page_in cluster_bytes tail_bytes numbers_bytes numbers_of triangle_numbers triangle_from page_breaks
    tail_breaks triangle_rules has_distinct_corners same_point
coordinate_out_of_range = refl

pub source_8 : first_break (set short_page 156 8) ≡ break_of 3 120
unfolding home page_in cluster_bytes tail_bytes numbers_bytes numbers_of triangle_numbers triangle_from page_breaks
    tail_breaks triangle_rules has_distinct_corners same_point
source_8 = refl

pub last_byte_1 : first_break (set short_page 163 1) ≡ break_of 4 163
unfolding home page_in cluster_bytes tail_bytes numbers_bytes numbers_of triangle_numbers triangle_from page_breaks
    tail_breaks triangle_rules has_distinct_corners same_point
last_byte_1 = refl

-- two corners equal, and a later byte of the tail: the triangle comes first, with its least rule
pub equal_corners_before_the_tail : first_break (set (set (set short_page 163 1) 12 0) 36 9) ≡ break_of 2 0
unfolding home page_in cluster_bytes tail_bytes numbers_bytes numbers_of triangle_numbers triangle_from page_breaks
    tail_breaks triangle_rules has_distinct_corners same_point
equal_corners_before_the_tail = refl

-- ---- breaks of a directory's records, in a file with the counts of the two squares

abbrev counts : Counts
counts = counts_of two_squares_heads

-- group 1's numbers, with one of them changed
abbrev rules_with : ℕ → ℕ → List ℕ
rules_with k n = group_rules counts (set (group_numbers left) k n)

abbrev keeps : List ℕ
keeps = []

-- each rule at both sides of its bound: 0 the error, 1 terminal, 2 low x, 8 page, 9 first, 10 count
pub group_bounds : rules_with 0 2147483647 ∷ rules_with 0 2147483648 ∷ rules_with 1 1 ∷ rules_with 1 2 ∷ rules_with 2 8
    ∷ rules_with 2 9
    ∷ rules_with 5 1048576 ∷ rules_with 5 1048577 ∷ rules_with 8 2 ∷ rules_with 8 3 ∷ rules_with 9 4 ∷ rules_with 9 5
    ∷ rules_with 10 8 ∷ rules_with 10 9 ∷ rules_with 10 0 ∷ []
    ≡ keeps ∷ (1 ∷ []) ∷ keeps ∷ (2 ∷ []) ∷ keeps ∷ (3 ∷ []) ∷ keeps ∷ (3 ∷ []) ∷ keeps ∷ (4 ∷ []) ∷ keeps ∷
    (5 ∷ []) ∷ keeps ∷ (5 ∷ []) ∷ (5 ∷ []) ∷ []
unfolding group_numbers group_from group_rules is_under
group_bounds = refl

-- a cluster of these two numbers
abbrev rules_of_head : ℕ → ℕ → List ℕ
rules_of_head made tris = head_rules counts (head_from (made ∷ tris ∷ []))

pub head_bounds : rules_of_head 2 128 ∷ rules_of_head 3 128 ∷ rules_of_head 4294967295 1 ∷ rules_of_head 4294967294 1 ∷
    rules_of_head 0 129 ∷ rules_of_head 0 0 ∷ rules_of_head 3 0 ∷ []
    ≡ keeps ∷ (6 ∷ []) ∷ keeps ∷ (6 ∷ []) ∷ (7 ∷ []) ∷ (7 ∷ []) ∷ (6 ∷ 7 ∷ []) ∷ []
unfolding head_from head_rules
head_bounds = refl

-- ---- breaks of a directory: that of the two squares without its digests, which break no rule

abbrev short_directory : List ℕ
short_directory = flat_map group_bytes two_squares_heads.groups ++ flat_map head_bytes two_squares_heads.clusters

abbrev first_record_break : List ℕ → Option Break
first_record_break bytes = first_of (directory_breaks counts bytes)

pub directory_has_no_break : first_record_break short_directory ≡ None
unfolding numbers_bytes numbers_of group_numbers group_from head_numbers head_from directory_breaks group_rules
    head_rules is_under
directory_has_no_break = refl

-- the count of group 0 as 9 and the error of group 1 as 2^31: the earlier record comes first, with its greater rule
pub earlier_group_comes_first : first_record_break (set (set short_directory 40 9) 47 128) ≡ break_of 5 0
unfolding numbers_bytes numbers_of group_numbers group_from head_numbers head_from directory_breaks group_rules
    head_rules is_under
earlier_group_comes_first = refl

-- 0 triangles in cluster 0 and the maker of cluster 1 as 3
pub earlier_cluster_comes_first : first_record_break (set (set short_directory 136 0) 140 3) ≡ break_of 7 132
unfolding numbers_bytes numbers_of group_numbers group_from head_numbers head_from directory_breaks group_rules
    head_rules is_under
earlier_cluster_comes_first = refl

-- the maker of cluster 0 as 3 and the page of group 2 as 3: any group comes before any cluster
pub groups_come_before_clusters : first_record_break (set (set short_directory 132 3) 120 3) ≡ break_of 4 88
unfolding numbers_bytes numbers_of group_numbers group_from head_numbers head_from directory_breaks group_rules
    head_rules is_under
groups_come_before_clusters = refl

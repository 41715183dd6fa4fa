-- Which rules of the grammar the bytes of a page and of a directory break, and which of them is the first.
use Rattle.std.specs.Prelude.{◌≡◌, Bool, ◌==◌, nat_le, nat_lt, ℕ, zero, suc, ◌+◌, ◌*◌, List, [], ◌∷◌, ◌++◌, length, map}
use Rattle.std.specs.Prelude.{take, drop, Option, Some, None, slice_index, if◌then◌else◌}
use Rattle.geom_core.specs.declared.limits.TheConstants.{TRIANGLE_BYTES}
use Rattle.geom_core.specs.declared.triangles.Tagged.{Tagged}
use Rattle.geom_core.specs.Limits.{has_grid_corners, has_distinct_corners}
use Rattle.dag_core.specs.declared.counts.Counts.{Counts}
use Rattle.dag_core.specs.declared.cluster_heads.ClusterHead.{ClusterHead}
use Rattle.dag_core.specs.declared.heads.Heads.{Heads}
use Rattle.dag_core.specs.Pages.{tris_on}
use Rattle.dag_core.specs.Ranges.{is_error, is_group_box, is_page, are_members, is_group_or_none, is_cluster_size}
use Rattle.page_codec.specs.declared.sizes.TheConstants.{GROUP_BYTES, CLUSTER_BYTES}
use Rattle.page_codec.specs.declared.breaks.Break.{Break}
use Rattle.page_codec.specs.declared.breaks.Refused.{Refused}
use Rattle.page_codec.specs.declared.breaks.Refused.TheVariants.{Bad, Memory}
use Rattle.page_codec.specs.Numbers.{numbers_of}
use Rattle.page_codec.specs.Records.{triangle_of, group_from, head_of}
use Rattle.page_codec.specs.Reading.{clusters_at}

-- a rule that is broken unless this holds
abbrev pub unless : Bool → ℕ → List ℕ
unless holds rule = if holds then [] else rule ∷ []

-- these rules, broken at this offset
abbrev pub broken_at : ℕ → List ℕ → List Break
broken_at offset rules = map (λ rule. record { rule = rule; offset = offset }) rules

-- the breaks of n records of this size, the first of them at this offset, in order
abbrev pub breaks_in : (List ℕ → List ℕ) → ℕ → ℕ → ℕ → List ℕ → List Break
breaks_in rules size offset zero bytes = []
breaks_in rules size offset (suc n) bytes =
    broken_at offset (rules (take size bytes)) ++ breaks_in rules size (offset + size) n (drop size bytes)

-- the first of them
abbrev pub first_of : {X : Type 0} → List X → Option X
first_of [] = None
first_of (x ∷ xs) = Some x

-- ---- a page

-- the rules that a triangle breaks, ascending: 1 a coordinate out of range, 2 two equal corners, 3 a source that
-- isn't below the number of sources
unfoldable pub triangle_rules : ℕ → Tagged → List ℕ
triangle_rules sources t = unless (has_grid_corners t.tri) 1
    ++ unless (has_distinct_corners t.tri) 2
    ++ unless (nat_lt t.source sources) 3

-- rule 4: a byte of the tail that isn't 0, at its own offset
unfoldable pub tail_breaks : ℕ → List ℕ → List Break
tail_breaks offset bytes = breaks_in (λ byte. unless (slice_index byte 0 == 0) 4) 1 offset (length bytes) bytes

-- the breaks of a page of n triangles, in order: those of its triangles, then those of its tail
unfoldable pub page_breaks : ℕ → ℕ → List ℕ → List Break
page_breaks sources n bytes = breaks_in (λ bytes. triangle_rules sources (triangle_of bytes)) TRIANGLE_BYTES 0 n bytes
    ++ tail_breaks (TRIANGLE_BYTES * n) (drop (TRIANGLE_BYTES * n) bytes)

-- the first break of page p of a file with these heads
abbrev pub first_page_break : Heads → ℕ → List ℕ → Option Break
first_page_break heads p bytes = first_of (page_breaks heads.sources (tris_on heads p) bytes)

-- this rule is broken at this offset of page p, and nothing earlier is
abbrev pub IsFirstPageBreak : List ℕ → Heads → ℕ → ℕ → ℕ → Type 0
IsFirstPageBreak bytes heads p rule offset =
    first_page_break heads p bytes ≡ Some (record { rule = rule; offset = offset })

-- ---- a directory

-- the rules that a group's numbers break, ascending: 1 error, 2 terminal, 3 box, 4 page, 5 members
unfoldable pub group_rules : Counts → List ℕ → List ℕ
group_rules counts numbers = unless (is_error (group_from numbers).error) 1
    ++ unless (nat_le (slice_index numbers 1) 1) 2
    ++ unless (is_group_box (group_from numbers).cube) 3
    ++ unless (is_page counts (group_from numbers).page) 4
    ++ unless (are_members counts (group_from numbers).first (group_from numbers).count) 5

-- the rules that a cluster breaks, ascending: 6 maker, 7 number of triangles
unfoldable pub head_rules : Counts → ClusterHead → List ℕ
head_rules counts head = unless (is_group_or_none counts head.made) 6 ++ unless (is_cluster_size head.tris) 7

-- the breaks of a directory, in order: those of its groups, then those of its clusters; any digest is right
unfoldable pub directory_breaks : Counts → List ℕ → List Break
directory_breaks counts bytes =
    breaks_in (λ bytes. group_rules counts (numbers_of 11 bytes)) GROUP_BYTES 0 counts.groups bytes
    ++ breaks_in (λ bytes. head_rules counts (head_of bytes)) CLUSTER_BYTES (clusters_at counts) counts.clusters
    (drop (clusters_at counts) bytes)

-- the first break of a directory with these counts
abbrev pub first_directory_break : Counts → List ℕ → Option Break
first_directory_break counts bytes = first_of (directory_breaks counts bytes)

-- this rule is broken in the record at this offset of the directory, and nothing earlier is
abbrev pub IsFirstDirectoryBreak : List ℕ → Counts → ℕ → ℕ → Type 0
IsFirstDirectoryBreak bytes counts rule offset =
    first_directory_break counts bytes ≡ Some (record { rule = rule; offset = offset })

-- what a decoder refused is the first break; memory may run out at any time
abbrev pub Refuses : Option Break → Refused → Type 0
Refuses found (Bad break) = found ≡ Some break
Refuses found Memory = Unit {0}

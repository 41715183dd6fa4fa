-- A directory that fits breaks no rule as it is spelt, and reads back.
use Rattle.std.proofs.Common.{◌≡◌, ℕ, ◌+◌, ◌*◌, ◌<◌, ◌≤◌, Bool, true, false, ◌&&◌, eqb, leb, Option, Some, None, List}
use Rattle.std.proofs.Common.{[], ◌∷◌, ◌++◌, length, get_or, drop, refl, sym, ap, ◌∙◌, arith}
use Rattle.std.specs.List.{All, flat_map}
use Rattle.std.proofs.lemmas.Bool.Decides.{nat_tests}
use Rattle.std.proofs.lemmas.List.{append-nil, append_assoc, length-append, drop_at}
use Rattle.std.proofs.lemmas.List.Elements.{All-from_recursion}
use Rattle.geom_core.specs.declared.points.Pt.{Pt}
use Rattle.geom_core.specs.declared.boxes.Cube.{Cube}
use Rattle.geom_core.specs.Limits.{is_grid_coordinate, is_grid_point}
use Rattle.geom_core.specs.Boxes.{is_under}
use Rattle.dag_core.specs.declared.counts.Counts.{Counts}
use Rattle.dag_core.specs.declared.groups.Group.{Group}
use Rattle.dag_core.specs.declared.cluster_heads.ClusterHead.{ClusterHead}
use Rattle.dag_core.specs.Ranges.{AreCountsInRange, counts_of, is_group_box, is_group_or_none, IsGroupInRange}
use Rattle.dag_core.specs.Ranges.{IsClusterInRange}
use Rattle.page_codec.specs.declared.directories.Directory.{Directory}
use Rattle.page_codec.specs.Numbers.{records, numbers_of}
use Rattle.page_codec.specs.Records.{terminal_number, maker_number, maker_from, group_numbers, group_from, group_bytes}
use Rattle.page_codec.specs.Records.{group_of, head_numbers, head_from, head_bytes, head_of}
use Rattle.page_codec.specs.Breaks.{breaks_in, group_rules, head_rules, directory_breaks, first_directory_break}
use Rattle.page_codec.specs.Fits.{FitsDirectory}
use Rattle.page_codec.specs.Reading.{digest_of, directory_of}
use Rattle.page_codec.specs.Spelling.{digest_bytes, directory_bytes}
use Rattle.page_codec.proofs.NumberLaws.{Is32, numbers_of-spelt, length-numbers_bytes}
use Rattle.page_codec.proofs.RecordLaws.{records-spelt, breaks_in-spelt}
use Rattle.page_codec.proofs.SpeltLaws.{and-left, and-right, coordinate-fits, coordinate-back}

-- what the counts bound
pub record Bounds (counts : Counts) : Type 0 where
  pub groups : counts.groups ≤ 8388608
  pub clusters : counts.clusters ≤ 8388608
  pub pages : counts.pages ≤ 8388608

bounds-of : (counts : Counts) → AreCountsInRange counts → Bounds counts
bounds-of counts range = record {
  groups = let h = and-right (leb 1 counts.groups) (leb counts.groups 8388608) range.groups in grind (arith, nat_tests);
  clusters =
      let h = and-right (leb 1 counts.clusters) (leb counts.clusters 8388608) range.clusters in grind
      (arith, nat_tests);
  pages = let h = and-right (leb 1 counts.pages) (leb counts.pages 8388608) range.pages in grind (arith, nat_tests);
}

-- three coordinates of a mesh
record Axes (p : Pt) : Type 0 where
  x : is_grid_coordinate p.x ≡ true
  y : is_grid_coordinate p.y ≡ true
  z : is_grid_coordinate p.z ≡ true

axes-of : (p : Pt) → is_grid_point p ≡ true → Axes p
axes-of p grid =
    let g = is_grid_coordinate in
    let xy = and-left (g p.x && g p.y) (g p.z) grid in
    record {
      x = and-left (g p.x) (g p.y) xy;
      y = and-right (g p.x) (g p.y) xy;
      z = and-right (g p.x && g p.y) (g p.z) grid;
    }

low-of : (box : Cube) → is_group_box box ≡ true → Axes box.lo
low-of box is =
    axes-of box.lo (and-left (is_grid_point box.lo) (is_grid_point box.hi)
    (and-left (is_grid_point box.lo && is_grid_point box.hi) (is_under box.lo box.hi) is))

high-of : (box : Cube) → is_group_box box ≡ true → Axes box.hi
high-of box is =
    axes-of box.hi (and-right (is_grid_point box.lo) (is_grid_point box.hi)
    (and-left (is_grid_point box.lo && is_grid_point box.hi) (is_under box.lo box.hi) is))

terminal-fits : (b : Bool) → terminal_number b ≤ 1
terminal-fits true = omega arith
terminal-fits false = omega arith

terminal-back : (b : Bool) → eqb (terminal_number b) 1 ≡ b
terminal-back true = refl
terminal-back false = refl

terminal-test : (b : Bool) → leb (terminal_number b) 1 ≡ true
terminal-test true = refl
terminal-test false = refl

-- a group's numbers fit
group-fits : (counts : Counts) (group : Group) → Bounds counts → IsGroupInRange counts group →
    All Is32 (group_numbers group)
unfolding group_numbers
group-fits counts group bounds is =
    let lo = low-of group.cube is.box in
    let hi = high-of group.cube is.box in
    let error : group.error ≤ 2147483647 = let h = is.error in grind (arith, nat_tests) in
    let page : group.page < counts.pages = let h = is.page in grind (arith, nat_tests) in
    let one = and-left (leb 1 group.count && leb group.count 8) (leb group.first counts.clusters) is.members in
    let first : group.first ≤ counts.clusters =
    let h = and-right (leb 1 group.count && leb group.count 8) (leb group.first counts.clusters) is.members in grind
    (arith, nat_tests) in
    let count : group.count ≤ 8 =
    let h = and-right (leb 1 group.count) (leb group.count 8) one in grind (arith, nat_tests) in
    All-from_recursion Is32 (group_numbers group) (
      omega (arith, error),
      (
        omega (arith, terminal-fits group.terminal),
        (
          coordinate-fits group.cube.lo.x lo.x,
          (
            coordinate-fits group.cube.lo.y lo.y,
            (
              coordinate-fits group.cube.lo.z lo.z,
              (
                coordinate-fits group.cube.hi.x hi.x,
                (
                  coordinate-fits group.cube.hi.y hi.y,
                  (
                    coordinate-fits group.cube.hi.z hi.z,
                    (
                      omega (arith, page, bounds.pages),
                      (
                        omega (arith, first, bounds.clusters),
                        (omega (arith, count), tt),
                      ),
                    ),
                  ),
                ),
              ),
            ),
          ),
        ),
      ),
    )

group-back : (group : Group) → is_group_box group.cube ≡ true → group_from (group_numbers group) ≡ group
unfolding group_numbers group_from
group-back group is =
    let lo = low-of group.cube is in
    let hi = high-of group.cube is in
    rw (
      terminal-back group.terminal,
      coordinate-back group.cube.lo.x lo.x,
      coordinate-back group.cube.lo.y lo.y,
      coordinate-back group.cube.lo.z lo.z,
      coordinate-back group.cube.hi.x hi.x,
      coordinate-back group.cube.hi.y hi.y,
      coordinate-back group.cube.hi.z hi.z,
    ) refl

length-group_numbers : (group : Group) → length (group_numbers group) ≡ 11
unfolding group_numbers
length-group_numbers group = refl

numbers-group : (counts : Counts) (group : Group) → Bounds counts → IsGroupInRange counts group →
    numbers_of 11 (group_bytes group) ≡ group_numbers group
numbers-group counts group bounds is =
    ap (λ n. numbers_of n (group_bytes group)) (sym (length-group_numbers group)) ∙
    numbers_of-spelt (group_numbers group) (group-fits counts group bounds is)

-- a group reads back, and breaks no rule
pub group_of-spelt : (counts : Counts) (group : Group) → Bounds counts → IsGroupInRange counts group →
    group_of (group_bytes group) ≡ group
group_of-spelt counts group bounds is = ap group_from (numbers-group counts group bounds is) ∙ group-back group is.box

second : (group : Group) → get_or (group_numbers group) 1 0 ≡ terminal_number group.terminal
unfolding group_numbers
second group = refl

pub group_rules-spelt : (counts : Counts) (group : Group) → Bounds counts → IsGroupInRange counts group →
    group_rules counts (numbers_of 11 (group_bytes group)) ≡ []
unfolding group_rules
group_rules-spelt counts group bounds is =
    rw (
      numbers-group counts group bounds is,
      group-back group is.box,
      second group,
      is.error,
      terminal-test group.terminal,
      is.box,
      is.page,
      is.members,
    ) refl

-- a cluster's numbers fit
maker-fits : (counts : Counts) (made : Option ℕ) → Bounds counts → is_group_or_none counts made ≡ true →
    maker_number made < 4294967296
maker-fits counts None bounds is = omega arith
maker-fits counts (Some maker) bounds is =
    let below : maker < counts.groups = grind (arith, nat_tests) in omega (arith, below, bounds.groups)

maker-back : (counts : Counts) (made : Option ℕ) → Bounds counts → is_group_or_none counts made ≡ true →
    maker_from (maker_number made) ≡ made
maker-back counts None bounds is = refl
maker-back counts (Some maker) bounds is =
    let below : maker < counts.groups = grind (arith, nat_tests) in
    let most = bounds.groups in
    let other : eqb maker 4294967295 ≡ false = grind (arith, nat_tests) in
    rw other refl

head-fits : (counts : Counts) (head : ClusterHead) → Bounds counts → IsClusterInRange counts head →
    All Is32 (head_numbers head)
unfolding head_numbers
head-fits counts head bounds is =
    let size : head.tris ≤ 128 =
    let h = and-right (leb 1 head.tris) (leb head.tris 128) is.size in grind (arith, nat_tests) in
    All-from_recursion Is32 (head_numbers head) (maker-fits counts head.made bounds is.maker, (omega (arith, size), tt))

pub head_of-spelt : (counts : Counts) (head : ClusterHead) → Bounds counts → IsClusterInRange counts head →
    head_of (head_bytes head) ≡ head
unfolding head_numbers head_from
head_of-spelt counts head bounds is =
    ap head_from (numbers_of-spelt (head_numbers head) (head-fits counts head bounds is)) ∙
    rw (maker-back counts head.made bounds is.maker) refl

pub head_rules-spelt : (counts : Counts) (head : ClusterHead) → Bounds counts → IsClusterInRange counts head →
    head_rules counts (head_of (head_bytes head)) ≡ []
unfolding head_rules
head_rules-spelt counts head bounds is = rw (head_of-spelt counts head bounds is, is.maker, is.size) refl

length-group_bytes : (group : Group) → length (group_bytes group) ≡ 44
unfolding group_numbers
length-group_bytes group = length-numbers_bytes (group_numbers group)

length-head_bytes : (head : ClusterHead) → length (head_bytes head) ≡ 8
unfolding head_numbers
length-head_bytes head = length-numbers_bytes (head_numbers head)

pub length-groups : (groups : List Group) → length (flat_map group_bytes groups) ≡ 44 * length groups
length-groups [] = refl
length-groups (group ∷ groups) =
    omega (
      arith,
      length-append (group_bytes group) (flat_map group_bytes groups),
      length-group_bytes group,
      length-groups groups,
    )

pub length-heads : (heads : List ClusterHead) → length (flat_map head_bytes heads) ≡ 8 * length heads
length-heads [] = refl
length-heads (head ∷ heads) =
    omega (
      arith,
      length-append (head_bytes head) (flat_map head_bytes heads),
      length-head_bytes head,
      length-heads heads,
    )

-- a directory reads back
pub directory_of-spelt : (directory : Directory) → FitsDirectory directory →
    directory_of (counts_of directory.heads) (directory_bytes directory) ≡ directory
unfolding directory_bytes directory_of
directory_of-spelt directory fits =
    let counts = counts_of directory.heads in
    let bounds = bounds-of counts fits.heads.counts in
    let groups = flat_map group_bytes directory.heads.groups in
    let heads = flat_map head_bytes directory.heads.clusters in
    let digests = flat_map digest_bytes directory.digests in
    let whole = append_assoc groups heads digests in
    let first : records group_of 44 (length directory.heads.groups)
    (groups ++ (heads ++ digests)) ≡ directory.heads.groups =
    records-spelt group_of group_bytes 44 (IsGroupInRange counts) (λ x is. length-group_bytes x)
    (λ x is. group_of-spelt counts x bounds is) directory.heads.groups (heads ++ digests) fits.heads.groups in
    let after : drop (44 * length directory.heads.groups) (groups ++ (heads ++ digests)) ≡ heads ++ digests =
    drop_at groups (heads ++ digests) (44 * length directory.heads.groups) (length-groups directory.heads.groups) in
    let next : records head_of 8 (length directory.heads.clusters) (heads ++ digests) ≡ directory.heads.clusters =
    records-spelt head_of head_bytes 8 (IsClusterInRange counts) (λ x is. length-head_bytes x)
    (λ x is. head_of-spelt counts x bounds is) directory.heads.clusters digests fits.heads.clusters in
    let end : drop (44 * length directory.heads.groups + 8 * length directory.heads.clusters)
    ((groups ++ heads) ++ digests) ≡ digests =
    drop_at (groups ++ heads) digests (44 * length directory.heads.groups + 8 * length directory.heads.clusters)
    (omega (
      arith,
      length-append groups heads,
      length-groups directory.heads.groups,
      length-heads directory.heads.clusters,
    )) in
    let last : records digest_of 32 directory.heads.pages digests ≡ directory.digests =
    ap (λ n. records digest_of 32 n digests) (sym fits.digest_count) ∙
    ap (records digest_of 32 (length directory.digests)) (sym (append-nil digests))
    ∙ records-spelt digest_of digest_bytes 32 (λ digest. length digest.bytes ≡ 32) (λ x is. is)
    (λ x is. refl) directory.digests [] fits.digests in
    rw (end, last, whole, first, after, next) refl

-- and breaks no rule
pub first_directory_break-spelt : (directory : Directory) → FitsDirectory directory →
    first_directory_break (counts_of directory.heads) (directory_bytes directory) ≡ None
unfolding directory_bytes directory_breaks
first_directory_break-spelt directory fits =
    let counts = counts_of directory.heads in
    let bounds = bounds-of counts fits.heads.counts in
    let groups = flat_map group_bytes directory.heads.groups in
    let heads = flat_map head_bytes directory.heads.clusters in
    let digests = flat_map digest_bytes directory.digests in
    let whole = append_assoc groups heads digests in
    let first : breaks_in (λ b. group_rules counts (numbers_of 11 b)) 44 0 (length directory.heads.groups)
    (groups ++ (heads ++ digests)) ≡ [] =
    breaks_in-spelt group_bytes 44 (λ b. group_rules counts (numbers_of 11 b)) (IsGroupInRange counts)
    (λ x is. length-group_bytes x) (λ x is. group_rules-spelt counts x bounds is) directory.heads.groups 0
    (heads ++ digests) fits.heads.groups in
    let after : drop (44 * length directory.heads.groups) (groups ++ (heads ++ digests)) ≡ heads ++ digests =
    drop_at groups (heads ++ digests) (44 * length directory.heads.groups) (length-groups directory.heads.groups) in
    let next : breaks_in (λ b. head_rules counts (head_of b)) 8 (44 * length directory.heads.groups)
    (length directory.heads.clusters) (heads ++ digests) ≡ [] =
    breaks_in-spelt head_bytes 8 (λ b. head_rules counts (head_of b)) (IsClusterInRange counts)
    (λ x is. length-head_bytes x) (λ x is. head_rules-spelt counts x bounds is) directory.heads.clusters
    (44 * length directory.heads.groups) digests fits.heads.clusters in
    rw (whole, first, after, next) refl

-- What is read from bytes without a break fits: pages their heads, directories their ranges.
use Rattle.std.proofs.Common.{◌≡◌, ℕ, zero, suc, ◌+◌, ◌*◌, ◌≤◌, Bool, true, false, ◌&&◌, ltb, leb, None, List, [], ◌∷◌}
use Rattle.std.proofs.Common.{◌++◌, length, map, get_or, take, drop, refl, sym, ap, ◌∙◌, subst, arith}
use Rattle.std.specs.List.{All, sum_by}
use Rattle.std.proofs.Math.Nat.{mul-suc}
use Rattle.std.proofs.lemmas.Bool.Decides.{nat_tests}
use Rattle.std.proofs.lemmas.Grind.{common_steps}
use Rattle.std.proofs.lemmas.List.{append_assoc, length-drop, length-take-le}
use Rattle.std.proofs.lemmas.List.Elements.{All-nil, All-cons}
use Rattle.geom_core.specs.declared.triangles.Tagged.{Tagged}
use Rattle.geom_core.specs.declared.digests.Digest32.{Digest32}
use Rattle.geom_core.specs.Limits.{has_grid_corners, has_distinct_corners}
use Rattle.dag_core.specs.declared.counts.Counts.{Counts}
use Rattle.dag_core.specs.declared.heads.Heads.{Heads}
use Rattle.dag_core.specs.declared.cluster_heads.ClusterHead.{ClusterHead}
use Rattle.dag_core.specs.Members.{cluster_at}
use Rattle.dag_core.specs.Pages.{clusters_on, tris_on}
use Rattle.dag_core.specs.Ranges.{AreCountsInRange, counts_of, is_error, is_group_box, is_page, are_members}
use Rattle.dag_core.specs.Ranges.{is_group_or_none, is_cluster_size, IsGroupInRange, IsClusterInRange}
use Rattle.dag_core.specs.TriangleRules.{IsSourcedTriangle}
use Rattle.page_codec.specs.declared.pages.PageCluster.{PageCluster}
use Rattle.page_codec.specs.Numbers.{records, numbers_of}
use Rattle.page_codec.specs.Records.{triangle_of, group_from, group_of, head_of}
use Rattle.page_codec.specs.Breaks.{unless, breaks_in, broken_at, triangle_rules, group_rules, head_rules, page_breaks}
use Rattle.page_codec.specs.Breaks.{tail_breaks, directory_breaks, first_page_break, first_directory_break}
use Rattle.page_codec.specs.Fits.{FitsPage, FitsDirectory}
use Rattle.page_codec.specs.Reading.{triangles_of, clusters_of, page_of, digest_of, heads_of, directory_of}
use Rattle.page_codec.specs.Spelling.{directory_length}
use Rattle.page_codec.proofs.NumberLists.{drop-drop}
use Rattle.page_codec.proofs.RecordLaws.{nil-left, nil-right, nil-broken}
use Rattle.page_codec.proofs.RecordLists.{none-first}
use Rattle.page_codec.proofs.DirectoryLaws.{kept-unless}
use Rattle.page_codec.proofs.TriangleLaws.{length-records}

and-both : (a b : Bool) → a ≡ true → b ≡ true → a && b ≡ true
and-both true b first second = second
and-both false b first second = cc

-- records without a break keep what the rules say
pub records-kept : {X : Type 0} (read : List ℕ → X) (size : ℕ) (rules : List ℕ → List ℕ) (P : X → Type 0) →
    ((b : List ℕ) → rules b ≡ [] → P (read b))
    → (n offset : ℕ) (bytes : List ℕ) → breaks_in rules size offset n bytes ≡ [] → All P (records read size n bytes)
records-kept read size rules P keep zero offset bytes none = All-nil P
records-kept read size rules P keep (suc n) offset bytes none =
    let head = broken_at offset (rules (take size bytes)) in
    let rest = breaks_in rules size (offset + size) n (drop size bytes) in
    All-cons P (read (take size bytes)) (records read size n (drop size bytes))
    (keep (take size bytes) (nil-broken offset (rules (take size bytes)) (nil-left head rest none)))
    (records-kept read size rules P keep n (offset + size) (drop size bytes) (nil-right head rest none))

-- breaks in two pieces
pub breaks_in-append : (rules : List ℕ → List ℕ) (size offset m n : ℕ) (bytes : List ℕ)
    → breaks_in rules size offset (m + n) bytes ≡ breaks_in rules size offset m bytes ++ breaks_in rules size
    (offset + size * m) n (drop (size * m) bytes)
breaks_in-append rules size offset zero n bytes =
    let e : 0 + n ≡ n =
    omega arith in let z : size * 0 ≡ 0 = omega arith in let o : offset + 0 ≡ offset =
    omega arith in rw (e, z, o) refl
breaks_in-append rules size offset (suc m) n bytes =
    let e : suc m + n ≡ suc (m + n) = omega arith in
    let s : size * suc m ≡ size + size * m = mul-suc size m ∙ omega arith in
    let o : offset + (size + size * m) ≡ (offset + size) + size * m = omega arith in
    let head = broken_at offset (rules (take size bytes)) in
    rw (e, s, o, ← drop-drop (size * m) size bytes)
    (ap (λ xs. head ++ xs) (breaks_in-append rules size (offset + size) m n (drop size bytes))
    ∙ sym (append_assoc head (breaks_in rules size (offset + size) m (drop size bytes))
    (breaks_in rules size ((offset + size) + size * m) n (drop (size * m) (drop size bytes)))))

-- a triangle without a break
triangle-sourced : (sources : ℕ) (t : Tagged) → triangle_rules sources t ≡ [] → IsSourcedTriangle sources t
unfolding triangle_rules
triangle-sourced sources t none =
    let one = unless (has_grid_corners t.tri) 1 in
    let two = unless (has_distinct_corners t.tri) 2 in
    let three = unless (ltb t.source sources) 3 in
    let grid = kept-unless (has_grid_corners t.tri) 1 (nil-left one two (nil-left (one ++ two) three none)) in
    let distinct = kept-unless (has_distinct_corners t.tri) 2 (nil-right one two (nil-left (one ++ two) three none)) in
    let below = kept-unless (ltb t.source sources) 3 (nil-right (one ++ two) three none) in
    record {
      triangle = and-both (has_grid_corners t.tri) (has_distinct_corners t.tri) grid distinct;
      source = grind (arith, nat_tests);
    }

numbers-read : (heads : Heads) (cs : List ℕ) (bytes : List ℕ) →
    map (λ cluster. cluster.number) (clusters_of heads cs bytes) ≡ cs
numbers-read heads [] bytes = refl
numbers-read heads (c ∷ cs) bytes =
    ap (λ ns. c ∷ ns) (numbers-read heads cs (drop (40 * (cluster_at heads c).tris) bytes))

counts-read : (heads : Heads) (cs : List ℕ) (bytes : List ℕ) →
    All (λ cluster. length cluster.tris ≡ (cluster_at heads cluster.number).tris) (clusters_of heads cs bytes)
unfolding triangles_of
counts-read heads [] bytes =
    All-nil (λ (cluster : PageCluster). length cluster.tris ≡ (cluster_at heads cluster.number).tris)
counts-read heads (c ∷ cs) bytes =
    let n = (cluster_at heads c).tris in
    let made : PageCluster = record { number = c; tris = records triangle_of 40 n bytes } in
    All-cons (λ cluster. length cluster.tris ≡ (cluster_at heads cluster.number).tris) made
    (clusters_of heads cs (drop (40 * n) bytes))
    (length-records triangle_of 40 n bytes) (counts-read heads cs (drop (40 * n) bytes))

sourced-read : (heads : Heads) (cs : List ℕ) (offset : ℕ) (bytes : List ℕ) →
    breaks_in (λ b. triangle_rules heads.sources (triangle_of b)) 40 offset
    (sum_by (λ c. (cluster_at heads c).tris) cs) bytes ≡ []
    → All (λ cluster. All (IsSourcedTriangle heads.sources) cluster.tris) (clusters_of heads cs bytes)
unfolding triangles_of
sourced-read heads [] offset bytes none =
    All-nil (λ (cluster : PageCluster). All (IsSourcedTriangle heads.sources) cluster.tris)
sourced-read heads (c ∷ cs) offset bytes none =
    let f : ℕ → ℕ = λ c. (cluster_at heads c).tris in
    let rules = λ (b : List ℕ). triangle_rules heads.sources (triangle_of b) in
    let n = f c in
    let sum : sum_by f (c ∷ cs) ≡ n + sum_by f cs = grind (arith, common_steps) in
    let head = breaks_in rules 40 offset n bytes in
    let rest = breaks_in rules 40 (offset + 40 * n) (sum_by f cs) (drop (40 * n) bytes) in
    let both : head ++ rest ≡ [] =
    sym (breaks_in-append rules 40 offset n (sum_by f cs) bytes) ∙
    ap (λ k. breaks_in rules 40 offset k bytes) (sym sum) ∙ none in
    let made : PageCluster = record { number = c; tris = records triangle_of 40 n bytes } in
    All-cons (λ cluster. All (IsSourcedTriangle heads.sources) cluster.tris) made
    (clusters_of heads cs (drop (40 * n) bytes))
    (records-kept triangle_of 40 rules (IsSourcedTriangle heads.sources)
    (λ b good. triangle-sourced heads.sources (triangle_of b) good) n offset bytes (nil-left head rest both))
    (sourced-read heads cs (offset + 40 * n) (drop (40 * n) bytes) (nil-right head rest both))

-- a page without a break fits its heads
pub FitsPage-read : (heads : Heads) (p : ℕ) (bytes : List ℕ) → first_page_break heads p bytes ≡ None →
    FitsPage heads (page_of heads p bytes)
unfolding page_of page_breaks tris_on
FitsPage-read heads p bytes found =
    let triangles = breaks_in (λ b. triangle_rules heads.sources (triangle_of b)) 40 0 (tris_on heads p) bytes in
    let tail = tail_breaks (40 * tris_on heads p) (drop (40 * tris_on heads p) bytes) in
    record {
      clusters = numbers-read heads (clusters_on heads p) bytes;
      counts = counts-read heads (clusters_on heads p) bytes;
      triangles =
          sourced-read heads (clusters_on heads p) 0 bytes
          (nil-left triangles tail (none-first (triangles ++ tail) (sym found)));
    }

-- a group without a break
group-ranged : (counts : Counts) (ns : List ℕ) → group_rules counts ns ≡ [] → IsGroupInRange counts (group_from ns)
unfolding group_rules
group-ranged counts ns none =
    let group = group_from ns in
    let one = unless (is_error group.error) 1 in
    let two = unless (leb (get_or ns 1 0) 1) 2 in
    let three = unless (is_group_box group.cube) 3 in
    let four = unless (is_page counts group.page) 4 in
    let five = unless (are_members counts group.first group.count) 5 in
    let to_four = nil-left (((one ++ two) ++ three) ++ four) five none in
    let to_three = nil-left ((one ++ two) ++ three) four to_four in
    record {
      error = kept-unless (is_error group.error) 1 (nil-left one two (nil-left (one ++ two) three to_three));
      box = kept-unless (is_group_box group.cube) 3 (nil-right (one ++ two) three to_three);
      page = kept-unless (is_page counts group.page) 4 (nil-right ((one ++ two) ++ three) four to_four);
      members =
          kept-unless (are_members counts group.first group.count) 5
          (nil-right (((one ++ two) ++ three) ++ four) five none);
    }

head-ranged : (counts : Counts) (head : ClusterHead) → head_rules counts head ≡ [] → IsClusterInRange counts head
unfolding head_rules
head-ranged counts head none =
    let six = unless (is_group_or_none counts head.made) 6 in
    let seven = unless (is_cluster_size head.tris) 7 in
    record {
      maker = kept-unless (is_group_or_none counts head.made) 6 (nil-left six seven none);
      size = kept-unless (is_cluster_size head.tris) 7 (nil-right six seven none);
    }

digests-sized : (n : ℕ) (bytes : List ℕ) → 32 * n ≤ length bytes →
    All (λ digest. length digest.bytes ≡ 32) (records digest_of 32 n bytes)
digests-sized zero bytes room = All-nil (λ (digest : Digest32). length digest.bytes ≡ 32)
digests-sized (suc n) bytes room =
    All-cons (λ (digest : Digest32). length digest.bytes ≡ 32) (digest_of (take 32 bytes))
    (records digest_of 32 n (drop 32 bytes))
    (length-take-le 32 bytes (omega arith)) (digests-sized n (drop 32 bytes) (omega (arith, length-drop 32 bytes)))

-- the counts of what is read are those that were given
pub counts_of-read : (counts : Counts) (bytes : List ℕ) → counts_of (heads_of counts bytes) ≡ counts
counts_of-read counts bytes =
    rw (
      length-records group_of 44 counts.groups bytes,
      length-records head_of 8 counts.clusters (drop (44 * counts.groups) bytes),
    ) refl

-- a directory without a break fits
pub FitsDirectory-read : (counts : Counts) (bytes : List ℕ) → AreCountsInRange counts →
    length bytes ≡ directory_length counts
    → first_directory_break counts bytes ≡ None → FitsDirectory (directory_of counts bytes)
unfolding directory_of directory_breaks
FitsDirectory-read counts bytes range size found =
    let g = 44 * counts.groups in
    let groups = breaks_in (λ b. group_rules counts (numbers_of 11 b)) 44 0 counts.groups bytes in
    let heads = breaks_in (λ b. head_rules counts (head_of b)) 8 g counts.clusters (drop g bytes) in
    let none = none-first (groups ++ heads) (sym found) in
    let same = sym (counts_of-read counts bytes) in
    let Counted : Counts → Type 0 = λ cs. AreCountsInRange cs in
    let Grouped : Counts → Type 0 = λ cs. All (IsGroupInRange cs) (records group_of 44 counts.groups bytes) in
    let Clustered : Counts → Type 0 =
    λ cs. All (IsClusterInRange cs) (records head_of 8 counts.clusters (drop g bytes)) in
    record {
      heads = record {
        counts = subst Counted same range;
        groups =
            subst Grouped same (records-kept group_of 44 (λ b. group_rules counts (numbers_of 11 b))
            (IsGroupInRange counts) (λ b good. group-ranged counts (numbers_of 11 b) good) counts.groups 0 bytes
            (nil-left groups heads none));
        clusters =
            subst Clustered same (records-kept head_of 8 (λ b. head_rules counts (head_of b)) (IsClusterInRange counts)
            (λ b good. head-ranged counts (head_of b) good) counts.clusters g (drop g bytes)
            (nil-right groups heads none));
      };
      digest_count = length-records digest_of 32 counts.pages (drop (g + 8 * counts.clusters) bytes);
      digests =
          digests-sized counts.pages (drop (g + 8 * counts.clusters) bytes)
          (omega (arith, length-drop (g + 8 * counts.clusters) bytes));
    }

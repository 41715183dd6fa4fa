-- The parts of a laid-out DAG's file read back what the DAG holds.
use Rattle.std.proofs.Common.{◌≡◌, ℕ, zero, suc, ◌+◌, ◌-◌, ◌*◌, ◌<◌, ◌≤◌, List, [], ◌∷◌, ◌++◌, length, map, replicate}
use Rattle.std.proofs.Common.{take, drop, refl, sym, ap, ◌∙◌, subst, inl, inr, leb, arith}
use Rattle.std.specs.List.{All, flat_map, range_with_len}
use Rattle.std.proofs.Math.Nat.{mul-suc}
use Rattle.std.proofs.Math.Seq.{drop-append-add}
use Rattle.std.proofs.lemmas.Bool.{cases_lt}
use Rattle.std.proofs.lemmas.Bool.Decides.{nat_tests}
use Rattle.std.proofs.lemmas.List.{append_assoc, get_or_past, length-append, length-replicate, take_all, take_at}
use Rattle.std.proofs.lemmas.List.{drop_at}
use Rattle.std.proofs.lemmas.List.Elements.{All-nil, All-cons, All-head, All-tail, All-from_recursion}
use Rattle.std.proofs.lemmas.List.FromFn.{length-map-range_with_len}
use Rattle.sha2.proofs.Facts256.{length-sha256}
use Rattle.geom_core.specs.declared.limits.TheConstants.{PAGE_BYTES}
use Rattle.geom_core.specs.declared.triangles.Tagged.{Tagged}
use Rattle.geom_core.specs.declared.digests.Digest32.{Digest32}
use Rattle.dag_core.specs.declared.counts.Counts.{Counts}
use Rattle.dag_core.specs.declared.dags.Dag.{Dag}
use Rattle.dag_core.specs.Members.{cluster_at}
use Rattle.dag_core.specs.Pages.{clusters_on}
use Rattle.dag_core.specs.Ranges.{AreCountsInRange, counts_of}
use Rattle.dag_core.specs.Triangles.{tris_at}
use Rattle.dag_core.specs.TriangleRules.{IsSourcedTriangle, IsLaidOut}
use Rattle.page_codec.specs.declared.directories.Directory.{Directory}
use Rattle.page_codec.specs.declared.headers.Header.{Header}
use Rattle.page_codec.specs.declared.pages.PageCluster.{PageCluster}
use Rattle.page_codec.specs.Fits.{FitsPage, FitsDirectory}
use Rattle.page_codec.specs.Numbers.{numbers_of}
use Rattle.page_codec.specs.Reading.{page_of, directory_of, header_of}
use Rattle.page_codec.specs.Records.{group_bytes, head_bytes}
use Rattle.page_codec.specs.Spelling.{digest_bytes, page_cluster, page_in, page_bytes, page_digest, tail_bytes}
use Rattle.page_codec.specs.Spelling.{clusters_bytes, directory_bytes, directory_length, directory_in, counts_numbers}
use Rattle.page_codec.specs.Spelling.{counts_bytes, header_bytes, header_in, directory_digest, file_bytes, page_at}
use Rattle.page_codec.proofs.DirectorySpelt.{directory_of-spelt, length-groups, length-heads}
use Rattle.page_codec.proofs.NumberLaws.{Is32, numbers_of-spelt, length-numbers_bytes}
use Rattle.page_codec.proofs.PageBytes.{bytes_of-groups, length-groups-le, length-tris_at}
use Rattle.page_codec.proofs.PageSpelt.{page_of-spelt}
use Rattle.page_codec.proofs.SpeltLaws.{and-right}

-- ---- the pages of a DAG

numbers-in : (dag : Dag) (cs : List ℕ) → map (λ cluster. cluster.number) (map (page_cluster dag) cs) ≡ cs
numbers-in dag [] = refl
numbers-in dag (c ∷ cs) = ap (λ ns. c ∷ ns) (numbers-in dag cs)

counts-in : (dag : Dag) → IsLaidOut dag → (cs : List ℕ) →
    All (λ cluster. length cluster.tris ≡ (cluster_at dag.heads cluster.number).tris) (map (page_cluster dag) cs)
counts-in dag laid [] =
    All-nil (λ (cluster : PageCluster). length cluster.tris ≡ (cluster_at dag.heads cluster.number).tris)
counts-in dag laid (c ∷ cs) =
    All-cons (λ cluster. length cluster.tris ≡ (cluster_at dag.heads cluster.number).tris) (page_cluster dag c)
    (map (page_cluster dag) cs) (length-tris_at dag laid.counts c) (counts-in dag laid cs)

sourced-at : (dag : Dag) → IsLaidOut dag → (c : ℕ) → All (IsSourcedTriangle dag.heads.sources) (tris_at dag c)
sourced-at dag laid c =
    let P : List Tagged → Type 0 = λ tris. All (IsSourcedTriangle dag.heads.sources) tris in
    elim (cases_lt c (length dag.tris)) [
      | inl below ↦ laid.triangles c [] below
      | inr past ↦ subst P (sym (get_or_past dag.tris c [] past)) (All-nil (IsSourcedTriangle dag.heads.sources))
    ]

sourced-in : (dag : Dag) → IsLaidOut dag → (cs : List ℕ) →
    All (λ cluster. All (IsSourcedTriangle dag.heads.sources) cluster.tris) (map (page_cluster dag) cs)
sourced-in dag laid [] = All-nil (λ (cluster : PageCluster). All (IsSourcedTriangle dag.heads.sources) cluster.tris)
sourced-in dag laid (c ∷ cs) =
    All-cons (λ cluster. All (IsSourcedTriangle dag.heads.sources) cluster.tris) (page_cluster dag c)
    (map (page_cluster dag) cs) (sourced-at dag laid c) (sourced-in dag laid cs)

-- a DAG's page fits its heads
pub FitsPage-in : (dag : Dag) → IsLaidOut dag → (p : ℕ) → FitsPage dag.heads (page_in dag p)
unfolding page_in
FitsPage-in dag laid p = record {
  clusters = numbers-in dag (clusters_on dag.heads p);
  counts = counts-in dag laid (clusters_on dag.heads p);
  triangles = sourced-in dag laid (clusters_on dag.heads p);
}

number-in : (dag : Dag) (p : ℕ) → (page_in dag p).number ≡ p
unfolding page_in
number-in dag p = refl

sources-le : (counts : Counts) → AreCountsInRange counts → counts.sources ≤ 1048576
sources-le counts range =
    let h = and-right (leb 1 counts.sources) (leb counts.sources 1048576) range.sources in grind (arith, nat_tests)

-- a page reads back
pub page_of-in : (dag : Dag) → IsLaidOut dag → (p : ℕ) →
    page_of dag.heads p (page_bytes (page_in dag p)) ≡ page_in dag p
page_of-in dag laid p =
    ap (λ n. page_of dag.heads n (page_bytes (page_in dag p))) (sym (number-in dag p))
    ∙ page_of-spelt dag.heads (page_in dag p) (sources-le (counts_of dag.heads) laid.range.counts)
    (FitsPage-in dag laid p)

length-filled : (body : List ℕ) (len : ℕ) → length body ≤ len → length (body ++ replicate (len - length body) 0) ≡ len
length-filled body len room =
    omega (arith, length-append body (replicate (len - length body) 0), length-replicate {A = ℕ} (len - length body) 0)

-- a page has PAGE_BYTES bytes
pub length-page_bytes : (dag : Dag) → IsLaidOut dag → (p : ℕ) → p < dag.heads.pages →
    length (page_bytes (page_in dag p)) ≡ PAGE_BYTES
unfolding page_bytes tail_bytes
length-page_bytes dag laid p below =
    let most = length-groups-le dag laid.rules laid.counts p below in
    length-filled (clusters_bytes (page_in dag p).clusters) PAGE_BYTES
    (omega (arith, most, ap length (bytes_of-groups dag laid.rules p)))

-- ---- the directory of a DAG

digests-in : (dag : Dag) (a n : ℕ) → All (λ digest. length digest.bytes ≡ 32)
    (map (page_digest dag) (range_with_len a n))
digests-in dag a zero = All-nil (λ (digest : Digest32). length digest.bytes ≡ 32)
digests-in dag a (suc n) =
    All-cons (λ (digest : Digest32). length digest.bytes ≡ 32) (page_digest dag a)
    (map (page_digest dag) (range_with_len (a + 1) n)) (length-sha256 (page_bytes (page_in dag a)))
    (digests-in dag (a + 1) n)

pub FitsDirectory-in : (dag : Dag) → IsLaidOut dag → FitsDirectory (directory_in dag)
unfolding directory_in
FitsDirectory-in dag laid = record {
  heads = laid.range;
  digest_count = length-map-range_with_len (page_digest dag) 0 dag.heads.pages;
  digests = digests-in dag 0 dag.heads.pages;
}

heads-in : (dag : Dag) → (directory_in dag).heads ≡ dag.heads
unfolding directory_in
heads-in dag = refl

length-digests : (digests : List Digest32) → All (λ digest. length digest.bytes ≡ 32) digests →
    length (flat_map digest_bytes digests) ≡ 32 * length digests
length-digests [] sized = refl
length-digests (digest ∷ digests) sized =
    let P : Digest32 → Type 0 = λ digest. length digest.bytes ≡ 32 in
    omega (
      arith,
      length-append digest.bytes (flat_map digest_bytes digests),
      All-head P digest digests sized,
      length-digests digests (All-tail P digest digests sized),
    )

pub length-directory_bytes : (directory : Directory) → FitsDirectory directory →
    length (directory_bytes directory) ≡ directory_length (counts_of directory.heads)
unfolding directory_bytes
length-directory_bytes directory fits =
    let groups = flat_map group_bytes directory.heads.groups in
    let heads = flat_map head_bytes directory.heads.clusters in
    let digests = flat_map digest_bytes directory.digests in
    omega (
      arith,
      length-append (groups ++ heads) digests,
      length-append groups heads,
      length-groups directory.heads.groups,
      length-heads directory.heads.clusters,
      length-digests directory.digests fits.digests,
      fits.digest_count,
    )

-- ---- the header

length-counts_bytes : (version : ℕ) (counts : Counts) → length (counts_bytes version counts) ≡ 24
unfolding counts_bytes
length-counts_bytes version counts = length-numbers_bytes (counts_numbers version counts)

counts-back : (version : ℕ) (counts : Counts) → All Is32 (counts_numbers version counts) →
    numbers_of 6 (counts_bytes version counts) ≡ counts_numbers version counts
unfolding counts_bytes
counts-back version counts small = numbers_of-spelt (counts_numbers version counts) small

-- a header reads back
pub header_of-spelt : (header : Header) → All Is32 (counts_numbers header.version header.counts) →
    length header.digest.bytes ≡ 32 → header_of (header_bytes header) ≡ header
unfolding header_of
header_of-spelt header small size =
    let counts = counts_bytes header.version header.counts in
    let len = length-counts_bytes header.version header.counts in
    let digest : take 32 header.digest.bytes ≡ header.digest.bytes = take_all 32 header.digest.bytes (omega arith) in
    rw (
      take_at counts header.digest.bytes 24 len,
      drop_at counts header.digest.bytes 24 len,
      counts-back header.version header.counts small,
      digest,
    ) refl

counts-small : (counts : Counts) → AreCountsInRange counts → All Is32 (counts_numbers 1 counts)
counts-small counts range =
    let groups : counts.groups ≤ 8388608 =
    let h = and-right (leb 1 counts.groups) (leb counts.groups 8388608) range.groups in grind (arith, nat_tests) in
    let clusters : counts.clusters ≤ 8388608 =
    let h = and-right (leb 1 counts.clusters) (leb counts.clusters 8388608) range.clusters in grind
    (arith, nat_tests) in
    let pages : counts.pages ≤ 8388608 =
    let h = and-right (leb 1 counts.pages) (leb counts.pages 8388608) range.pages in grind (arith, nat_tests) in
    let roots : counts.roots ≤ counts.pages =
    let h = and-right (leb 1 counts.roots) (leb counts.roots counts.pages) range.roots in grind
    (arith, nat_tests) in
    let sources = sources-le counts range in
    All-from_recursion Is32 (counts_numbers 1 counts) (
      omega arith,
      (
        omega (arith, groups),
        (
          omega (arith, clusters),
          (omega (arith, pages), (omega (arith, roots, pages), (omega (arith, sources), tt))),
        ),
      ),
    )

pub header_of-in : (dag : Dag) → IsLaidOut dag → header_of (header_bytes (header_in dag)) ≡ header_in dag
unfolding header_in
header_of-in dag laid =
    header_of-spelt (header_in dag) (counts-small (counts_of dag.heads) laid.range.counts)
    (length-sha256 (counts_bytes 1 (counts_of dag.heads) ++ directory_bytes (directory_in dag)))

length-header_bytes : (dag : Dag) → length (header_bytes (header_in dag)) ≡ 64
unfolding header_in
length-header_bytes dag =
    let counts = counts_bytes 1 (counts_of dag.heads) in
    let digest = directory_digest 1 (counts_of dag.heads) (directory_bytes (directory_in dag)) in
    omega (
      arith,
      length-append counts digest,
      length-counts_bytes 1 (counts_of dag.heads),
      length-sha256 (counts ++ directory_bytes (directory_in dag)),
    )

-- ---- the file

-- the piece of this number, of pieces of one size
pub piece-at : (f : ℕ → List ℕ) (size a n p : ℕ) → ((q : ℕ) → a ≤ q → q < a + n → length (f q) ≡ size) → p < n
    → take size (drop (size * p) (flat_map f (range_with_len a n))) ≡ f (a + p)
piece-at f size a zero p sized below = absurd (omega arith)
piece-at f size a (suc n) zero sized below =
    let none : size * 0 ≡ 0 = omega arith in
    let same : a + 0 ≡ a = omega arith in
    rw (none, same) (take_at (f a) (flat_map f (range_with_len (a + 1) n)) size (sized a (omega arith) (omega arith)))
piece-at f size a (suc n) (suc p) sized below =
    let more : size * suc p ≡ length (f a) + size * p =
    mul-suc size p ∙ omega (arith, sized a (omega arith) (omega arith)) in
    let same : a + suc p ≡ (a + 1) + p = omega arith in
    rw (more, same, drop-append-add (f a) (flat_map f (range_with_len (a + 1) n)) (size * p))
    (piece-at f size (a + 1) n p (λ q from to. sized q (omega arith) (omega arith)) (omega arith))

-- the header of a file
pub file-header : (dag : Dag) → IsLaidOut dag → header_of (take 64 (file_bytes dag)) ≡ header_in dag
unfolding file_bytes
file-header dag laid =
    let header = header_bytes (header_in dag) in
    let directory = directory_bytes (directory_in dag) in
    let pages = flat_map (λ p. page_bytes (page_in dag p)) (range_with_len 0 dag.heads.pages) in
    ap header_of (ap (take 64) (append_assoc header directory pages) ∙
    take_at header (directory ++ pages) 64 (length-header_bytes dag)) ∙ header_of-in dag laid

-- its directory
pub file-directory : (dag : Dag) → IsLaidOut dag
    → directory_of (counts_of dag.heads) (take (directory_length (counts_of dag.heads)) (drop 64 (file_bytes dag))) ≡
    directory_in dag
unfolding file_bytes
file-directory dag laid =
    let header = header_bytes (header_in dag) in
    let directory = directory_bytes (directory_in dag) in
    let pages = flat_map (λ p. page_bytes (page_in dag p)) (range_with_len 0 dag.heads.pages) in
    let size : length directory ≡ directory_length (counts_of dag.heads) =
    length-directory_bytes (directory_in dag) (FitsDirectory-in dag laid) ∙
    ap (λ heads. directory_length (counts_of heads)) (heads-in dag) in
    ap (λ file. directory_of (counts_of dag.heads) (take (directory_length (counts_of dag.heads)) (drop 64 file)))
    (append_assoc header directory pages)
    ∙ ap (λ rest. directory_of (counts_of dag.heads) (take (directory_length (counts_of dag.heads)) rest))
    (drop_at header (directory ++ pages) 64 (length-header_bytes dag))
    ∙ ap (directory_of (counts_of dag.heads)) (take_at directory pages (directory_length (counts_of dag.heads)) size)
    ∙ ap (λ heads. directory_of (counts_of heads) directory) (sym (heads-in dag)) ∙
    directory_of-spelt (directory_in dag) (FitsDirectory-in dag laid)

-- its pages
pub file-page : (dag : Dag) → IsLaidOut dag → (p : ℕ) → p < dag.heads.pages
    → page_of dag.heads p (take PAGE_BYTES (drop (page_at (counts_of dag.heads) p) (file_bytes dag))) ≡ page_in dag p
unfolding file_bytes
file-page dag laid p below =
    let header = header_bytes (header_in dag) in
    let directory = directory_bytes (directory_in dag) in
    let f : ℕ → List ℕ = λ p. page_bytes (page_in dag p) in
    let pages = flat_map f (range_with_len 0 dag.heads.pages) in
    let size : length directory ≡ directory_length (counts_of dag.heads) =
    length-directory_bytes (directory_in dag) (FitsDirectory-in dag laid) ∙
    ap (λ heads. directory_length (counts_of heads)) (heads-in dag) in
    let place : page_at (counts_of dag.heads) p ≡ length (header ++ directory) + PAGE_BYTES * p =
    omega (arith, length-append header directory, length-header_bytes dag, size) in
    ap (λ n. page_of dag.heads p (take PAGE_BYTES (drop n ((header ++ directory) ++ pages)))) place
    ∙ ap (λ rest. page_of dag.heads p (take PAGE_BYTES rest))
    (drop-append-add (header ++ directory) pages (PAGE_BYTES * p))
    ∙ ap (page_of dag.heads p) (piece-at f PAGE_BYTES 0 dag.heads.pages p
    (λ q from to. length-page_bytes dag laid q (omega arith)) below)
    ∙ ap (λ n. page_of dag.heads p (f n)) (omega arith) ∙ page_of-in dag laid p

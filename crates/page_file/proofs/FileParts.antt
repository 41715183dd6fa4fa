-- The parts of a DAG's file, as they are made and put together.
use Rattle.std.proofs.Common.{◌≡◌, ℕ, ◌+◌, ◌-◌, ◌<◌, List, [], ◌∷◌, ◌++◌, map, refl, sym, ap, ◌∙◌, arith, zero-add}
use Rattle.std.specs.List.{flat_map, range_with_len}
use Rattle.std.proofs.lemmas.Grind.{flat_map-append}
use Rattle.std.proofs.lemmas.List.{append-nil}
use Rattle.std.proofs.lemmas.List.FromFn.{map-range_with_len_more}
use Rattle.sha2.specs.Sha256.{sha256}
use Rattle.geom_core.specs.declared.digests.Digest32.{Digest32}
use Rattle.dag_core.specs.declared.counts.Counts.{Counts}
use Rattle.dag_core.specs.declared.heads.Heads.{Heads}
use Rattle.dag_core.specs.declared.dags.Dag.{Dag}
use Rattle.dag_core.specs.Ranges.{counts_of}
use Rattle.dag_core.proofs.ListSteps.{range_more}
use Rattle.page_codec.specs.Spelling.{directory_bytes, directory_digest, directory_in, file_bytes, header_bytes}
use Rattle.page_codec.specs.Spelling.{header_in, page_bytes, page_digest, page_in}
use Rattle.page_codec.proofs.Homes.{range-append}
use Rattle.page_file.specs.Internal.PageTexts.{pages_bytes}

pub digests-more : (dag : Dag) (items new : List Digest32) (p : ℕ) (digest : Digest32) →
    items ≡ map (page_digest dag) (range_with_len 0 p) →
    digest.bytes ≡ sha256 (page_bytes (page_in dag p)) → new ≡ items ++ digest ∷ [] →
    new ≡ map (page_digest dag) (range_with_len 0 (p + 1))
digests-more dag items new p digest before is push =
    let one : digest ≡ page_digest dag p = ap (λ b. record { bytes = b }) is in
    rw (push, before, one) (sym (map-range_with_len_more (page_digest dag) 0 p p (zero-add p)))

pub digests-are : (dag : Dag) (items : List Digest32) (p : ℕ) → items ≡ map (page_digest dag) (range_with_len 0 p) →
    p ≡ dag.heads.pages → items ≡ (directory_in dag).digests
unfolding directory_in
digests-are dag items p before all = before ∙ ap (λ n. map (page_digest dag) (range_with_len 0 n)) all

pub directory-is : (dag : Dag) (heads : Heads) (digests : List Digest32) → heads ≡ dag.heads →
    digests ≡ (directory_in dag).digests → record { heads = heads; digests = digests } ≡ directory_in dag
unfolding directory_in
directory-is dag heads digests same are = rw (same, are) refl

-- one page more
pub pages-more : (dag : Dag) (p : ℕ) → pages_bytes dag p ++ page_bytes (page_in dag p) ≡ pages_bytes dag (p + 1)
pages-more dag p =
    sym (ap (flat_map (λ q. page_bytes (page_in dag q))) (range_more p)
    ∙ flat_map-append (λ q. page_bytes (page_in dag q)) (range_with_len 0 p) (p ∷ [])
    ∙ ap (λ bytes. pages_bytes dag p ++ bytes) (append-nil (page_bytes (page_in dag p))))

-- the whole file: header and directory, then the pages
pub file-is : (dag : Dag) → (header_bytes (header_in dag) ++ directory_bytes (directory_in dag)) ++ pages_bytes dag
    dag.heads.pages ≡ file_bytes dag
unfolding file_bytes
file-is dag = refl

-- the pages so far, this one, then the rest
pub pages-rest : (dag : Dag) (p n : ℕ) → p < n →
    (pages_bytes dag p ++ page_bytes (page_in dag p)) ++ flat_map (λ q. page_bytes (page_in dag q))
    (range_with_len (p + 1) (n - (p + 1))) ≡ pages_bytes dag n
pages-rest dag p n below =
    let f : ℕ → List ℕ = λ q. page_bytes (page_in dag q) in
    let all : (p + 1) + (n - (p + 1)) ≡ n = omega (arith, below) in
    let split : range_with_len 0 n ≡ range_with_len 0 (p + 1) ++ range_with_len (p + 1) (n - (p + 1)) =
    sym (ap (range_with_len 0) all) ∙ range-append 0 (p + 1) (n - (p + 1))
    ∙ ap (λ a. range_with_len 0 (p + 1) ++ range_with_len a (n - (p + 1))) (zero-add (p + 1)) in
    ap (λ bytes. bytes ++ flat_map f (range_with_len (p + 1) (n - (p + 1)))) (pages-more dag p)
    ∙ sym (ap (flat_map f) split ∙ flat_map-append f (range_with_len 0 (p + 1)) (range_with_len (p + 1) (n - (p + 1))))

-- the bytes of the directory that was made
pub directory_bytes-is : (dag : Dag) (heads : Heads) (digests : List Digest32) (bytes : List ℕ) → heads ≡ dag.heads →
    digests ≡ (directory_in dag).digests →
    bytes ≡ directory_bytes (record { heads = heads; digests = digests }) → bytes ≡ directory_bytes (directory_in dag)
directory_bytes-is dag heads digests bytes same are spelt =
    spelt ∙ ap directory_bytes (directory-is dag heads digests same are)

-- the header that was made
pub header-is : (dag : Dag) (counts : Counts) (digest : Digest32) (bytes : List ℕ) → counts ≡ counts_of dag.heads →
    bytes ≡ directory_bytes (directory_in dag) →
    digest.bytes ≡ directory_digest 1 counts bytes →
    record { version = 1; counts = counts; digest = digest } ≡ header_in dag
unfolding header_in
header-is dag counts digest bytes counted same is =
    let one : digest ≡ record {
      bytes = directory_digest 1 (counts_of dag.heads)
          (directory_bytes (directory_in dag));
    } =
    ap (λ b. record { bytes = b }) (is ∙ ap (λ k. directory_digest 1 k bytes) counted ∙
    ap (directory_digest 1 (counts_of dag.heads)) same) in
    rw (counted, one) refl

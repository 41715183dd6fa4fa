-- The file of a laid-out DAG opens.
use Rattle.std.proofs.Common.{◌≡◌, ℕ, zero, suc, ◌+◌, ◌*◌, ◌<◌, ◌≤◌, true, List, [], ◌∷◌, ◌++◌, length, map, take, drop}
use Rattle.std.proofs.Common.{Option, None, Ok, refl, sym, ap, ◌∙◌, subst, append_assoc, arith, leb, add-one}
use Rattle.std.proofs.Common.{length-append}
use Rattle.std.proofs.Math.Nat.{mul-suc}
use Rattle.std.proofs.Math.Seq.{drop-append-add}
use Rattle.sha2.specs.Sha256.{sha256}
use Rattle.sha2.proofs.Facts256.{length-sha256}
use Rattle.std.specs.List.{flat_map, range_with_len}
use Rattle.std.specs.Str.{bytes_eq}
use Rattle.std.proofs.lemmas.Bool.Decides.{nat_tests}
use Rattle.std.proofs.lemmas.List.{map-append}
use Rattle.std.proofs.lemmas.List.FromFn.{get_or-map-range_with_len}
use Rattle.geom_core.specs.declared.limits.TheConstants.{PAGE_BYTES}
use Rattle.dag_core.specs.declared.counts.Counts.{Counts}
use Rattle.dag_core.specs.declared.dags.Dag.{Dag}
use Rattle.dag_core.specs.declared.heads.Heads.{Heads}
use Rattle.dag_core.specs.Ranges.{AreCountsInRange, counts_of}
use Rattle.dag_core.specs.TriangleRules.{IsLaidOut}
use Rattle.page_codec.specs.declared.pages.Page.{Page}
use Rattle.page_codec.specs.declared.directories.Directory.{Directory}
use Rattle.page_codec.specs.Numbers.{numbers_bytes}
use Rattle.page_codec.specs.Breaks.{first_directory_break, first_page_break}
use Rattle.page_codec.specs.Reading.{directory_of, page_of}
use Rattle.page_codec.specs.Spelling.{page_in, page_bytes, page_digest, directory_bytes, directory_length, directory_in}
use Rattle.page_codec.specs.Spelling.{directory_digest, counts_numbers, counts_bytes, header_bytes, header_in}
use Rattle.page_codec.specs.Spelling.{file_bytes, page_at}
use Rattle.page_codec.proofs.DirectorySpelt.{directory_of-spelt, first_directory_break-spelt}
use Rattle.page_codec.proofs.PageSpelt.{first_page_break-spelt}
use Rattle.page_codec.proofs.FileLaws.{FitsPage-in, FitsDirectory-in, page_of-in, header_of-in, length-page_bytes}
use Rattle.page_codec.proofs.FileLaws.{length-directory_bytes}
use Rattle.page_codec.proofs.Homes.{range-append}
use Rattle.page_codec.proofs.NumberLaws.{length-numbers_bytes}
use Rattle.page_codec.proofs.SpeltLaws.{and-right}
use Rattle.page_file.specs.declared.open_faults.OpenFault.{OpenFault}
use Rattle.page_file.specs.Internal.Seen.{StandsAt}
use Rattle.page_file.specs.Judging.{judged, rules_fault, first_bad_count, header_fault, header_judged, digest_found}
use Rattle.page_file.specs.Judging.{directory_fault, directory_judged, stated_digest, page_digest_found, page_fault}
use Rattle.page_file.specs.Judging.{page_judged}
use Rattle.page_file.specs.Opening.{directory_opened, page_opened, pages_opened, opening, root_pages}
use Rattle.page_file.proofs.Rules.{rules-kept}
use Rattle.page_file.proofs.Steps.{directory-seen, page-seen, pages-next}
use Rattle.page_file.proofs.Texts.{stands-from}

-- ---- tests that hold

bytes_eq-same : (bytes : List ℕ) → bytes_eq bytes bytes ≡ true
bytes_eq-same [] = refl
bytes_eq-same (b ∷ bytes) = grind (arith, nat_tests, bytes_eq-same bytes)

counts-kept : (counts : Counts) → AreCountsInRange counts → first_bad_count counts ≡ None
unfolding first_bad_count
counts-kept counts range = rw (range.groups, range.clusters, range.pages, range.roots, range.sources) refl

-- ---- the header

header-kept : (dag : Dag) → IsLaidOut dag → header_fault (header_bytes (header_in dag)) ≡ None
unfolding header_fault header_in
header-kept dag laid = rw (header_of-in dag laid, counts-kept (counts_of dag.heads) laid.range.counts) refl

header-reads : (dag : Dag) → IsLaidOut dag → header_judged (header_bytes (header_in dag)) ≡ Ok (header_in dag)
header-reads dag laid = rw (header-kept dag laid, header_of-in dag laid) refl

length-header : (dag : Dag) → length (header_bytes (header_in dag)) ≡ 64
unfolding header_in counts_bytes
length-header dag =
    let counts = numbers_bytes (counts_numbers 1 (counts_of dag.heads)) in
    let digest = directory_digest 1 (counts_of dag.heads) (directory_bytes (directory_in dag)) in
    omega (
      arith,
      length-append counts digest,
      length-numbers_bytes (counts_numbers 1 (counts_of dag.heads)),
      length-sha256 (counts ++ directory_bytes (directory_in dag)),
    )

counts-in : (dag : Dag) → (header_in dag).counts ≡ counts_of dag.heads
unfolding header_in
counts-in dag = refl

-- ---- the directory

pub heads-in : (dag : Dag) → (directory_in dag).heads ≡ dag.heads
unfolding directory_in
heads-in dag = refl

directory-unbroken : (dag : Dag) → IsLaidOut dag →
    first_directory_break (counts_of dag.heads) (directory_bytes (directory_in dag)) ≡ None
directory-unbroken dag laid =
    subst (λ (heads : Heads). first_directory_break (counts_of heads) (directory_bytes (directory_in dag)) ≡ None)
    (heads-in dag)
    (first_directory_break-spelt (directory_in dag) (FitsDirectory-in dag laid))

directory-back : (dag : Dag) → IsLaidOut dag →
    directory_of (counts_of dag.heads) (directory_bytes (directory_in dag)) ≡ directory_in dag
directory-back dag laid =
    subst (λ (heads : Heads). directory_of (counts_of heads) (directory_bytes (directory_in dag)) ≡ directory_in dag)
    (heads-in dag)
    (directory_of-spelt (directory_in dag) (FitsDirectory-in dag laid))

rules-in : (dag : Dag) → IsLaidOut dag →
    rules_fault (directory_of (counts_of dag.heads) (directory_bytes (directory_in dag))).heads ≡ None
rules-in dag laid =
    ap (λ (directory : Directory). rules_fault directory.heads) (directory-back dag laid) ∙
    ap rules_fault (heads-in dag) ∙ rules-kept dag.heads laid.rules

directory-kept : (dag : Dag) → IsLaidOut dag →
    directory_fault (header_in dag) (directory_bytes (directory_in dag)) ≡ None
unfolding directory_fault digest_found header_in
directory-kept dag laid =
    let text = directory_bytes (directory_in dag) in
    rw (bytes_eq-same (directory_digest 1 (counts_of dag.heads) text), directory-unbroken dag laid, rules-in dag laid)
    refl

directory-reads : (dag : Dag) → IsLaidOut dag →
    directory_judged (header_in dag) (directory_bytes (directory_in dag)) ≡ Ok (directory_in dag)
directory-reads dag laid =
    let text = directory_bytes (directory_in dag) in
    ap (λ (fault : Option OpenFault). judged fault (directory_of (header_in dag).counts text)) (directory-kept dag laid)
    ∙ ap (λ (counts : Counts). Ok (directory_of counts text)) (counts-in dag) ∙
    ap (λ (directory : Directory). Ok directory) (directory-back dag laid)

length-directory : (dag : Dag) → IsLaidOut dag →
    length (directory_bytes (directory_in dag)) ≡ directory_length (counts_of dag.heads)
length-directory dag laid =
    length-directory_bytes (directory_in dag) (FitsDirectory-in dag laid) ∙
    ap (λ (heads : Heads). directory_length (counts_of heads)) (heads-in dag)

-- ---- the pages

piece-stands : (f : ℕ → List ℕ) (size a n p : ℕ) (more : List ℕ) → ((q : ℕ) → a ≤ q → q < a + n → length (f q) ≡ size) →
    p < n
    → StandsAt (size * p) (f (a + p)) (flat_map f (range_with_len a n) ++ more)
piece-stands f size a zero p more sized below = absurd (omega arith)
piece-stands f size a (suc n) zero more sized below =
    let none : 0 ≡ size * 0 = omega arith in
    let same : a ≡ a + 0 = omega arith in
    let all = flat_map f (range_with_len a (suc n)) ++ more in
    subst (λ (k : ℕ). StandsAt k (f (a + 0)) all) none (subst (λ (k : ℕ). StandsAt 0 (f k) all) same
    (stands-from 0 (f a) (flat_map f (range_with_len (a + 1) n) ++ more) all
    (append_assoc (f a) (flat_map f (range_with_len (a + 1) n)) more)))
piece-stands f size a (suc n) (suc p) more sized below =
    let rest = flat_map f (range_with_len (a + 1) n) ++ more in
    let all = flat_map f (range_with_len a (suc n)) ++ more in
    let place : size * suc p ≡ length (f a) + size * p =
    mul-suc size p ∙ omega (arith, sized a (omega arith) (omega arith)) in
    let same : (a + 1) + p ≡ a + suc p = omega arith in
    let step : drop (size * suc p) all ≡ drop (size * p) rest =
    ap (drop (size * suc p)) (append_assoc (f a) (flat_map f (range_with_len (a + 1) n)) more) ∙
    ap (λ (k : ℕ). drop k (f a ++ rest)) place ∙ drop-append-add (f a) rest (size * p) in
    subst (λ (k : ℕ). StandsAt (size * suc p) (f k) all) same
    (ap (take (length (f ((a + 1) + p)))) step ∙
    piece-stands f size (a + 1) n p more (λ q from to. sized q (omega arith) (omega arith)) (omega arith))

-- the header and the directory, then the pages, then more
file-is : (dag : Dag) (more : List ℕ) → file_bytes dag ++ more ≡
    (header_bytes (header_in dag) ++ directory_bytes (directory_in dag)) ++
    (flat_map (λ p. page_bytes (page_in dag p)) (range_with_len 0 dag.heads.pages) ++ more)
unfolding file_bytes
file-is dag more =
    append_assoc (header_bytes (header_in dag) ++ directory_bytes (directory_in dag))
    (flat_map (λ p. page_bytes (page_in dag p)) (range_with_len 0 dag.heads.pages)) more

page-stands : (dag : Dag) (more : List ℕ) → IsLaidOut dag → (p : ℕ) → p < dag.heads.pages →
    StandsAt (page_at (counts_of dag.heads) p) (page_bytes (page_in dag p)) (file_bytes dag ++ more)
page-stands dag more laid p below =
    let head = header_bytes (header_in dag) ++ directory_bytes (directory_in dag) in
    let f : ℕ → List ℕ = λ p. page_bytes (page_in dag p) in
    let rest = flat_map f (range_with_len 0 dag.heads.pages) ++ more in
    let place : page_at (counts_of dag.heads) p ≡ length head + PAGE_BYTES * p =
    omega (
      arith,
      length-append (header_bytes (header_in dag)) (directory_bytes (directory_in dag)),
      length-header dag,
      length-directory dag laid,
    ) in
    let step : drop (page_at (counts_of dag.heads) p) (file_bytes dag ++ more) ≡ drop (PAGE_BYTES * p) rest =
    ap (drop (page_at (counts_of dag.heads) p)) (file-is dag more) ∙ ap (λ (k : ℕ). drop k (head ++ rest)) place ∙
    drop-append-add head rest (PAGE_BYTES * p) in
    let first : 0 + p ≡ p = omega arith in
    ap (take (length (f p))) step
    ∙ subst (λ (k : ℕ). StandsAt (PAGE_BYTES * p) (f k) rest) first
    (piece-stands f PAGE_BYTES 0 dag.heads.pages p more
    (λ q from to. length-page_bytes dag laid q (omega arith)) below)

stated-in : (dag : Dag) (p : ℕ) → p < dag.heads.pages → stated_digest (directory_in dag) p ≡ page_digest dag p
unfolding directory_in
stated-in dag p below =
    get_or-map-range_with_len (page_digest dag) 0 dag.heads.pages p p (record { bytes = [] }) below (omega arith)

number-in : (dag : Dag) (p : ℕ) → (page_in dag p).number ≡ p
unfolding page_in
number-in dag p = refl

sources-most : (counts : Counts) → AreCountsInRange counts → counts.sources ≤ 1048576
sources-most counts range =
    let h = and-right (leb 1 counts.sources) (leb counts.sources 1048576) range.sources in grind (arith, nat_tests)

page-unbroken : (dag : Dag) → IsLaidOut dag → (p : ℕ) →
    first_page_break (directory_in dag).heads p (page_bytes (page_in dag p)) ≡ None
page-unbroken dag laid p =
    ap (λ (heads : Heads). first_page_break heads p (page_bytes (page_in dag p))) (heads-in dag)
    ∙ ap (λ (n : ℕ). first_page_break dag.heads n (page_bytes (page_in dag p))) (sym (number-in dag p))
    ∙ first_page_break-spelt dag.heads (page_in dag p) (sources-most (counts_of dag.heads) laid.range.counts)
    (FitsPage-in dag laid p)

page-kept : (dag : Dag) → IsLaidOut dag → (p : ℕ) → p < dag.heads.pages →
    page_fault (directory_in dag) p (page_bytes (page_in dag p)) ≡ None
unfolding page_fault page_digest_found
page-kept dag laid p below =
    rw (stated-in dag p below, bytes_eq-same (sha256 (page_bytes (page_in dag p))), page-unbroken dag laid p) refl

page-reads : (dag : Dag) → IsLaidOut dag → (p : ℕ) → p < dag.heads.pages →
    page_judged (directory_in dag) p (page_bytes (page_in dag p)) ≡ Ok (page_in dag p)
page-reads dag laid p below =
    let text = page_bytes (page_in dag p) in
    ap (λ (fault : Option OpenFault). judged fault (page_of (directory_in dag).heads p text))
    (page-kept dag laid p below)
    ∙ ap (λ (heads : Heads). Ok (page_of heads p text)) (heads-in dag) ∙
    ap (λ (page : Page). Ok page) (page_of-in dag laid p)

page-opens : (dag : Dag) (more : List ℕ) → IsLaidOut dag → (p : ℕ) → p < dag.heads.pages →
    page_opened (directory_in dag) p (file_bytes dag ++ more) ≡ Ok (page_in dag p)
page-opens dag more laid p below =
    page-seen (directory_in dag) p (page_bytes (page_in dag p)) (file_bytes dag ++ more)
    (length-page_bytes dag laid p below)
    (subst (λ (heads : Heads). StandsAt (page_at (counts_of heads) p) (page_bytes (page_in dag p))
    (file_bytes dag ++ more)) (sym (heads-in dag)) (page-stands dag more laid p below))
    ∙ page-reads dag laid p below

-- the pages before page n, and page n
pages-before : (dag : Dag) (n : ℕ) → map (page_in dag) (range_with_len 0 n) ++ page_in dag n ∷ [] ≡ map (page_in dag)
    (range_with_len 0 (suc n))
pages-before dag n =
    let here : 0 + n ≡ n = omega arith in
    let last : range_with_len 0 (n + 1) ≡ range_with_len 0 n ++ n ∷ [] =
    range-append 0 n 1 ∙ ap (λ (k : ℕ). range_with_len 0 n ++ k ∷ []) here in
    sym (map-append (page_in dag) (range_with_len 0 n) (n ∷ [])) ∙ ap (map (page_in dag)) (sym last) ∙
    ap (λ (k : ℕ). map (page_in dag) (range_with_len 0 k)) (add-one n)

pages-open : (dag : Dag) (more : List ℕ) → IsLaidOut dag → (n : ℕ) → n ≤ dag.heads.pages →
    pages_opened (directory_in dag) n (file_bytes dag ++ more) ≡ Ok (map (page_in dag) (range_with_len 0 n))
pages-open dag more laid zero within = refl
pages-open dag more laid (suc n) within =
    pages-next (directory_in dag) n (file_bytes dag ++ more) (map (page_in dag) (range_with_len 0 n)) (page_in dag n)
    (pages-open dag more laid n (omega arith)) (page-opens dag more laid n (omega arith))
    ∙ ap (λ (pages : List Page). Ok pages) (pages-before dag n)

-- ---- the whole file

directory-opens : (dag : Dag) (more : List ℕ) → IsLaidOut dag →
    directory_opened (file_bytes dag ++ more) ≡ Ok (directory_in dag)
directory-opens dag more laid =
    let head = header_bytes (header_in dag) in
    let text = directory_bytes (directory_in dag) in
    let rest = flat_map (λ p. page_bytes (page_in dag p)) (range_with_len 0 dag.heads.pages) ++ more in
    directory-seen (header_in dag) head text (file_bytes dag ++ more) (length-header dag) (header-reads dag laid)
    (length-directory dag laid ∙ ap directory_length (sym (counts-in dag)))
    (stands-from 0 (head ++ text) rest (file_bytes dag ++ more) (file-is dag more))
    ∙ directory-reads dag laid

roots-most : (counts : Counts) → AreCountsInRange counts → counts.roots ≤ counts.pages
roots-most counts range =
    let h = and-right (leb 1 counts.roots) (leb counts.roots counts.pages) range.roots in grind (arith, nat_tests)

-- as many pages as there are, or fewer
pub opening-written-by : (which : Counts → ℕ) (dag : Dag) (more : List ℕ) → IsLaidOut dag →
    which (counts_of dag.heads) ≤ dag.heads.pages → opening which (file_bytes dag ++ more) ≡ Ok (record {
      directory = directory_in dag;
      roots = map (page_in dag) (range_with_len 0 (which (counts_of dag.heads)));
    })
unfolding opening
opening-written-by which dag more laid within =
    let n = which (counts_of dag.heads) in
    let pages : pages_opened (directory_in dag) (which (counts_of (directory_in dag).heads))
    (file_bytes dag ++ more) ≡ Ok (map (page_in dag) (range_with_len 0 n)) =
    ap (λ (heads : Heads). pages_opened (directory_in dag) (which (counts_of heads)) (file_bytes dag ++ more))
    (heads-in dag)
    ∙ pages-open dag more laid n within in
    rw (directory-opens dag more laid, pages) refl

pub opening-written : (dag : Dag) (more : List ℕ) → IsLaidOut dag
    → opening root_pages (file_bytes dag ++ more) ≡ Ok
    (record { directory = directory_in dag; roots = map (page_in dag) (range_with_len 0 dag.heads.roots) })
opening-written dag more laid =
    opening-written-by root_pages dag more laid (roots-most (counts_of dag.heads) laid.range.counts)

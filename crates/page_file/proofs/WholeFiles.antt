-- What opens with all its pages is the file of a laid-out DAG with the directory's heads and the pages' triangles.
use Rattle.std.proofs.Common.{◌≡◌, ◌<◌, ◌+◌, ℕ, suc, Bool, true, eqb, List, [], ◌∷◌, ◌++◌, length, map}
use Rattle.std.proofs.Common.{get_or, Option, refl, sym, ap, ◌∙◌, subst, arith}
use Rattle.std.proofs.lemmas.Bool.Decides.{nat_tests}
use Rattle.std.proofs.lemmas.List.{ext_get_or, get_or-map, length-map}
use Rattle.std.proofs.lemmas.List.FromFn.{get_or-map-range_with_len, length-map-range_with_len}
use Rattle.std.specs.List.{All, flat_map, range_with_len, list_any}
use Rattle.std.specs.Option.{unwrap_or}
use Rattle.sha2.specs.Sha256.{sha256}
use Rattle.geom_core.specs.declared.digests.Digest32.{Digest32}
use Rattle.geom_core.specs.declared.triangles.Tagged.{Tagged}
use Rattle.dag_core.specs.declared.dags.Dag.{Dag}
use Rattle.dag_core.specs.declared.heads.Heads.{Heads}
use Rattle.dag_core.specs.Members.{cluster_at, no_cluster}
use Rattle.dag_core.specs.Pages.{clusters_on, page_of_cluster}
use Rattle.dag_core.specs.Rules.{Checked}
use Rattle.dag_core.specs.TriangleRules.{IsLaidOut, IsSourcedTriangle}
use Rattle.dag_core.specs.Triangles.{tris_at}
use Rattle.page_codec.specs.declared.directories.Directory.{Directory}
use Rattle.page_codec.specs.declared.headers.Header.{Header}
use Rattle.page_codec.specs.declared.pages.Page.{Page}
use Rattle.page_codec.specs.declared.pages.PageCluster.{PageCluster}
use Rattle.page_codec.specs.Fits.{FitsDirectory}
use Rattle.page_codec.specs.Lookups.{tris_with}
use Rattle.page_codec.specs.Reading.{page_of}
use Rattle.page_codec.specs.Spelling.{directory_bytes, directory_in, file_bytes, header_bytes, header_in, page_bytes}
use Rattle.page_codec.specs.Spelling.{page_cluster, page_digest, page_in}
use Rattle.page_file.specs.IsOpened.{ArePagesOf, IsPageOf}
use Rattle.page_file.specs.Internal.Fronts.{front_bytes, header_by}
use Rattle.page_file.specs.Verifying.{dag_on, no_page, stored_tris}
use Rattle.page_file.proofs.PageClusters.{Each, Ascends, IsFound, numbers, each-weaker, each-both, each-map}
use Rattle.page_file.proofs.PageClusters.{ascends-filter, each-filter, each-found, found-has, clusters-found}
use Rattle.page_file.proofs.StoredDags.{listed-on, page-below}

each-all : {X : Type 0} (P : X → Type 0) (xs : List X) → All P xs → Each P xs
each-all P [] all = tt
each-all P (x ∷ xs) all =
    (all 0 x (omega arith), each-all P xs (λ i none below. all (suc i) none (omega (arith, below))))

-- ---- one page

number-of : (directory : Directory) (p : ℕ) (page : Page) → IsPageOf directory p page → page.number ≡ p
unfolding page_of
number-of directory p page is = ap (λ (page : Page). page.number) (sym is.reads)

pub numbers-of : (directory : Directory) (p : ℕ) (page : Page) → IsPageOf directory p page →
    numbers page.clusters ≡ clusters_on directory.heads p
numbers-of directory p page is =
    is.fits.clusters ∙ ap (clusters_on directory.heads) (number-of directory p page is)

-- each cluster of a page is found on it
page-found : (directory : Directory) (p : ℕ) (page : Page) → IsPageOf directory p page →
    Each (IsFound page.clusters) page.clusters
page-found directory p page is =
    each-found page.clusters 0 (subst (Ascends 0) (sym (numbers-of directory p page is))
    (ascends-filter (λ c. eqb (page_of_cluster directory.heads c) p) 0 (length directory.heads.clusters)))

-- a cluster of page p is one of the heads, and its home is on page p
abbrev pub IsOn : Heads → ℕ → ℕ → Type 0
IsOn heads p c = (page_of_cluster heads c ≡ p) × (c < length heads.clusters)

pub page-on : (directory : Directory) (p : ℕ) (page : Page) → IsPageOf directory p page →
    Each (λ (cluster : PageCluster). IsOn directory.heads p cluster.number) page.clusters
page-on directory p page is =
    let heads = directory.heads in
    let n = length heads.clusters in
    let test : ℕ → Bool = λ c. eqb (page_of_cluster heads c) p in
    let listed : Each (IsOn heads p) (clusters_on heads p) =
    each-weaker (λ c. (test c ≡ true) × (c < 0 + n)) (IsOn heads p) (clusters_on heads p)
    (λ c both. (same c both.0, omega (arith, both.1))) (each-filter test 0 n) in
    each-map (λ (cluster : PageCluster). cluster.number) (IsOn heads p) page.clusters
    (subst (Each (IsOn heads p)) (sym (numbers-of directory p page is)) listed)
  where
    same : (c : ℕ) → eqb (page_of_cluster directory.heads c) p ≡ true → page_of_cluster directory.heads c ≡ p
    same c test = grind (arith, nat_tests)

-- ---- the DAG on the pages

stored-is : (heads : Heads) (pages : List Page) (c : ℕ) (none : List Tagged) → c < length heads.clusters →
    get_or (dag_on heads pages).tris c none ≡ stored_tris heads pages c
unfolding dag_on
stored-is heads pages c none below =
    get_or-map-range_with_len (stored_tris heads pages) 0 (length heads.clusters) c c none below (omega arith)

pub stored-each : (directory : Directory) (pages : List Page) → ArePagesOf directory directory.heads.pages pages →
    (p : ℕ) → p < directory.heads.pages →
    Each (λ (cluster : PageCluster). tris_at (dag_on directory.heads pages) cluster.number ≡ cluster.tris)
    (get_or pages p no_page).clusters
stored-each directory pages are p below =
    let heads = directory.heads in
    let page = get_or pages p no_page in
    let is = are.each p no_page below in
    each-both (λ (cluster : PageCluster). IsOn heads p cluster.number) (IsFound page.clusters)
    (λ (cluster : PageCluster). tris_at (dag_on heads pages) cluster.number ≡ cluster.tris) page.clusters
    (λ cluster on found.
    stored-is heads pages cluster.number [] on.1
    ∙ ap (λ (q : ℕ). unwrap_or (tris_with cluster.number (get_or pages q no_page).clusters) []) on.0
    ∙ ap (λ (tris : Option (List Tagged)). unwrap_or tris []) found)
    (page-on directory p page is) (page-found directory p page is)

page-is : (directory : Directory) (pages : List Page) → ArePagesOf directory directory.heads.pages pages →
    (p : ℕ) → p < directory.heads.pages → page_in (dag_on directory.heads pages) p ≡ get_or pages p no_page
unfolding page_in dag_on
page-is directory pages are p below =
    let dag = dag_on directory.heads pages in
    let page = get_or pages p no_page in
    let is = are.each p no_page below in
    let clusters : map (page_cluster dag) (clusters_on directory.heads p) ≡ page.clusters =
    ap (map (page_cluster dag)) (sym (numbers-of directory p page is))
    ∙ clusters-found (tris_at dag) page.clusters (stored-each directory pages are p below) in
    ap (λ (cs : List PageCluster). record { number = p; clusters = cs }) clusters
    ∙ ap (λ (n : ℕ). record { number = n; clusters = page.clusters }) (sym (number-of directory p page is))

pages-are : (directory : Directory) (pages : List Page) → ArePagesOf directory directory.heads.pages pages →
    pages ≡ map (page_in (dag_on directory.heads pages)) (range_with_len 0 directory.heads.pages)
pages-are directory pages are =
    let dag = dag_on directory.heads pages in
    let n = directory.heads.pages in
    ext_get_or no_page pages (map (page_in dag) (range_with_len 0 n))
    (are.count ∙ sym (length-map-range_with_len (page_in dag) 0 n))
    (λ p below. let small : p < n = omega (arith, below, are.count) in
    sym (page-is directory pages are p small)
    ∙ sym (get_or-map-range_with_len (page_in dag) 0 n p p no_page small (omega arith)))

digests-are : (directory : Directory) (pages : List Page) → FitsDirectory directory →
    ArePagesOf directory directory.heads.pages pages →
    directory.digests ≡ map (page_digest (dag_on directory.heads pages)) (range_with_len 0 directory.heads.pages)
digests-are directory pages fits are =
    let dag = dag_on directory.heads pages in
    let n = directory.heads.pages in
    let none : Digest32 = record { bytes = [] } in
    ext_get_or none directory.digests (map (page_digest dag) (range_with_len 0 n))
    (fits.digest_count ∙ sym (length-map-range_with_len (page_digest dag) 0 n))
    (λ p below. let small : p < n = omega (arith, below, fits.digest_count) in
    let is = are.each p no_page small in
    ap (λ (bytes : List ℕ). record { bytes = bytes }) (sym is.digest ∙ ap sha256 (sym is.spelt)
    ∙ ap (λ (page : Page). sha256 (page_bytes page)) (sym (page-is directory pages are p small)))
    ∙ sym (get_or-map-range_with_len (page_digest dag) 0 n p p none small (omega arith)))

pub directory-is : (directory : Directory) (pages : List Page) → FitsDirectory directory →
    ArePagesOf directory directory.heads.pages pages → directory ≡ directory_in (dag_on directory.heads pages)
unfolding directory_in dag_on
directory-is directory pages fits are =
    ap (λ (digests : List Digest32). record { heads = directory.heads; digests = digests })
    (digests-are directory pages fits are)

-- ---- it is laid out

-- what the pages say of a cluster's triangles
abbrev pub IsStored : Heads → ℕ → List Tagged → Type 0
IsStored heads c tris = (length tris ≡ (cluster_at heads c).tris) × All (IsSourcedTriangle heads.sources) tris

is-stored : (directory : Directory) (pages : List Page) → FitsDirectory directory → Checked directory.heads →
    ArePagesOf directory directory.heads.pages pages → (c : ℕ) → c < length directory.heads.clusters →
    IsStored directory.heads c (stored_tris directory.heads pages c)
is-stored directory pages fits checked are c below =
    let heads = directory.heads in
    let p = page_of_cluster heads c in
    let page = get_or pages p no_page in
    let is = are.each p no_page (page-below heads c fits.heads checked below) in
    found-has (IsStored heads) page.clusters c
    (each-both (λ (cluster : PageCluster). length cluster.tris ≡ (cluster_at heads cluster.number).tris)
    (λ (cluster : PageCluster). All (IsSourcedTriangle heads.sources) cluster.tris)
    (λ (cluster : PageCluster). IsStored heads cluster.number cluster.tris) page.clusters
    (λ cluster count sourced. (count, sourced))
    (each-all (λ (cluster : PageCluster). length cluster.tris ≡ (cluster_at heads cluster.number).tris)
    page.clusters is.fits.counts)
    (each-all (λ (cluster : PageCluster). All (IsSourcedTriangle heads.sources) cluster.tris)
    page.clusters is.fits.triangles))
    (subst (λ (cs : List ℕ). list_any (λ k. eqb k c) cs ≡ true) (sym (numbers-of directory p page is))
    (listed-on heads c below))

pub lists-count : (heads : Heads) (pages : List Page) → length (dag_on heads pages).tris ≡ length heads.clusters
unfolding dag_on
lists-count heads pages =
    length-map-range_with_len (stored_tris heads pages) 0 (length heads.clusters)

has-tris : (directory : Directory) (pages : List Page) → FitsDirectory directory → Checked directory.heads →
    ArePagesOf directory directory.heads.pages pages →
    map (λ (tris : List Tagged). length tris) (dag_on directory.heads pages).tris
    ≡ map (λ cluster. cluster.tris) directory.heads.clusters
has-tris directory pages fits checked are =
    let heads = directory.heads in
    let dag = dag_on heads pages in
    let sizes = map (λ (tris : List Tagged). length tris) dag.tris in
    let size : length sizes ≡ length heads.clusters =
    length-map dag.tris (λ (tris : List Tagged). length tris) ∙ lists-count heads pages in
    ext_get_or 0 sizes (map (λ cluster. cluster.tris) heads.clusters)
    (size ∙ sym (length-map heads.clusters (λ cluster. cluster.tris)))
    (λ c below. let small : c < length heads.clusters = omega (arith, below, size) in
    get_or-map (λ (tris : List Tagged). length tris) dag.tris c [] 0 (omega (arith, small, lists-count heads pages))
    ∙ ap (λ (tris : List Tagged). length tris) (stored-is heads pages c [] small)
    ∙ (is-stored directory pages fits checked are c small).0
    ∙ sym (get_or-map (λ cluster. cluster.tris) heads.clusters c no_cluster 0 small))

pub is-laid-out : (directory : Directory) (pages : List Page) → FitsDirectory directory → Checked directory.heads →
    ArePagesOf directory directory.heads.pages pages → IsLaidOut (dag_on directory.heads pages)
unfolding dag_on
is-laid-out directory pages fits checked are =
    let heads = directory.heads in
    record {
      range = fits.heads;
      rules = checked;
      counts = has-tris directory pages fits checked are;
      triangles = λ c none below.
          let small : c < length heads.clusters = omega (arith, below, lists-count heads pages) in
          subst (All (IsSourcedTriangle heads.sources)) (sym (stored-is heads pages c none small))
          (is-stored directory pages fits checked are c small).1;
    }

-- ---- its file

flat_map-map : {X : Type 0} (f : ℕ → X) (g : X → List ℕ) (xs : List ℕ) →
    flat_map g (map f xs) ≡ flat_map (λ x. g (f x)) xs
flat_map-map f g [] = refl
flat_map-map f g (x ∷ xs) = ap (λ (rest : List ℕ). g (f x) ++ rest) (flat_map-map f g xs)

header-by-in : (dag : Dag) → header_by (directory_in dag) ≡ header_in dag
unfolding header_by header_in directory_in
header-by-in dag = refl

pub file-of-pages : (directory : Directory) (pages : List Page) → FitsDirectory directory →
    ArePagesOf directory directory.heads.pages pages →
    front_bytes directory ++ flat_map page_bytes pages ≡ file_bytes (dag_on directory.heads pages)
unfolding file_bytes dag_on
file-of-pages directory pages fits are =
    let dag = dag_on directory.heads pages in
    let n = directory.heads.pages in
    let all = flat_map (λ p. page_bytes (page_in dag p)) (range_with_len 0 n) in
    let each : flat_map page_bytes pages ≡ all =
    ap (flat_map page_bytes) (pages-are directory pages are)
    ∙ flat_map-map (page_in dag) page_bytes (range_with_len 0 n) in
    ap (λ (rest : List ℕ). front_bytes directory ++ rest) each
    ∙ ap (λ (found : Directory). front_bytes found ++ all) (directory-is directory pages fits are)
    ∙ ap (λ (header : Header). header_bytes header ++ directory_bytes (directory_in dag) ++ all) (header-by-in dag)

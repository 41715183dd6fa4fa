-- Triangles that are put at their clusters' numbers, page by page, are the triangles of the DAG on the pages.
use Rattle.std.proofs.Common.{◌≡◌, ◌<◌, ◌+◌, ℕ, zero, suc, Bool, true, false, eqb, List, [], ◌∷◌, ◌++◌, length, get_or}
use Rattle.std.proofs.Common.{refl, sym, ap, ◌∙◌, subst, arith, take, drop, replicate, slice_set, map, length-set}
use Rattle.std.proofs.Math.Seq.{take-append_seam, take-suc}
use Rattle.std.proofs.lemmas.Bool.Decides.{nat_tests}
use Rattle.std.proofs.lemmas.List.{ext_get_or, get_or-set_same, get_or-set_other}
use Rattle.std.proofs.lemmas.List.{replicate-append-replicate}
use Rattle.std.specs.List.{list_any}
use Rattle.geom_core.specs.declared.triangles.Tagged.{Tagged}
use Rattle.dag_core.specs.Members.{all_clusters}
use Rattle.dag_core.specs.Pages.{page_of_cluster}
use Rattle.dag_core.specs.Ranges.{IsInRange}
use Rattle.dag_core.specs.Rules.{Checked}
use Rattle.dag_core.specs.Triangles.{tris_at}
use Rattle.page_codec.specs.declared.directories.Directory.{Directory}
use Rattle.page_codec.specs.declared.pages.Page.{Page}
use Rattle.page_codec.specs.declared.pages.PageCluster.{PageCluster}
use Rattle.page_file.specs.IsOpened.{ArePagesOf}
use Rattle.page_file.specs.Internal.PutTris.{put_clusters, put_pages}
use Rattle.page_file.specs.Verifying.{dag_on, no_page, stored_tris}
use Rattle.page_file.proofs.PageClusters.{Each, numbers}
use Rattle.page_file.proofs.StoredDags.{listed-on, page-below}
use Rattle.page_file.proofs.WholeFiles.{lists-count, numbers-of, stored-each}

-- ---- one more

pub lists-more : (n : ℕ) → replicate n [] ++ [] ∷ [] ≡ replicate {A = List Tagged} (n + 1) []
lists-more n = replicate-append-replicate n 1 []

put-last : (lists : List (List Tagged)) (xs : List PageCluster) (x : PageCluster) →
    put_clusters lists (xs ++ x ∷ []) ≡ slice_set (put_clusters lists xs) x.number x.tris
put-last lists [] x = refl
put-last lists (y ∷ xs) x = put-last (slice_set lists y.number y.tris) xs x

pub put-more : (lists : List (List Tagged)) (clusters : List PageCluster) (i : ℕ) (x : PageCluster) →
    i < length clusters → x ≡ get_or clusters i x → put_clusters lists (take (i + 1) clusters)
    ≡ slice_set (put_clusters lists (take i clusters)) x.number x.tris
put-more lists clusters i x below is =
    let next : i + 1 ≡ suc i = omega arith in
    ap (λ (n : ℕ). put_clusters lists (take n clusters)) next
    ∙ ap (put_clusters lists) (take-suc clusters i x below)
    ∙ put-last lists (take i clusters) (get_or clusters i x)
    ∙ ap (λ (y : PageCluster). slice_set (put_clusters lists (take i clusters)) y.number y.tris) (sym is)

pub page-last : (lists : List (List Tagged)) (xs : List Page) (x : Page) →
    put_pages lists (xs ++ x ∷ []) ≡ put_clusters (put_pages lists xs) x.clusters
page-last lists [] x = refl
page-last lists (y ∷ xs) x = page-last (put_clusters lists y.clusters) xs x

-- ---- no list is added

pub length-put : (lists : List (List Tagged)) (clusters : List PageCluster) →
    length (put_clusters lists clusters) ≡ length lists
length-put lists [] = refl
length-put lists (x ∷ xs) = length-put (slice_set lists x.number x.tris) xs ∙ length-set lists x.number x.tris

pub length-put_pages : (lists : List (List Tagged)) (pages : List Page) →
    length (put_pages lists pages) ≡ length lists
length-put_pages lists [] = refl
length-put_pages lists (x ∷ xs) = length-put_pages (put_clusters lists x.clusters) xs ∙ length-put lists x.clusters

-- lists in the place of as many others
pub written-back : (n : ℕ) (lists old : List (List Tagged)) → length lists ≡ length old → n ≡ length old →
    take n (lists ++ drop (length lists) old) ≡ lists
written-back n lists old same size =
    ap (λ (m : ℕ). take m (lists ++ drop (length lists) old)) (size ∙ sym same)
    ∙ take-append_seam lists (drop (length lists) old)

-- ---- what is put

-- each cluster has the triangles that are stored for it
abbrev AreStored : (ℕ → List Tagged) → List PageCluster → Type 0
AreStored stored clusters = Each (λ (cluster : PageCluster). stored cluster.number ≡ cluster.tris) clusters

set-here : (stored : ℕ → List Tagged) (lists : List (List Tagged)) (x : PageCluster) (c : ℕ) → c < length lists →
    stored x.number ≡ x.tris → eqb x.number c ≡ true → get_or (slice_set lists x.number x.tris) c [] ≡ stored c
set-here stored lists x c below is found =
    let same : x.number ≡ c = grind (arith, nat_tests) in
    ap (λ (n : ℕ). get_or (slice_set lists n x.tris) c []) same ∙ get_or-set_same lists c x.tris [] below
    ∙ sym is ∙ ap stored same

set-there : (lists : List (List Tagged)) (x : PageCluster) (c : ℕ) → eqb x.number c ≡ false →
    get_or (slice_set lists x.number x.tris) c [] ≡ get_or lists c []
set-there lists x c other =
    get_or-set_other lists x.number c x.tris [] (λ same. grind (arith, nat_tests))

set-size : (lists : List (List Tagged)) (x : PageCluster) (c : ℕ) → c < length lists →
    c < length (slice_set lists x.number x.tris)
set-size lists x c below = omega (arith, below, length-set lists x.number x.tris)

put-keeps : (stored : ℕ → List Tagged) (clusters : List PageCluster) (lists : List (List Tagged)) (c : ℕ) →
    AreStored stored clusters → c < length lists → get_or lists c [] ≡ stored c →
    get_or (put_clusters lists clusters) c [] ≡ stored c
put-keeps stored [] lists c each below is = is
put-keeps stored (x ∷ xs) lists c (here, rest) below is =
    put-keeps stored xs (slice_set lists x.number x.tris) c rest (set-size lists x c below)
    (go (eqb x.number c) refl)
  where
    go : (b : Bool) → eqb x.number c ≡ b → get_or (slice_set lists x.number x.tris) c [] ≡ stored c
    go true found = set-here stored lists x c below here found
    go false other = set-there lists x c other ∙ is

put-puts : (stored : ℕ → List Tagged) (clusters : List PageCluster) (lists : List (List Tagged)) (c : ℕ) →
    AreStored stored clusters → c < length lists → list_any (λ k. eqb k c) (numbers clusters) ≡ true →
    get_or (put_clusters lists clusters) c [] ≡ stored c
put-puts stored [] lists c each below listed = cc
put-puts stored (x ∷ xs) lists c (here, rest) below listed =
    go (eqb x.number c) refl (λ more.
    put-puts stored xs (slice_set lists x.number x.tris) c rest (set-size lists x c below) more)
  where
    later : eqb x.number c ≡ false → list_any (λ k. eqb k c) (numbers (x ∷ xs)) ≡ true →
        list_any (λ k. eqb k c) (numbers xs) ≡ true
    later e any = grind (arith, nat_tests)

    go : (b : Bool) → eqb x.number c ≡ b → (list_any (λ k. eqb k c) (numbers xs) ≡ true →
        get_or (put_clusters lists (x ∷ xs)) c [] ≡ stored c) → get_or (put_clusters lists (x ∷ xs)) c [] ≡ stored c
    go true found next = put-keeps stored xs (slice_set lists x.number x.tris) c rest (set-size lists x c below)
        (set-here stored lists x c below here found)
    go false other next = next (later other listed)

-- ---- pages

-- each cluster of each page has the triangles that are stored for it
abbrev ArePagesStored : (ℕ → List Tagged) → List Page → Type 0
ArePagesStored stored pages =
    (p : ℕ) → p < length pages → AreStored stored (get_or pages p no_page).clusters

pages-keep : (stored : ℕ → List Tagged) (pages : List Page) (lists : List (List Tagged)) (c : ℕ) →
    ArePagesStored stored pages → c < length lists → get_or lists c [] ≡ stored c →
    get_or (put_pages lists pages) c [] ≡ stored c
pages-keep stored [] lists c each below is = is
pages-keep stored (x ∷ xs) lists c each below is =
    pages-keep stored xs (put_clusters lists x.clusters) c (λ p less. each (suc p) (omega (arith, less)))
    (omega (arith, below, length-put lists x.clusters))
    (put-keeps stored x.clusters lists c (each 0 (omega arith)) below is)

pages-put : (stored : ℕ → List Tagged) (pages : List Page) (lists : List (List Tagged)) (c p : ℕ) →
    ArePagesStored stored pages → c < length lists → p < length pages →
    list_any (λ k. eqb k c) (numbers (get_or pages p no_page).clusters) ≡ true →
    get_or (put_pages lists pages) c [] ≡ stored c
pages-put stored [] lists c p each below less listed = absurd (omega arith)
pages-put stored (x ∷ xs) lists c zero each below less listed =
    pages-keep stored xs (put_clusters lists x.clusters) c (λ p less. each (suc p) (omega (arith, less)))
    (omega (arith, below, length-put lists x.clusters))
    (put-puts stored x.clusters lists c (each 0 (omega arith)) below listed)
pages-put stored (x ∷ xs) lists c (suc p) each below less listed =
    pages-put stored xs (put_clusters lists x.clusters) c p (λ q less. each (suc q) (omega (arith, less)))
    (omega (arith, below, length-put lists x.clusters)) (omega (arith, less)) listed

-- ---- all pages of a file

tris-put : (directory : Directory) (pages : List Page) (lists : List (List Tagged)) → IsInRange directory.heads →
    Checked directory.heads → ArePagesOf directory directory.heads.pages pages →
    length lists ≡ length directory.heads.clusters →
    put_pages lists pages ≡ (dag_on directory.heads pages).tris
tris-put directory pages lists range checked are size =
    let heads = directory.heads in
    let dag = dag_on heads pages in
    let put = put_pages lists pages in
    let count : length put ≡ length heads.clusters = length-put_pages lists pages ∙ size in
    ext_get_or [] put dag.tris (count ∙ sym (lists-count heads pages))
    (λ c below.
    let p = page_of_cluster heads c in
    let small : c < length heads.clusters = omega (arith, below, count) in
    let on : p < heads.pages = page-below heads c range checked small in
    pages-put (tris_at dag) pages lists c p
    (λ q less. stored-each directory pages are q (omega (arith, less, are.count)))
    (omega (arith, small, size)) (omega (arith, on, are.count))
    (subst (λ (cs : List ℕ). list_any (λ k. eqb k c) cs ≡ true)
    (sym (numbers-of directory p (get_or pages p no_page) (are.each p no_page on)))
    (listed-on heads c small)))

pub tris-are : (directory : Directory) (pages : List Page) (lists : List (List Tagged)) → IsInRange directory.heads →
    Checked directory.heads → ArePagesOf directory directory.heads.pages pages →
    length lists ≡ length directory.heads.clusters →
    put_pages lists pages ≡ map (stored_tris directory.heads pages) (all_clusters directory.heads)
unfolding dag_on
tris-are directory pages lists range checked are size = tris-put directory pages lists range checked are size

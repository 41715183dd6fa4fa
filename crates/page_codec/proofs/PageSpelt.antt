-- A page that fits its heads breaks no rule as it is spelt, and reads back.
use Rattle.std.proofs.Common.{◌≡◌, ℕ, zero, suc, ◌+◌, ◌-◌, ◌*◌, ◌≤◌, None, List, [], ◌∷◌, ◌++◌, length, map, replicate}
use Rattle.std.proofs.Common.{drop, refl, sym, ap, ◌∙◌, arith}
use Rattle.std.specs.List.{All, flat_map, sum_by}
use Rattle.std.proofs.lemmas.Grind.{flat_map-append, common_steps}
use Rattle.std.proofs.lemmas.List.{length-append, drop_at}
use Rattle.std.proofs.lemmas.List.Elements.{All-nil, All-head, All-tail, All-append}
use Rattle.geom_core.specs.declared.limits.TheConstants.{PAGE_BYTES}
use Rattle.geom_core.specs.declared.triangles.Tagged.{Tagged}
use Rattle.dag_core.specs.declared.heads.Heads.{Heads}
use Rattle.dag_core.specs.Members.{cluster_at}
use Rattle.dag_core.specs.Pages.{clusters_on, tris_on}
use Rattle.dag_core.specs.TriangleRules.{IsSourcedTriangle}
use Rattle.page_codec.specs.declared.pages.PageCluster.{PageCluster}
use Rattle.page_codec.specs.declared.pages.Page.{Page}
use Rattle.page_codec.specs.Records.{triangle_bytes, triangle_of}
use Rattle.page_codec.specs.Breaks.{breaks_in, triangle_rules, tail_breaks, page_breaks, first_of, first_page_break}
use Rattle.page_codec.specs.Fits.{FitsPage}
use Rattle.page_codec.specs.Reading.{page_of, clusters_of}
use Rattle.page_codec.specs.Spelling.{cluster_bytes, clusters_bytes, tail_bytes, page_bytes}
use Rattle.page_codec.proofs.ClusterBytes.{length-triangle_bytes}
use Rattle.page_codec.proofs.RecordLaws.{breaks_in-spelt}
use Rattle.page_codec.proofs.SpeltLaws.{triangle_rules-spelt, clusters_of-spelt}

-- all triangles of the clusters
abbrev pub all_tris : List PageCluster → List Tagged
all_tris clusters = flat_map (λ cluster. cluster.tris) clusters

pub clusters_bytes-all : (clusters : List PageCluster) →
    clusters_bytes clusters ≡ flat_map triangle_bytes (all_tris clusters)
unfolding cluster_bytes
clusters_bytes-all [] = refl
clusters_bytes-all (cluster ∷ clusters) =
    ap (λ xs. flat_map triangle_bytes cluster.tris ++ xs) (clusters_bytes-all clusters) ∙
    sym (flat_map-append triangle_bytes cluster.tris (all_tris clusters))

pub length-all_tris : (heads : Heads) (clusters : List PageCluster) →
    All (λ cluster. length cluster.tris ≡ (cluster_at heads cluster.number).tris) clusters
    → length (all_tris clusters) ≡ sum_by (λ c. (cluster_at heads c).tris) (map (λ cluster. cluster.number) clusters)
length-all_tris heads [] counts = refl
length-all_tris heads (cluster ∷ clusters) counts =
    let P : PageCluster → Type 0 = λ cluster. length cluster.tris ≡ (cluster_at heads cluster.number).tris in
    let f : ℕ → ℕ = λ c. (cluster_at heads c).tris in
    let numbers : List ℕ = map (λ cluster. cluster.number) clusters in
    let head : length cluster.tris ≡ f cluster.number = All-head P cluster clusters counts in
    let rest : length (all_tris clusters) ≡ sum_by f numbers =
    length-all_tris heads clusters (All-tail P cluster clusters counts) in
    let sum : sum_by f (cluster.number ∷ numbers) ≡ f cluster.number + sum_by f numbers = grind (arith, common_steps) in
    omega (arith, length-append cluster.tris (all_tris clusters), head, rest, sum)

pub sourced-all_tris : (sources : ℕ) (clusters : List PageCluster) →
    All (λ cluster. All (IsSourcedTriangle sources) cluster.tris) clusters →
    All (IsSourcedTriangle sources) (all_tris clusters)
sourced-all_tris sources [] sourced = All-nil (IsSourcedTriangle sources)
sourced-all_tris sources (cluster ∷ clusters) sourced =
    let P : PageCluster → Type 0 = λ cluster. All (IsSourcedTriangle sources) cluster.tris in
    All-append (IsSourcedTriangle sources) cluster.tris (all_tris clusters) (All-head P cluster clusters sourced)
    (sourced-all_tris sources clusters (All-tail P cluster clusters sourced))

-- zeros break no rule
zeros-kept : (offset n : ℕ) → tail_breaks offset (replicate n 0) ≡ []
unfolding tail_breaks
zeros-kept offset zero = refl
zeros-kept offset (suc n) = zeros-kept (offset + 1) n

length-triangles : (tris : List Tagged) → length (flat_map triangle_bytes tris) ≡ 40 * length tris
length-triangles [] = refl
length-triangles (t ∷ tris) =
    omega (
      arith,
      length-append (triangle_bytes t) (flat_map triangle_bytes tris),
      length-triangle_bytes t,
      length-triangles tris,
    )

-- triangles of a mesh, then zeros, break no rule
pub page_breaks-spelt : (sources n zeros : ℕ) (tris : List Tagged) → sources ≤ 1048576 → n ≡ length tris →
    All (IsSourcedTriangle sources) tris
    → page_breaks sources n (flat_map triangle_bytes tris ++ replicate zeros 0) ≡ []
unfolding page_breaks
page_breaks-spelt sources n zeros tris most count sourced =
    let bytes = flat_map triangle_bytes tris ++ replicate zeros 0 in
    let rules = λ (b : List ℕ). triangle_rules sources (triangle_of b) in
    let kept : breaks_in rules 40 0 n bytes ≡ [] =
    rw count (breaks_in-spelt triangle_bytes 40 rules (IsSourcedTriangle sources) (λ t is. length-triangle_bytes t)
    (λ t is. triangle_rules-spelt sources t most is) tris 0 (replicate zeros 0) sourced) in
    let tail : drop (40 * n) bytes ≡ replicate zeros 0 =
    drop_at (flat_map triangle_bytes tris) (replicate zeros 0) (40 * n) (omega (arith, length-triangles tris)) in
    rw (kept, tail) (zeros-kept (40 * n) zeros)

-- a page that fits its heads breaks no rule
pub first_page_break-spelt : (heads : Heads) (page : Page) → heads.sources ≤ 1048576 → FitsPage heads page →
    first_page_break heads page.number (page_bytes page) ≡ None
unfolding page_bytes tail_bytes tris_on
first_page_break-spelt heads page most fits =
    let f : ℕ → ℕ = λ c. (cluster_at heads c).tris in
    let count : sum_by f (clusters_on heads page.number) ≡ length (all_tris page.clusters) =
    ap (sum_by f) (sym fits.clusters) ∙ sym (length-all_tris heads page.clusters fits.counts) in
    let zeros = PAGE_BYTES - length (clusters_bytes page.clusters) in
    ap first_of (ap (λ body. page_breaks heads.sources (sum_by f (clusters_on heads page.number))
    (body ++ replicate zeros 0)) (clusters_bytes-all page.clusters)
    ∙ page_breaks-spelt heads.sources (sum_by f (clusters_on heads page.number)) zeros
    (all_tris page.clusters) most count (sourced-all_tris heads.sources page.clusters fits.triangles))

-- and reads back
pub page_of-spelt : (heads : Heads) (page : Page) → heads.sources ≤ 1048576 → FitsPage heads page →
    page_of heads page.number (page_bytes page) ≡ page
unfolding page_bytes tail_bytes page_of
page_of-spelt heads page most fits =
    let made : List PageCluster → Page = λ clusters. record { number = page.number; clusters = clusters } in
    ap made
    (ap (λ cs. clusters_of heads cs (clusters_bytes page.clusters ++ replicate
    (PAGE_BYTES - length (clusters_bytes page.clusters)) 0)) (sym fits.clusters)
    ∙ clusters_of-spelt heads page.clusters (replicate (PAGE_BYTES - length (clusters_bytes page.clusters)) 0) most
    fits.counts fits.triangles)

use Rattle.std.proofs.Common.{◌<◌, ◌≤◌, ◌*◌, List, length, sym, ap, ◌∙◌, subst, ℕ, arith}
use Rattle.std.specs.List.{All, sum_by}
use Rattle.dag_core.specs.Members.{cluster_at}
use Rattle.dag_core.specs.Pages.{tris_on}
use Rattle.page_codec.specs.declared.pages.PageCluster.{PageCluster}
use Rattle.page_codec.specs.declared.pages.Page.{Page}
use Rattle.page_codec.specs.Breaks.{first_of, page_breaks}
use Rattle.page_codec.specs.Fits.{FitsPage}
use Rattle.page_codec.specs.Reading.{clusters_of, page_of}
use Rattle.page_codec.specs.Spelling.{page_bytes}
use Rattle.page_codec.proofs.FitsLaws.{FitsPage-read}
use Rattle.page_codec.proofs.PageLaws.{page_bytes-read}
use Rattle.page_codec.proofs.PageRules.{clusters_on-below, tris_on-le}
use Rattle.page_codec.proofs.decode_pages.decode.Goals as goal

pub count_tris-count-requires-clause-cluster_range : goal.count_tris-count-requires-clause-cluster_range
count_tris-count-requires-clause-cluster_range c =
    let heads = c.args.heads.now in
    let P : List ℕ → Type 0 = λ cs. All (λ n. n < length heads.clusters) cs in
    subst P (sym (c.deref.ensures.value ∙ c.in_ok-numbers.ensures.clusters)) (clusters_on-below heads c.args.page)

pub count_tris-count-requires-clause-fits : goal.count_tris-count-requires-clause-fits
unfolding tris_on
count_tris-count-requires-clause-fits c =
    let heads = c.args.heads.now in
    let P : List ℕ → Type 0 = λ cs. sum_by (λ n. (cluster_at heads n).tris) cs < 4294967296 in
    let most = tris_on-le heads c.requires.rules c.args.page c.requires.page_range in
    subst P (sym (c.deref.ensures.value ∙ c.in_ok-numbers.ensures.clusters)) (omega (arith, most))

pub first_page_break-requires-clause-length : goal.first_page_break-requires-clause-length
unfolding tris_on
first_page_break-requires-clause-length c =
    let heads = c.args.heads.now in
    let most = tris_on-le heads c.requires.rules c.args.page c.requires.page_range in
    let count =
    c.count_tris-count.ensures.count ∙ ap (sum_by (λ n. (cluster_at heads n).tris))
    (c.deref.ensures.value ∙ c.in_ok-numbers.ensures.clusters) in
    omega (arith, most, count, c.requires.length)

pub returns-in-Some-clause-bad : goal.returns-in-Some-clause-bad
unfolding tris_on
returns-in-Some-clause-bad c =
    let heads = c.args.heads.now in
    let count =
    c.count_tris-count.ensures.count ∙ ap (sum_by (λ n. (cluster_at heads n).tris))
    (c.deref.ensures.value ∙ c.in_ok-numbers.ensures.clusters) in
    sym (c.in-Some.ensures.first ∙ ap (λ n. first_of (page_breaks heads.sources n c.args.bytes.now)) count)

pub read_clusters-requires-clause-cluster_range : goal.read_clusters-requires-clause-cluster_range
read_clusters-requires-clause-cluster_range c =
    let heads = c.args.heads.now in
    let P : List ℕ → Type 0 = λ cs. All (λ n. n < length heads.clusters) cs in
    subst P (sym (c.deref-in-None.ensures.value ∙ c.in_ok-numbers.ensures.clusters))
    (clusters_on-below heads c.args.page)

pub read_clusters-requires-clause-room : goal.read_clusters-requires-clause-room
unfolding tris_on
read_clusters-requires-clause-room c =
    let heads = c.args.heads.now in
    let P : List ℕ → Type 0 = λ cs. 40 * sum_by (λ n. (cluster_at heads n).tris) cs ≤ length c.args.bytes.now in
    let most = tris_on-le heads c.requires.rules c.args.page c.requires.page_range in
    subst P (sym (c.deref-in-None.ensures.value ∙ c.in_ok-numbers.ensures.clusters))
    (omega (arith, most, c.requires.length))

pub returns-clause-page : goal.returns-clause-page
unfolding page_of
returns-clause-page c =
    let heads = c.args.heads.now in
    let made : List PageCluster → Page = λ cs. record { number = c.args.page; clusters = cs } in
    ap made (c.of-clusters.ensures ∙ c.in_ok-items-in-None.ensures.clusters
    ∙ ap (λ cs. clusters_of heads cs c.args.bytes.now)
    (c.deref-in-None.ensures.value ∙ c.in_ok-numbers.ensures.clusters))

pub returns-clause-no_break : goal.returns-clause-no_break
unfolding tris_on
returns-clause-no_break c =
    let heads = c.args.heads.now in
    let count =
    c.count_tris-count.ensures.count ∙ ap (sum_by (λ n. (cluster_at heads n).tris))
    (c.deref.ensures.value ∙ c.in_ok-numbers.ensures.clusters) in
    sym (c.in-None.ensures.first ∙ ap (λ n. first_of (page_breaks heads.sources n c.args.bytes.now)) count)

pub returns-clause-spelling : goal.returns-clause-spelling
unfolding tris_on page_of
returns-clause-spelling c =
    let heads = c.args.heads.now in
    let count =
    c.count_tris-count.ensures.count ∙ ap (sum_by (λ n. (cluster_at heads n).tris))
    (c.deref.ensures.value ∙ c.in_ok-numbers.ensures.clusters) in
    let none =
    sym (c.in-None.ensures.first ∙ ap (λ n. first_of (page_breaks heads.sources n c.args.bytes.now)) count) in
    let made : List PageCluster → Page = λ cs. record { number = c.args.page; clusters = cs } in
    let same = ap made (c.of-clusters.ensures ∙ c.in_ok-items-in-None.ensures.clusters
    ∙ ap (λ cs. clusters_of heads cs c.args.bytes.now)
    (c.deref-in-None.ensures.value ∙ c.in_ok-numbers.ensures.clusters)) in
    ap page_bytes same ∙ page_bytes-read heads c.args.page c.args.bytes.now c.requires.length
    (λ i. omega (arith, c.type_inv.bytes i))
    (tris_on-le heads c.requires.rules c.args.page c.requires.page_range) none

pub returns-clause-fits : goal.returns-clause-fits
unfolding tris_on page_of
returns-clause-fits c =
    let heads = c.args.heads.now in
    let count =
    c.count_tris-count.ensures.count ∙ ap (sum_by (λ n. (cluster_at heads n).tris))
    (c.deref.ensures.value ∙ c.in_ok-numbers.ensures.clusters) in
    let none =
    sym (c.in-None.ensures.first ∙ ap (λ n. first_of (page_breaks heads.sources n c.args.bytes.now)) count) in
    let made : List PageCluster → Page = λ cs. record { number = c.args.page; clusters = cs } in
    let same = ap made (c.of-clusters.ensures ∙ c.in_ok-items-in-None.ensures.clusters
    ∙ ap (λ cs. clusters_of heads cs c.args.bytes.now)
    (c.deref-in-None.ensures.value ∙ c.in_ok-numbers.ensures.clusters)) in
    let P : Page → Type 0 = λ found. FitsPage heads found in
    subst P (sym same) (FitsPage-read heads c.args.page c.args.bytes.now none)

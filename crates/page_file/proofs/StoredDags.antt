-- The DAG that a DAG's own pages spell is that DAG, and its file verifies if it is sound.
use Rattle.std.proofs.Common.{◌≡◌, ℕ, ◌+◌, ◌<◌, true, false, ◌&&◌, eqb, List, [], ◌∷◌, ◌++◌, length, map}
use Rattle.std.proofs.Common.{get_or, Some, None, Ok, refl, sym, ap, ◌∙◌, arith, cond}
use Rattle.std.proofs.lemmas.Bool.Decides.{nat_tests}
use Rattle.std.proofs.lemmas.List.{ext_get_or, length-map}
use Rattle.std.proofs.lemmas.List.FromFn.{get_or-map-range_with_len, length-map-range_with_len}
use Rattle.std.specs.List.{range_with_len, list_any}
use Rattle.std.specs.Option.{option_map, unwrap_or}
use Rattle.geom_core.specs.declared.triangles.Tagged.{Tagged}
use Rattle.dag_core.specs.declared.dags.Dag.{Dag}
use Rattle.dag_core.specs.declared.heads.Heads.{Heads}
use Rattle.dag_core.specs.Members.{all_clusters, home}
use Rattle.dag_core.specs.Pages.{clusters_on, page_of_cluster}
use Rattle.dag_core.specs.Ranges.{IsInRange, counts_of}
use Rattle.dag_core.specs.Rules.{Checked}
use Rattle.dag_core.specs.TriangleRules.{IsLaidOut, Sound, dag_breaks}
use Rattle.dag_core.specs.Triangles.{HasTris, tris_at}
use Rattle.dag_core.proofs.ListSteps.{list_any-filter, range_any}
use Rattle.dag_core.proofs.MemberLaws.{home_below}
use Rattle.dag_core.proofs.RangeLaws.{group_bounds}
use Rattle.dag_soundness.specs.FirstBreaks.{first_rule_break, first_dag_break}
use Rattle.page_codec.specs.declared.pages.Page.{Page}
use Rattle.page_codec.specs.Lookups.{tris_with}
use Rattle.page_codec.specs.Spelling.{directory_in, file_bytes, page_cluster, page_in}
use Rattle.page_file.specs.Verifying.{all_pages, no_page, stored_tris, dag_on, counted, opened_verified, verifying}
use Rattle.page_file.proofs.Rules.{find-none}
use Rattle.page_file.proofs.Written.{heads-in, opening-written-by}

-- ---- the triangles of a cluster on its page

-- a cluster that is listed has its own triangles
tris_with-listed : (dag : Dag) (c : ℕ) (cs : List ℕ) → list_any (λ k. eqb k c) cs ≡ true →
    tris_with c (map (page_cluster dag) cs) ≡ Some (tris_at dag c)
tris_with-listed dag c [] listed = cc
tris_with-listed dag c (k ∷ cs) listed =
    elim (eqb k c) as (λ b. eqb k c ≡ b → cond b (Some (tris_at dag k)) (tris_with c (map (page_cluster dag) cs)) ≡
    Some (tris_at dag c)) [
      | true ↦ λ e. let same : k ≡ c = grind (arith, nat_tests) in ap (λ (n : ℕ). Some (tris_at dag n)) same
      | false ↦ λ e. tris_with-listed dag c cs (rest e listed)
    ] refl
  where
    rest : eqb k c ≡ false → list_any (λ n. eqb n c) (k ∷ cs) ≡ true → list_any (λ n. eqb n c) cs ≡ true
    rest e any = grind (arith, nat_tests)

-- a cluster is listed on the page of its home
pub listed-on : (heads : Heads) (c : ℕ) → c < length heads.clusters →
    list_any (λ k. eqb k c) (clusters_on heads (page_of_cluster heads c)) ≡ true
listed-on heads c below =
    let p = page_of_cluster heads c in
    let on_page : eqb (page_of_cluster heads c) p ≡ true = grind (arith, nat_tests) in
    let itself : eqb c c ≡ true = grind (arith, nat_tests) in
    list_any-filter (λ k. eqb k c) (λ k. eqb (page_of_cluster heads k) p) (all_clusters heads)
    ∙ range_any (λ k. eqb (page_of_cluster heads k) p && eqb k c) (length heads.clusters) c below
    (rw (on_page, itself) refl)

-- the page of a cluster is one of the file
pub page-below : (heads : Heads) (c : ℕ) → IsInRange heads → Checked heads → c < length heads.clusters →
    page_of_cluster heads c < heads.pages
page-below heads c range checked below =
    (group_bounds heads (home heads c) range (home_below heads c (λ g. checked 1 g) below)).page

-- a cluster's triangles are those on its page
stored-at : (dag : Dag) (c : ℕ) → IsLaidOut dag → c < length dag.heads.clusters →
    stored_tris dag.heads (map (page_in dag) (range_with_len 0 dag.heads.pages)) c ≡ tris_at dag c
unfolding page_in
stored-at dag c laid below =
    let p = page_of_cluster dag.heads c in
    let page : get_or (map (page_in dag) (range_with_len 0 dag.heads.pages)) p no_page ≡ page_in dag p =
    get_or-map-range_with_len (page_in dag) 0 dag.heads.pages p p no_page
    (page-below dag.heads c laid.range laid.rules below) (omega arith) in
    ap (λ (page : Page). unwrap_or (tris_with c page.clusters) []) page
    ∙ ap (λ tris. unwrap_or tris []) (tris_with-listed dag c (clusters_on dag.heads p) (listed-on dag.heads c below))

-- each cluster has triangles
list-count : (dag : Dag) → HasTris dag → length dag.tris ≡ length dag.heads.clusters
list-count dag has =
    sym (length-map dag.tris (λ tris. length tris)) ∙ ap length has
    ∙ length-map dag.heads.clusters (λ cluster. cluster.tris)

-- ---- the DAG of its own pages

pub dag_on-pages : (dag : Dag) → IsLaidOut dag →
    dag_on dag.heads (map (page_in dag) (range_with_len 0 dag.heads.pages)) ≡ dag
unfolding dag_on
dag_on-pages dag laid =
    let pages = map (page_in dag) (range_with_len 0 dag.heads.pages) in
    let n = length dag.heads.clusters in
    let stored = map (stored_tris dag.heads pages) (range_with_len 0 n) in
    let size : length stored ≡ n = length-map-range_with_len (stored_tris dag.heads pages) 0 n in
    let same : stored ≡ dag.tris =
    ext_get_or [] stored dag.tris (size ∙ sym (list-count dag laid.counts))
    (λ c below.
    get_or-map-range_with_len (stored_tris dag.heads pages) 0 n c c [] (omega (arith, below, size)) (omega arith)
    ∙ stored-at dag c laid (omega (arith, below, size))) in
    ap (λ (tris : List (List Tagged)). record { heads = dag.heads; tris = tris }) same

-- ---- the rules

rule-kept : (dag : Dag) (rule n : ℕ) → ((index : ℕ) → dag_breaks rule dag index ≡ false) →
    first_rule_break rule dag n ≡ None
unfolding first_rule_break
rule-kept dag rule n kept =
    ap (option_map (λ index. record { rule = rule; index = index })) (find-none (dag_breaks rule dag) kept 0 n)

pub no-dag-break : (dag : Dag) → ((rule index : ℕ) → dag_breaks rule dag index ≡ false) → first_dag_break dag ≡ None
unfolding first_dag_break
no-dag-break dag kept =
    rw (
      rule-kept dag 6 (length dag.heads.groups) (kept 6),
      rule-kept dag 7 dag.heads.sources (kept 7),
      rule-kept dag 8 (length dag.heads.clusters) (kept 8),
    ) refl

-- ---- the file

pub verifying-sound : (dag : Dag) (more : List ℕ) → Sound dag → verifying (file_bytes dag ++ more) ≡ Ok
    (counts_of dag.heads)
unfolding verifying
verifying-sound dag more sound =
    let pages = map (page_in dag) (range_with_len 0 dag.heads.pages) in
    let whole : dag_on (directory_in dag).heads pages ≡ dag =
    ap (λ (heads : Heads). dag_on heads pages) (heads-in dag) ∙ dag_on-pages dag sound.laid_out in
    let none : first_dag_break (dag_on (directory_in dag).heads pages) ≡ None =
    ap first_dag_break whole ∙ no-dag-break dag sound.rules in
    ap opened_verified (opening-written-by all_pages dag more sound.laid_out (omega arith))
    ∙ ap (λ found. counted found (counts_of (directory_in dag).heads)) none
    ∙ ap (λ (heads : Heads). Ok (counts_of heads)) (heads-in dag)

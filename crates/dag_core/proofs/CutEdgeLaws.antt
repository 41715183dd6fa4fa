-- The cuts of a sound DAG over closed sets of pages have the edge sums of the source mesh.
use Rattle.std.proofs.Common.{◌≡◌, ◌<◌, ◌+◌, ◌∙◌, ◌++◌, ◌∷◌, [], ap, sym, refl, subst, filter, map, flat_map, inl, inr}
use Rattle.std.proofs.Common.{ℕ, ℤ, pos, Bool, true, false, not, ◌&&◌, List, length, nat_lt, Option, None, Some}
use Rattle.std.proofs.Common.{is_none, All, arith, cond, slice_index_or}
use Rattle.std.specs.List.{enumerate_from}
use Rattle.std.proofs.lemmas.Bool.{cases_lt, false_from_ne_true, true≢false}
use Rattle.std.proofs.lemmas.Bool.Decides.{nat_tests}
use Rattle.std.proofs.lemmas.List.{get_or_past, map-append}
use Rattle.std.proofs.lemmas.List.Elements.{All-append, All-cons, All-get_or, All-head, All-nil, All-tail}
use Rattle.std.proofs.lemmas.List.Folds.{list_any_at}
use Rattle.geom_core.specs.declared.points.Pt.{Pt}
use Rattle.geom_core.specs.declared.triangles.Tri.{Tri}
use Rattle.geom_core.specs.declared.triangles.Tagged.{Tagged}
use Rattle.geom_core.specs.declared.views.Lens.{Lens}
use Rattle.geom_core.specs.EdgeSum.{edge_sum}
use Rattle.geom_core.specs.Picture.{Item}
use Rattle.geom_core.specs.TaggedLists.{tris_of}
use Rattle.dag_core.specs.declared.dags.Dag.{Dag}
use Rattle.dag_core.specs.declared.heads.Heads.{Heads}
use Rattle.dag_core.specs.Cuts.{cut_items, cut_of, cut_tris, is_in_cut, is_maker_open, is_open}
use Rattle.dag_core.specs.Members.{all_clusters, cluster_at, group_at, home, is_made_by, made_by, members, no_cluster}
use Rattle.dag_core.specs.PageSets.{IsClosed}
use Rattle.dag_core.specs.Ranges.{IsInRange}
use Rattle.dag_core.specs.Rules.{Checked, has_made}
use Rattle.dag_core.specs.TriangleRules.{IsSourcedTriangle, Sound, breaks_sums, have_same_sums}
use Rattle.dag_core.specs.Triangles.{leaf_tris, leaves, source_of, tris_at, tris_in}
use Rattle.dag_core.proofs.CutSums.{cut_weight, is_cut, is_made_open, terminal_weight}
use Rattle.dag_core.proofs.MemberLaws.{in_turn}
use Rattle.dag_core.proofs.NeedLaws.{filter_alike}
use Rattle.dag_core.proofs.OpenLaws.{home_is_open, terminal_is_open}
use Rattle.dag_core.proofs.RuleLaws.{terminal_at}
use Rattle.dag_core.proofs.SourceLaws.{edge_sum-by_sources, edge_sum-lists}
use Rattle.dag_core.proofs.SumLaws.{sums_agree}
use Rattle.dag_core.proofs.WeightSums.{if_so, weigh, weigh-alike, weigh-filter, weigh-nothing}

-- the edge sum of a cluster's triangles
abbrev sum_at : Dag → Pt → Pt → ℕ → ℤ
sum_at dag u v c = edge_sum (tris_of (tris_at dag c)) u v

tris_of-lists : (lists : ℕ → List Tagged) (clusters : List ℕ) →
    tris_of (flat_map lists clusters) ≡ flat_map (λ c. tris_of (lists c)) clusters
tris_of-lists lists [] = refl
tris_of-lists lists (c ∷ clusters) =
    map-append (λ (t : Tagged). t.tri) (lists c) (flat_map lists clusters)
    ∙ ap (λ ts. tris_of (lists c) ++ ts) (tris_of-lists lists clusters)

-- the edge sum of some clusters' triangles
sum_in : (dag : Dag) (clusters : List ℕ) (u v : Pt) → edge_sum (tris_of (tris_in dag clusters)) u v ≡ weigh
    (sum_at dag u v) clusters
sum_in dag clusters u v =
    ap (λ tris. edge_sum tris u v) (tris_of-lists (tris_at dag) clusters)
    ∙ edge_sum-lists (λ c. tris_of (tris_at dag c)) clusters u v

-- the triangles of a cut, under a choice of triangles
items-tris : (c n : ℕ) (tris : List Tri) →
    map (λ (item : Item). item.tri) (map (λ (k, t). record { cluster = c; place = k; tri = t })
    (enumerate_from n tris)) ≡ tris
items-tris c n [] = refl
items-tris c n (t ∷ tris) = ap (λ ts. t ∷ ts) (items-tris c (n + 1) tris)

pub cut_tris-lists : (tris : ℕ → List Tri) (cut : List ℕ) → cut_tris tris cut ≡ flat_map tris cut
cut_tris-lists tris [] = refl
cut_tris-lists tris (c ∷ cut) =
    map-append (λ (item : Item). item.tri) (map (λ (k, t). record { cluster = c; place = k; tri = t })
    (enumerate_from 0 (tris c))) (cut_items tris cut)
    ∙ (ap (λ ts. ts ++ cut_tris tris cut) (items-tris c 0 (tris c)) ∙ ap (λ ts. tris c ++ ts) (cut_tris-lists tris cut))

-- ---- what is left of groups

keeps_sums : (terminal same : Bool) → (not terminal && not same) ≡ false → terminal ≡ false → same ≡ true
keeps_sums true same kept goes_on = absurd (true≢false goes_on)
keeps_sums false true kept goes_on = refl
keeps_sums false false kept goes_on = absurd (true≢false kept)

below_test : (g n : ℕ) (b : Bool) → g < n → (nat_lt g n && b) ≡ false → b ≡ false
below_test g n true below kept = grind (arith, nat_tests)
below_test g n false below kept = refl

group_sums : (dag : Dag) (g : ℕ) (u v : Pt) → Sound dag → g < length dag.heads.groups →
    (group_at dag.heads g).terminal ≡ false →
    weigh (sum_at dag u v) (members dag.heads g) ≡ weigh (sum_at dag u v) (made_by dag.heads g)
unfolding breaks_sums
group_sums dag g u v sound below goes_on =
    let same = have_same_sums (tris_of (tris_in dag (members dag.heads g))) (tris_of (tris_in dag
    (made_by dag.heads g))) in
    let kept = below_test g (length dag.heads.groups) (not (group_at dag.heads g).terminal && not same) below
    (sound.rules 6 g) in
    sym (sum_in dag (members dag.heads g) u v)
    ∙ (sums_agree (tris_of (tris_in dag (members dag.heads g))) (tris_of (tris_in dag (made_by dag.heads g)))
    (keeps_sums (group_at dag.heads g).terminal same kept goes_on) u v
    ∙ sum_in dag (made_by dag.heads g) u v)

nothing_made : (terminal made : Bool) → cond terminal made (not made) ≡ false → terminal ≡ true → made ≡ false
nothing_made true made kept is = kept
nothing_made false made kept is = absurd (true≢false (sym is))

none_by : (heads : Heads) (g c : ℕ) → Checked heads → g < length heads.groups → (group_at heads g).terminal ≡ true →
    c < length heads.clusters → is_made_by g (cluster_at heads c) ≡ false
unfolding has_made
none_by heads g c checked below terminal within =
    let none = nothing_made (group_at heads g).terminal (has_made heads g) (sym (terminal_at heads g below)
    ∙ checked 3 g) terminal in
    false_from_ne_true (is_made_by g (cluster_at heads c))
    (λ made. true≢false (sym (list_any_at (is_made_by g) heads.clusters c no_cluster within made) ∙ none))

no_made : (dag : Dag) (g : ℕ) (u v : Pt) → Checked dag.heads → g < length dag.heads.groups →
    (group_at dag.heads g).terminal ≡ true →
    weigh (sum_at dag u v) (made_by dag.heads g) ≡ pos 0
no_made dag g u v checked below terminal =
    weigh-filter (sum_at dag u v) (λ c. is_made_by g (cluster_at dag.heads c)) (all_clusters dag.heads)
    ∙ (weigh-alike (λ c. if_so (is_made_by g (cluster_at dag.heads c)) (sum_at dag u v c)) (λ c. pos 0)
    (length dag.heads.clusters)
    (λ c within. ap (λ b. if_so b (sum_at dag u v c)) (none_by dag.heads g c checked below terminal within))
    ∙ weigh-nothing (all_clusters dag.heads))

-- ---- the cut and the leaves

maker_of : (heads : Heads) (lens : Lens) (resident : List ℕ) (c : ℕ) (made : Option ℕ) → IsInRange heads →
    Checked heads → IsClosed heads resident →
    c < length heads.clusters → (cluster_at heads c).made ≡ made →
    is_made_open (is_open heads lens resident) made ≡ true →
    is_open heads lens resident (home heads c) ≡ true
maker_of heads lens resident c None range checked closed below made is = absurd (true≢false (sym is))
maker_of heads lens resident c (Some m) range checked closed below made is =
    home_is_open heads lens resident c m range checked closed below made is

both_alike : (a b c d : Bool) → a ≡ b → c ≡ d → (a && not c) ≡ (b && not d)
both_alike a b c d same other = ap (λ x. x && not c) same ∙ ap (λ x. b && not x) other

same_maker : (heads : Heads) (lens : Lens) (resident : List ℕ) (made : Option ℕ) →
    is_maker_open heads lens resident made ≡ is_made_open (is_open heads lens resident) made
same_maker heads lens resident None = refl
same_maker heads lens resident (Some m) = refl

cut_is : (heads : Heads) (lens : Lens) (resident : List ℕ) →
    cut_of heads lens resident ≡ filter (is_cut heads (is_open heads lens resident)) (all_clusters heads)
cut_is heads lens resident =
    filter_alike (is_in_cut heads lens resident) (is_cut heads (is_open heads lens resident)) (length heads.clusters)
    (λ c below. both_alike (is_open heads lens resident (home heads c)) _ _ _ refl (same_maker heads lens resident
    (cluster_at heads c).made))

leaf_is : (made : Option ℕ) → is_none made ≡ (true && not (is_made_open (λ g. true) made))
leaf_is None = refl
leaf_is (Some m) = refl

leaves_are : (heads : Heads) → leaves heads ≡ filter (is_cut heads (λ g. true)) (all_clusters heads)
leaves_are heads =
    filter_alike (λ c. is_none (cluster_at heads c).made) (is_cut heads (λ g. true)) (length heads.clusters)
    (λ c below. leaf_is (cluster_at heads c).made)

cut_sum : (dag : Dag) (lens : Lens) (resident : List ℕ) (u v : Pt) → Sound dag → IsClosed dag.heads resident →
    weigh (sum_at dag u v) (cut_of dag.heads lens resident) ≡ terminal_weight dag.heads (sum_at dag u v)
cut_sum dag lens resident u v sound closed =
    let range = sound.laid_out.range in
    let checked = sound.laid_out.rules in
    let turn = in_turn dag.heads (λ rule index below. checked rule index) in
    ap (weigh (sum_at dag u v)) (cut_is dag.heads lens resident)
    ∙ cut_weight dag.heads (is_open dag.heads lens resident) (sum_at dag u v) range turn (record {
      home = λ c below is. maker_of dag.heads lens resident c
          (cluster_at dag.heads c).made range checked closed below refl is;
      terminal = λ g below terminal. terminal_is_open dag.heads lens resident g range checked closed below terminal;
      same = λ g below goes_on. group_sums dag g u v sound below goes_on;
      none = λ g below terminal. no_made dag g u v checked below terminal;
    })

leaf_sum : (dag : Dag) (u v : Pt) → Sound dag →
    weigh (sum_at dag u v) (leaves dag.heads) ≡ terminal_weight dag.heads (sum_at dag u v)
leaf_sum dag u v sound =
    let checked = sound.laid_out.rules in
    let turn = in_turn dag.heads (λ rule index below. checked rule index) in
    ap (weigh (sum_at dag u v)) (leaves_are dag.heads)
    ∙ cut_weight dag.heads (λ g. true) (sum_at dag u v) sound.laid_out.range turn (record {
      home = λ c below is. refl;
      terminal = λ g below terminal. refl;
      same = λ g below goes_on. group_sums dag g u v sound below goes_on;
      none = λ g below terminal. no_made dag g u v checked below terminal;
    })

-- ---- sources

pub all_at : (P : Tagged → Type 0) (lists : List (List Tagged)) (c : ℕ) → All (All P) lists →
    All P (slice_index_or lists c [])
all_at P lists c all =
    elim (cases_lt c (length lists)) [
      | inl below ↦ All-get_or (All P) lists c [] below all
      | inr beyond ↦ subst (All P) (sym (get_or_past lists c [] beyond)) (All-nil P)
    ]

all_in : (P : Tagged → Type 0) (lists : ℕ → List Tagged) (clusters : List ℕ) → ((c : ℕ) → All P (lists c)) →
    All P (flat_map lists clusters)
all_in P lists [] each = All-nil P
all_in P lists (c ∷ clusters) each = All-append P (lists c) (flat_map lists clusters) (each c)
    (all_in P lists clusters each)

sourced : (sources : ℕ) (tris : List Tagged) → All (IsSourcedTriangle sources) tris → All (λ t. t.source < sources) tris
sourced sources [] all = All-nil (λ (t : Tagged). t.source < sources)
sourced sources (t ∷ tris) all =
    All-cons (λ (t : Tagged). t.source < sources) t tris (All-head (IsSourcedTriangle sources) t tris all).source
    (sourced sources tris (All-tail (IsSourcedTriangle sources) t tris all))

leaf_sources : (dag : Dag) → Sound dag → All (λ t. t.source < dag.heads.sources) (leaf_tris dag)
leaf_sources dag sound =
    sourced dag.heads.sources (leaf_tris dag)
    (all_in (IsSourcedTriangle dag.heads.sources) (tris_at dag) (leaves dag.heads)
    (λ c. all_at (IsSourcedTriangle dag.heads.sources) dag.tris c sound.laid_out.triangles))

pub cuts_keep_edge_sums : (dag : Dag) (lens : Lens) (resident : List ℕ) (u v : Pt) → Sound dag →
    IsClosed dag.heads resident →
    edge_sum (cut_tris (λ c. tris_of (tris_at dag c)) (cut_of dag.heads lens resident)) u v ≡ edge_sum
    (source_of dag) u v
cuts_keep_edge_sums dag lens resident u v sound closed =
    ap (λ tris. edge_sum tris u v) (cut_tris-lists (λ c. tris_of (tris_at dag c)) (cut_of dag.heads lens resident))
    ∙ (edge_sum-lists (λ c. tris_of (tris_at dag c)) (cut_of dag.heads lens resident) u v
    ∙ (cut_sum dag lens resident u v sound closed
    ∙ (sym (leaf_sum dag u v sound)
    ∙ (sym (sum_in dag (leaves dag.heads) u v)
    ∙ sym (edge_sum-by_sources (leaf_tris dag) dag.heads.sources u v (leaf_sources dag sound))))))

-- The rims of several clusters, and the rim of their triangles together.
use Rattle.std.proofs.Common.{◌≡◌, ◌≤◌, ◌<◌, ◌+◌, ◌*◌, ℕ, zero, suc, Bool, true, false, not, ◌&&◌, nat_lt, List, []}
use Rattle.std.proofs.Common.{◌∷◌, ◌++◌}
use Rattle.std.proofs.Common.{IsTrue, ◌↔◌, filter, cond, length, map, get_or, take, All, refl, sym, ap, ◌∙◌, subst}
use Rattle.std.proofs.Common.{arith}
use Rattle.std.proofs.lemmas.Bool.Decides.{nat_tests}
use Rattle.std.proofs.lemmas.List.{get_or_default, length-append, length-map, map-append, take_more}
use Rattle.std.proofs.Math.ListN.{get_or-map}
use Rattle.std.proofs.lemmas.List.Elements.{All-filter, All-head, All-tail}
use Rattle.std.proofs.lemmas.List.FromFn.{get_or-range_with_len, length-range_with_len}
use Rattle.std.specs.List.{range_with_len}
use Rattle.geom_core.specs.declared.limits.TheConstants.{MAX_CLUSTERS, TRIANGLES_PER_CLUSTER}
use Rattle.geom_core.specs.declared.points.Pt.{Pt}
use Rattle.geom_core.specs.EdgeSum.{edge_sum}
use Rattle.geom_core.specs.declared.triangles.Tri.{Tri}
use Rattle.geom_core.specs.declared.triangles.Tagged.{Tagged}
use Rattle.geom_core.specs.TaggedLists.{tris_of}
use Rattle.dag_core.specs.declared.dags.Dag.{Dag}
use Rattle.dag_core.specs.declared.cluster_heads.ClusterHead.{ClusterHead}
use Rattle.dag_core.specs.Members.{cluster_at, group_at, is_made_by, made_by, members, no_cluster}
use Rattle.dag_core.specs.TriangleRules.{IsLaidOut, breaks_sums, have_same_sums}
use Rattle.dag_core.specs.Triangles.{tris_at, tris_in}
use Rattle.dag_core.proofs.HalvingLaws.{checked_in_turn}
use Rattle.dag_core.proofs.ListSteps.{same_bools}
use Rattle.dag_core.proofs.MemberLaws.{first_is, members_are_all, members_more, members_rise_to}
use Rattle.dag_core.proofs.RangeLaws.{sizes_of, tris_limit}
use Rattle.dag_core.proofs.SumLaws.{agree_everywhere, sums_agree}
use Rattle.half_mesh.specs.Rim.{AreRimsOf, EdgeSums, IsRimOf, all_of}

-- ---- lists of rims

pub rims-none : AreRimsOf [] []
unfolding AreRimsOf
rims-none = tt

pub rims-push : (lists : List (List Tri)) (rims : List EdgeSums) (tris : List Tri) (rim : EdgeSums) →
    AreRimsOf lists rims → IsRimOf tris rim.edges rim.sums → AreRimsOf (lists ++ tris ∷ []) (rims ++ rim ∷ [])
unfolding AreRimsOf
rims-push [] [] tris rim are is = (is, tt)
rims-push [] (s ∷ rims) tris rim are is = absurd are
rims-push (l ∷ lists) [] tris rim are is = absurd are
rims-push (l ∷ lists) (s ∷ rims) tris rim are is = (are.0, rims-push lists rims tris rim are.1 is)

pub rims-count : (lists : List (List Tri)) (rims : List EdgeSums) → AreRimsOf lists rims → length rims ≡ length lists
unfolding AreRimsOf
rims-count [] [] are = refl
rims-count [] (rim ∷ rims) are = absurd are
rims-count (tris ∷ lists) [] are = absurd are
rims-count (tris ∷ lists) (rim ∷ rims) are = let rest = rims-count lists rims are.1 in omega arith

pub rims-at : (lists : List (List Tri)) (rims : List EdgeSums) (c : ℕ) (none : List Tri) (rim : EdgeSums) →
    AreRimsOf lists rims → c < length lists →
    IsRimOf (get_or lists c none) (get_or rims c rim).edges (get_or rims c rim).sums
unfolding AreRimsOf
rims-at [] rims c none rim are below = absurd (omega arith)
rims-at (tris ∷ lists) [] c none rim are below = absurd are
rims-at (tris ∷ lists) (first ∷ rims) zero none rim are below = are.0
rims-at (tris ∷ lists) (first ∷ rims) (suc c) none rim are below = rims-at lists rims c none rim are.1 (omega arith)

-- ---- the triangles of clusters

-- the triangles of each of these clusters
abbrev pub lists_in : Dag → List ℕ → List (List Tri)
lists_in dag clusters = map (λ c. tris_of (tris_at dag c)) clusters

pub lists_in-all : (dag : Dag) (clusters : List ℕ) → all_of (lists_in dag clusters) ≡ tris_of (tris_in dag clusters)
lists_in-all dag [] = refl
lists_in-all dag (c ∷ clusters) =
    ap (λ (ts : List Tri). tris_of (tris_at dag c) ++ ts) (lists_in-all dag clusters)
    ∙ sym (map-append (λ (t : Tagged). t.tri) (tris_at dag c) (tris_in dag clusters))

pub cluster_count : (dag : Dag) → IsLaidOut dag → length dag.tris ≡ length dag.heads.clusters
cluster_count dag laid_out =
    sym (length-map dag.tris (λ (ts : List Tagged). length ts))
    ∙ (ap length laid_out.counts ∙ length-map dag.heads.clusters (λ (k : ClusterHead). k.tris))

pub cluster_size : (dag : Dag) (c : ℕ) → IsLaidOut dag → c < length dag.tris →
    length (tris_at dag c) ≤ TRIANGLES_PER_CLUSTER
cluster_size dag c laid_out below =
    let count = cluster_count dag laid_out in
    let size : length (tris_at dag c) ≡ (cluster_at dag.heads c).tris =
    sym (get_or-map (λ (ts : List Tagged). length ts) dag.tris c [])
    ∙ (ap (λ (xs : List ℕ). get_or xs c 0) laid_out.counts
    ∙ get_or-map (λ (k : ClusterHead). k.tris) dag.heads.clusters c no_cluster) in
    let limit = tris_limit dag.heads c laid_out.range (omega arith) in
    omega arith

pub cluster_sizes : (dag : Dag) → IsLaidOut dag → All (λ (ts : List Tagged). length ts ≤ TRIANGLES_PER_CLUSTER) dag.tris
cluster_sizes dag laid_out = λ k d below.
    subst (λ (ts : List Tagged). length ts ≤ TRIANGLES_PER_CLUSTER) (get_or_default dag.tris k [] d below)
    (cluster_size dag k laid_out below)

-- as many as this many clusters can have
pub tris_limit-in : (dag : Dag) (clusters : List ℕ) → IsLaidOut dag → All (λ c. c < length dag.tris) clusters →
    length (tris_in dag clusters) ≤ TRIANGLES_PER_CLUSTER * length clusters
tris_limit-in dag [] laid_out range = omega arith
tris_limit-in dag (c ∷ clusters) laid_out range =
    let here = cluster_size dag c laid_out (All-head (λ k. k < length dag.tris) c clusters range) in
    let rest = tris_limit-in dag clusters laid_out (All-tail (λ k. k < length dag.tris) c clusters range) in
    let len = length-append (tris_at dag c) (tris_in dag clusters) in
    omega arith

-- the rim of one more cluster
pub rims-more : (dag : Dag) (rims parts : List EdgeSums) (clusters : List ℕ) (i c : ℕ) (rim : EdgeSums) →
    AreRimsOf (map tris_of dag.tris) rims → i < length clusters → c ≡ get_or clusters i 0 → c < length dag.tris →
    rim ≡ get_or rims c rim → AreRimsOf (lists_in dag (take i clusters)) parts →
    AreRimsOf (lists_in dag (take (i + 1) clusters)) (parts ++ rim ∷ [])
rims-more dag rims parts clusters i c rim all within at below here are =
    let plain : List Tagged → List Tri = tris_of in
    let len = length-map dag.tris plain in
    let grown : lists_in dag (take (i + 1) clusters) ≡ lists_in dag (take i clusters) ++ tris_of (tris_at dag c) ∷ [] =
    ap (lists_in dag) (take_more clusters i 0 within)
    ∙ (map-append (λ k. tris_of (tris_at dag k)) (take i clusters) (get_or clusters i 0 ∷ [])
    ∙ ap (λ k. lists_in dag (take i clusters) ++ tris_of (tris_at dag k) ∷ []) (sym at)) in
    let of_rim : IsRimOf (get_or (map plain dag.tris) c []) (get_or rims c rim).edges (get_or rims c rim).sums =
    rims-at (map plain dag.tris) rims c [] rim all (omega arith) in
    let is : IsRimOf (tris_of (tris_at dag c)) rim.edges rim.sums =
    subst (λ (tris : List Tri). IsRimOf tris rim.edges rim.sums) (get_or-map plain dag.tris c [])
    (subst (λ (r : EdgeSums). IsRimOf (get_or (map plain dag.tris) c []) r.edges r.sums) (sym here) of_rim) in
    subst (λ (lists : List (List Tri)). AreRimsOf lists (parts ++ rim ∷ [])) (sym grown)
    (rims-push (lists_in dag (take i clusters)) parts (tris_of (tris_at dag c)) rim are is)

-- the rim of one more list of tagged triangles
pub rims-next : (lists : List (List Tagged)) (rims : List EdgeSums) (i : ℕ) (here : List Tagged) (rim : EdgeSums) →
    i < length lists → here ≡ get_or lists i here → AreRimsOf (map tris_of (take i lists)) rims →
    IsRimOf (tris_of here) rim.edges rim.sums → AreRimsOf (map tris_of (take (i + 1) lists)) (rims ++ rim ∷ [])
rims-next lists rims i here rim within at are is =
    let plain : List Tagged → List Tri = tris_of in
    let grown : map plain (take (i + 1) lists) ≡ map plain (take i lists) ++ tris_of here ∷ [] =
    ap (map plain) (take_more lists i here within)
    ∙ (map-append plain (take i lists) (get_or lists i here ∷ [])
    ∙ ap (λ (ts : List Tagged). map plain (take i lists) ++ tris_of ts ∷ []) (sym at)) in
    subst (λ (ls : List (List Tri)). AreRimsOf ls (rims ++ rim ∷ [])) (sym grown)
    (rims-push (map plain (take i lists)) rims (tris_of here) rim are is)

-- ---- the clusters of a group, and those that it made

pub members-within : (dag : Dag) (g : ℕ) → IsLaidOut dag → g < length dag.heads.groups →
    (group_at dag.heads g).first + (group_at dag.heads g).count ≤ length dag.heads.clusters
members-within dag g laid_out below =
    let turn = checked_in_turn dag.heads laid_out.rules in
    let first = first_is dag.heads g turn below in
    let more = members_more dag.heads g below in
    let rise = members_rise_to dag.heads (g + 1) (length dag.heads.groups) (omega arith) (omega arith) in
    let all = members_are_all dag.heads turn in
    omega arith

range_below : (first count n : ℕ) → first + count ≤ n → All (λ c. c < n) (range_with_len first count)
range_below first count n within = λ k d below.
    let len = length-range_with_len first count in
    let here = get_or-range_with_len first count k d (omega arith) in
    omega arith

pub members-below : (dag : Dag) (g : ℕ) → IsLaidOut dag → g < length dag.heads.groups →
    All (λ c. c < length dag.tris) (members dag.heads g)
members-below dag g laid_out below =
    let count = cluster_count dag laid_out in
    let within = members-within dag g laid_out below in
    range_below (group_at dag.heads g).first (group_at dag.heads g).count (length dag.tris) (omega arith)

pub members-few : (dag : Dag) (g : ℕ) → IsLaidOut dag → g < length dag.heads.groups →
    length (members dag.heads g) ≤ MAX_CLUSTERS
members-few dag g laid_out below =
    let sizes = sizes_of dag.heads laid_out.range in
    let clusters = sizes.clusters in
    let within = members-within dag g laid_out below in
    let len = length-range_with_len (group_at dag.heads g).first (group_at dag.heads g).count in
    omega arith

pub made-below : (dag : Dag) (g : ℕ) → IsLaidOut dag → All (λ c. c < length dag.tris) (made_by dag.heads g)
made-below dag g laid_out =
    let count = cluster_count dag laid_out in
    All-filter (λ c. is_made_by g (cluster_at dag.heads c)) (λ c. c < length dag.tris)
    (range_with_len 0 (length dag.heads.clusters))
    (range_below 0 (length dag.heads.clusters) (length dag.tris) (omega arith))

pub made-few : (dag : Dag) (g : ℕ) → IsLaidOut dag → length (made_by dag.heads g) ≤ MAX_CLUSTERS
made-few dag g laid_out =
    let sizes = sizes_of dag.heads laid_out.range in
    let clusters = sizes.clusters in
    let len = length-range_with_len 0 (length dag.heads.clusters) in
    let less =
    filter_at_most (λ c. is_made_by g (cluster_at dag.heads c)) (range_with_len 0 (length dag.heads.clusters)) in
    omega arith
  where
    filter_at_most : (test : ℕ → Bool) (xs : List ℕ) → length (filter test xs) ≤ length xs
    filter_at_most test [] = omega arith
    filter_at_most test (x ∷ xs) = at (test x) (filter_at_most test xs)
      where
        at : (b : Bool) → length (filter test xs) ≤ length xs →
            length (cond b (x ∷ filter test xs) (filter test xs)) ≤ length (x ∷ xs)
        at true less = omega arith
        at false less = omega arith

-- ---- rule 6

-- whether two lists have the same sums, as their rims tell
pub sums-told : (same : Bool) (tris others : List Tri) →
    (IsTrue same ↔ ((u v : Pt) → edge_sum tris u v ≡ edge_sum others u v)) → same ≡ have_same_sums tris others
sums-told same tris others tells =
    same_bools same (have_same_sums tris others) (λ is. agree_everywhere tris others (tells.0 is))
    (λ agree. tells.1 (sums_agree tris others agree))

within_test : (k n : ℕ) (b : Bool) → k < n → (nat_lt k n && b) ≡ b
within_test k n b below = grind (arith, nat_tests)

-- whether the members of a group and what it made have the same sums
abbrev pub keeps_sums : Dag → ℕ → Bool
keeps_sums dag g =
    have_same_sums (tris_of (tris_in dag (members dag.heads g))) (tris_of (tris_in dag (made_by dag.heads g)))

sums-at : (dag : Dag) (g : ℕ) → g < length dag.heads.groups →
    breaks_sums dag g ≡ (not (group_at dag.heads g).terminal && not (keeps_sums dag g))
unfolding breaks_sums
sums-at dag g below =
    within_test g (length dag.heads.groups) (not (group_at dag.heads g).terminal && not (keeps_sums dag g)) below

pub sums_terminal : (dag : Dag) (g : ℕ) → g < length dag.heads.groups → (group_at dag.heads g).terminal ≡ true →
    breaks_sums dag g ≡ false
sums_terminal dag g below terminal = sums-at dag g below ∙ ap (λ b. not b && not (keeps_sums dag g)) terminal

pub sums_open : (dag : Dag) (g : ℕ) (same : Bool) → g < length dag.heads.groups →
    (group_at dag.heads g).terminal ≡ false → same ≡ keeps_sums dag g → not same ≡ breaks_sums dag g
sums_open dag g same below goes_on is =
    ap not is ∙ sym (sums-at dag g below ∙ ap (λ b. not b && not (keeps_sums dag g)) goes_on)

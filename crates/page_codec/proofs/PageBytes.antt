-- The bytes of a page by its groups.
use Rattle.std.proofs.Common.{◌≡◌, ℕ, zero, suc, ◌+◌, ◌-◌, ◌*◌, ◌<◌, ◌≤◌, true, eqb, replicate, List, [], ◌∷◌, ◌++◌}
use Rattle.std.proofs.Common.{length, map, get_or, take, drop, refl, sym, ap, ◌∙◌, arith}
use Rattle.std.specs.List.{flat_map, range_with_len, sum_by}
use Rattle.std.proofs.lemmas.Bool.Decides.{nat_tests}
use Rattle.std.proofs.lemmas.Grind.{flat_map-append, common_steps}
use Rattle.std.proofs.lemmas.List.{append-nil, drop_all, drop_more, length-append, length-drop, length-map}
use Rattle.std.proofs.lemmas.List.Folds.{flat_map-map}
use Rattle.dag_core.specs.declared.heads.Heads.{Heads}
use Rattle.dag_core.specs.declared.dags.Dag.{Dag}
use Rattle.dag_core.specs.Members.{no_group, no_cluster, group_at, cluster_at}
use Rattle.dag_core.specs.Pages.{clusters_on, tris_on}
use Rattle.dag_core.specs.Rules.{Checked}
use Rattle.dag_core.specs.Triangles.{tris_at, HasTris}
use Rattle.page_codec.specs.Spelling.{cluster_bytes, clusters_bytes, page_cluster, page_in}
use Rattle.page_codec.proofs.ClusterBytes.{length-cluster_bytes}
use Rattle.page_codec.proofs.Homes.{members_of, counted, counted-more, counted-le, first-counted, all-counted}
use Rattle.page_codec.proofs.Homes.{clusters_on-members}
use Rattle.page_codec.proofs.PageRules.{tris_on-le}

-- the bytes of these clusters of a DAG
abbrev pub bytes_of : Dag → List ℕ → List ℕ
bytes_of dag cs = flat_map (λ c. cluster_bytes (tris_at dag c)) cs

-- those of a page's clusters
pub bytes_of-page : (dag : Dag) (p : ℕ) →
    clusters_bytes (page_in dag p).clusters ≡ bytes_of dag (clusters_on dag.heads p)
unfolding page_in
bytes_of-page dag p = flat_map-map (λ cluster. cluster_bytes cluster.tris) (page_cluster dag) (clusters_on dag.heads p)

-- clusters that follow one another are a part of the list
pub bytes_of-range : (dag : Dag) (first count : ℕ) → first + count ≤ length dag.tris →
    bytes_of dag (range_with_len first count) ≡ flat_map cluster_bytes (take count (drop first dag.tris))
bytes_of-range dag first zero room = refl
bytes_of-range dag first (suc count) room =
    rw (drop_more dag.tris first [] (omega arith))
    (ap (λ xs. cluster_bytes (tris_at dag first) ++ xs) (bytes_of-range dag (first + 1) count (omega arith)))

-- lists with one image have one image at each place
at-same : {X Y : Type 0} (f : X → ℕ) (g : Y → ℕ) (xs : List X) (ys : List Y) (i : ℕ) (x : X) (y : Y) →
    map f xs ≡ map g ys → f x ≡ g y → f (get_or xs i x) ≡ g (get_or ys i y)
at-same f g [] [] i x y same past = past
at-same f g [] (b ∷ ys) i x y same past = cc
at-same f g (a ∷ xs) [] i x y same past = cc
at-same f g (a ∷ xs) (b ∷ ys) zero x y same past = cc
at-same f g (a ∷ xs) (b ∷ ys) (suc i) x y same past = at-same f g xs ys i x y (cc) past

-- a cluster has as many triangles as its head states
pub length-tris_at : (dag : Dag) → HasTris dag → (c : ℕ) → length (tris_at dag c) ≡ (cluster_at dag.heads c).tris
length-tris_at dag has c =
    at-same (λ tris. length tris) (λ cluster. cluster.tris) dag.tris dag.heads.clusters c [] no_cluster has refl

-- there are as many lists of triangles as clusters
pub length-tris : (dag : Dag) → HasTris dag → length dag.tris ≡ length dag.heads.clusters
length-tris dag has =
    omega (
      arith,
      length-map dag.tris (λ tris. length tris),
      length-map dag.heads.clusters (λ cluster. cluster.tris),
      ap length has,
    )

-- 40 bytes a triangle
pub length-bytes_of : (dag : Dag) → HasTris dag → (cs : List ℕ) →
    length (bytes_of dag cs) ≡ 40 * sum_by (λ c. (cluster_at dag.heads c).tris) cs
length-bytes_of dag has [] = refl
length-bytes_of dag has (c ∷ cs) =
    let sum : sum_by (λ c. (cluster_at dag.heads c).tris) (c ∷ cs) ≡ (cluster_at dag.heads c).tris + sum_by
    (λ c. (cluster_at dag.heads c).tris) cs = grind (arith, common_steps) in
    omega (
      arith,
      length-append (cluster_bytes (tris_at dag c)) (bytes_of dag cs),
      length-cluster_bytes (tris_at dag c),
      length-tris_at dag has c,
      length-bytes_of dag has cs,
      sum,
    )

-- a group's members are clusters of the DAG
pub members-within : (heads : Heads) → Checked heads → (g : ℕ) → g < length heads.groups →
    (group_at heads g).first + (group_at heads g).count ≤ length heads.clusters
members-within heads checked g below =
    let rest : (g + 1) + (length heads.groups - (g + 1)) ≡ length heads.groups = omega arith in
    let most : counted heads.groups (g + 1) ≤ counted heads.groups (length heads.groups) =
    rw rest at (counted-le heads.groups (g + 1) (length heads.groups - (g + 1)) (omega arith)) in
    omega (
      arith,
      most,
      all-counted heads checked,
      first-counted heads checked g below,
      counted-more heads.groups g below,
    )

-- what is left of a page: the clusters of a group on it, then those of the groups after it
pub bytes_of-left : (dag : Dag) (p g : ℕ) → g < length dag.heads.groups → (group_at dag.heads g).page ≡ p →
    (group_at dag.heads g).first + (group_at dag.heads g).count ≤ length dag.tris
    → bytes_of dag (flat_map (members_of p) (drop g dag.heads.groups))
    ≡ flat_map cluster_bytes (take (group_at dag.heads g).count (drop (group_at dag.heads g).first dag.tris)) ++
    bytes_of dag (flat_map (members_of p) (drop (g + 1) dag.heads.groups))
bytes_of-left dag p g below here room =
    let group = group_at dag.heads g in
    let rest = flat_map (members_of p) (drop (g + 1) dag.heads.groups) in
    let test : eqb group.page p ≡ true = grind (arith, nat_tests) in
    let listed : members_of p group ≡ range_with_len group.first group.count = rw test refl in
    ap (λ gs. bytes_of dag (flat_map (members_of p) gs)) (drop_more dag.heads.groups g no_group below)
    ∙ ap (λ cs. bytes_of dag (cs ++ rest)) listed
    ∙ flat_map-append (λ c. cluster_bytes (tris_at dag c)) (range_with_len group.first group.count) rest
    ∙ ap (λ xs. xs ++ bytes_of dag rest) (bytes_of-range dag group.first group.count room)

-- all of a page's groups
pub bytes_of-groups : (dag : Dag) → Checked dag.heads → (p : ℕ) →
    bytes_of dag (flat_map (members_of p) dag.heads.groups) ≡ clusters_bytes (page_in dag p).clusters
bytes_of-groups dag checked p = ap (bytes_of dag) (clusters_on-members dag.heads checked p) ∙ sym (bytes_of-page dag p)

-- they fit on a page
pub length-groups-le : (dag : Dag) → Checked dag.heads → HasTris dag → (p : ℕ) → p < dag.heads.pages →
    length (bytes_of dag (flat_map (members_of p) dag.heads.groups)) ≤ 65520
unfolding tris_on
length-groups-le dag checked has p below =
    rw (clusters_on-members dag.heads checked p)
    (omega (arith, length-bytes_of dag has (clusters_on dag.heads p), tris_on-le dag.heads checked p below))

-- a page is its clusters, then zeros
pub page-filled : (body new zeros : List ℕ) (end len : ℕ) → length new ≡ len → end ≤ len → take end new ≡ body →
    end ≡ length body → zeros ≡ replicate (len - end) 0
    → take end new ++ (zeros ++ drop (length new - end) (drop end new)) ≡ body ++ replicate (len - length body) 0
page-filled body new zeros end len size within front at fill =
    let none : drop (length new - end) (drop end new) ≡ [] =
    drop_all (length new - end) (drop end new) (omega (arith, length-drop end new)) in
    rw (none, append-nil zeros, front, fill, at) refl

-- The clusters of all levels in the order of their numbers, each with the number from which the groups of its maker's
-- level
-- count; and what a DAG's clusters that pass a test have.
use Rattle.std.proofs.Common.{◌≡◌, ◌∙◌, ◌<◌, ◌+◌, cond, ℕ, zero, suc, Bool, true, false, List, [], ◌∷◌, ◌++◌, length}
use Rattle.std.proofs.Common.{map, filter, flat_map, get_or, refl, sym, ap, arith}
use Rattle.std.specs.List.{range_with_len}
use Rattle.std.proofs.lemmas.List.{length-map, map-append}
use Rattle.std.proofs.lemmas.List.FromFn.{fill_by_all}
use Rattle.geom_core.specs.declared.triangles.Tagged.{Tagged}
use Rattle.dag_core.specs.declared.cluster_heads.ClusterHead.{ClusterHead}
use Rattle.dag_core.specs.declared.dags.Dag.{Dag}
use Rattle.dag_core.specs.Members.{all_clusters}
use Rattle.dag_core.specs.Members as dag_members
use Rattle.dag_core.specs.Triangles as triangles
use Rattle.dag_build.specs.declared.level_clusters.LevelCluster.{LevelCluster}
use Rattle.dag_build.specs.Grouping.{no_cluster}
use Rattle.dag_build.specs.Levels.{LevelGroup, tris_in}
use Rattle.dag_build.specs.Numbers.{clusters_in, groups_in, head_of, members_in}
use Rattle.dag_build.proofs.NumberLaws.{members_in-append}

-- a cluster, and the number of the first group of its maker's level
pub record Entry : Type 0 where
  pub base : ℕ
  pub cluster : LevelCluster

abbrev pub no_entry : Entry
no_entry = record { base = 0; cluster = no_cluster }

-- the entries of a level's clusters
abbrev pub entries_of : ℕ → List LevelCluster → List Entry
entries_of base clusters = map (λ cluster. record { base = base; cluster = cluster }) clusters

unfoldable pub entries_in : List (List LevelGroup) → List Entry
entries_in [] = []
entries_in (groups ∷ levels) = entries_in levels ++ entries_of (length (groups_in (groups ∷ levels)))
    (members_in groups)

abbrev pub head_of_entry : Entry → ClusterHead
head_of_entry entry = head_of entry.base entry.cluster

abbrev pub tris_of_entry : Entry → List Tagged
tris_of_entry entry = entry.cluster.tris

heads-of : (base : ℕ) (clusters : List LevelCluster) → map (head_of base) clusters ≡ map head_of_entry
    (entries_of base clusters)
heads-of base [] = refl
heads-of base (cluster ∷ clusters) = ap (λ list. head_of base cluster ∷ list) (heads-of base clusters)

pub entries-heads : (levels : List (List LevelGroup)) → clusters_in levels ≡ map head_of_entry (entries_in levels)
unfolding clusters_in entries_in
entries-heads [] = refl
entries-heads (groups ∷ levels) =
    let base : ℕ = length (groups_in (groups ∷ levels)) in
    ap (λ list. list ++ map (head_of base) (members_in groups)) (entries-heads levels)
    ∙ (ap (λ list. map head_of_entry (entries_in levels) ++ list) (heads-of base (members_in groups))
    ∙ sym (map-append head_of_entry (entries_in levels) (entries_of base (members_in groups))))

abbrev cluster_of_entry : Entry → LevelCluster
cluster_of_entry entry = entry.cluster

clusters-of : (base : ℕ) (clusters : List LevelCluster) → clusters ≡ map cluster_of_entry (entries_of base clusters)
clusters-of base [] = refl
clusters-of base (cluster ∷ clusters) = ap (λ list. cluster ∷ list) (clusters-of base clusters)

pub entries-clusters : (levels : List (List LevelGroup)) → members_in (groups_in levels) ≡ map cluster_of_entry
    (entries_in levels)
unfolding groups_in entries_in
entries-clusters [] = refl
entries-clusters (groups ∷ levels) =
    let base : ℕ = length (groups_in levels ++ groups) in
    members_in-append (groups_in levels) groups
    ∙ (ap (λ list. list ++ members_in groups) (entries-clusters levels)
    ∙ (ap (λ list. map cluster_of_entry (entries_in levels) ++ list) (clusters-of base (members_in groups))
    ∙ sym (map-append cluster_of_entry (entries_in levels) (entries_of base (members_in groups)))))

-- ---- a DAG of entries

-- the clusters of the DAG are these
pub record HasEntries (dag : Dag) (entries : List Entry) : Type 0 where
  pub heads : dag.heads.clusters ≡ map head_of_entry entries
  pub tris : dag.tris ≡ map tris_of_entry entries

pub mapped-at : {X Y : Type 0} (f : X → Y) (xs : List X) (k : ℕ) (d : X) → get_or (map f xs) k (f d) ≡ f (get_or xs k d)
mapped-at f [] k d = refl
mapped-at f (x ∷ xs) zero d = refl
mapped-at f (x ∷ xs) (suc k) d = mapped-at f xs k d

pub head-is : (dag : Dag) (entries : List Entry) (c : ℕ) → HasEntries dag entries →
    dag_members.cluster_at dag.heads c ≡ head_of_entry (get_or entries c no_entry)
head-is dag entries c has =
    ap (λ list. get_or list c dag_members.no_cluster) has.heads ∙ mapped-at head_of_entry entries c no_entry

pub tris-are : (dag : Dag) (entries : List Entry) (c : ℕ) → HasEntries dag entries →
    triangles.tris_at dag c ≡ tris_of_entry (get_or entries c no_entry)
tris-are dag entries c has = ap (λ list. get_or list c []) has.tris ∙ mapped-at tris_of_entry entries c no_entry

-- lists of the numbers that pass a test, by what the numbers name
by-name : {X A : Type 0} (f : X → List A) (test : X → Bool) (name : ℕ → X) (list : ℕ → List A) (passes : ℕ →
    Bool) (numbers : List ℕ) →
    ((c : ℕ) → list c ≡ f (name c)) → ((c : ℕ) → passes c ≡ test (name c)) →
    flat_map list (filter passes numbers) ≡ flat_map f (filter test (map name numbers))
by-name f test name list passes [] lists tests = refl
by-name {X} {A} f test name list passes (n ∷ numbers) lists tests =
    ap (λ b. flat_map list (cond b (n ∷ filter passes numbers) (filter passes numbers))) (tests n)
    ∙ go (test (name n)) (by-name f test name list passes numbers lists tests)
  where
    go : (b : Bool) → flat_map list (filter passes numbers) ≡ flat_map f (filter test (map name numbers)) →
        flat_map list (cond b (n ∷ filter passes numbers) (filter passes numbers))
        ≡ flat_map f (cond b (name n ∷ filter test (map name numbers)) (filter test (map name numbers)))
    go true rest = ap (λ xs. xs ++ flat_map list (filter passes numbers)) (lists n) ∙ ap (λ xs. f (name n) ++ xs) rest
    go false rest = rest

-- the triangles of the clusters that pass a test
pub tris-passing : (dag : Dag) (entries : List Entry) (test : ClusterHead → Bool) → HasEntries dag entries →
    triangles.tris_in dag (filter (λ c. test (dag_members.cluster_at dag.heads c)) (all_clusters dag.heads))
    ≡ flat_map tris_of_entry (filter (λ entry. test (head_of_entry entry)) entries)
tris-passing dag entries test has =
    let name : ℕ → Entry = λ c. get_or entries c no_entry in
    let passes : Entry → Bool = λ entry. test (head_of_entry entry) in
    let count : length dag.heads.clusters ≡ length entries = ap length has.heads ∙ length-map entries head_of_entry in
    let all : map name (range_with_len 0 (length dag.heads.clusters)) ≡ entries =
    sym (fill_by_all name entries (length dag.heads.clusters) no_entry (sym count) (λ k below. refl)) in
    by-name tris_of_entry passes name (triangles.tris_at dag) (λ c. test (dag_members.cluster_at dag.heads c))
    (all_clusters dag.heads)
    (λ c. tris-are dag entries c has) (λ c. ap test (head-is dag entries c has))
    ∙ ap (λ list. flat_map tris_of_entry (filter passes list)) all

-- lists of numbers in a row, by what the numbers name
pub in-a-row : {X A : Type 0} (f : X → List A) (list : ℕ → List A) (first : ℕ) (xs : List X) (d : X) →
    ((i : ℕ) → i < length xs → list (first + i) ≡ f (get_or xs i d)) →
    flat_map list (range_with_len first (length xs)) ≡ flat_map f xs
in-a-row f list first [] d each = refl
in-a-row {X} {A} f list first (x ∷ xs) d each =
    let here : list first ≡ f x = ap list (omega arith) ∙ each 0 (omega arith) in
    ap (λ ys. ys ++ flat_map list (range_with_len (first + 1) (length xs))) here
    ∙ ap (λ ys. f x ++ ys)
    (in-a-row f list (first + 1) xs d (λ i below. ap list (omega arith) ∙ each (suc i) (omega arith)))

-- the triangles of clusters in a row
pub tris-in-a-row : (dag : Dag) (first : ℕ) (clusters : List LevelCluster) →
    ((i : ℕ) → i < length clusters → triangles.tris_at dag (first + i) ≡ (get_or clusters i no_cluster).tris) →
    triangles.tris_in dag (range_with_len first (length clusters)) ≡ tris_in clusters
tris-in-a-row dag first clusters each =
    in-a-row (λ (cluster : LevelCluster). cluster.tris) (triangles.tris_at dag) first clusters no_cluster each

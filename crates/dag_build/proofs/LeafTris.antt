-- The leaves of a built DAG: they have each source triangle once.
use Rattle.std.proofs.Common.{◌≡◌, ◌≢◌, ◌∙◌, ◌<◌, ◌≤◌, ◌+◌, ◌==◌, cond, inl, inr, ℕ, Bool, true, false, List, [], ◌∷◌}
use Rattle.std.proofs.Common.{◌++◌, length, map, filter, flat_map, get_or, sum_by, is_none, All, Option, None, Some}
use Rattle.std.proofs.Common.{refl, sym, ap, subst, arith}
use Rattle.std.proofs.Math.Nat.{eq-or-lt_of_le}
use Rattle.std.proofs.Math.Seq.{get_or-append_seam}
use Rattle.std.proofs.lemmas.Bool.{cases_eq, eq-eqb, eqb-true, ne_eqb}
use Rattle.std.proofs.lemmas.Bool.Decides.{nat_tests}
use Rattle.std.proofs.lemmas.List.{append_assoc, length-append}
use Rattle.std.proofs.lemmas.List.Elements.{All-cons, All-head, All-nil, All-tail, filter-append}
use Rattle.std.proofs.lemmas.List.Sorted.{All-permutation, length_permutation, sum_by-IsPermutation}
use Rattle.std.proofs.lemmas.List.Sums.{sum_by-append, sum_by-cons}
use Rattle.geom_core.specs.declared.limits.TheConstants.{CLUSTERS_PER_GROUP, TRIANGLES_PER_CLUSTER}
use Rattle.geom_core.specs.declared.triangles.Tri.{Tri}
use Rattle.geom_core.specs.declared.triangles.Tagged.{Tagged}
use Rattle.dag_core.specs.declared.dags.Dag.{Dag}
use Rattle.dag_core.specs.Triangles.{leaf_tris, leaf_tris_from}
use Rattle.dag_build.specs.declared.level_clusters.LevelCluster.{LevelCluster}
use Rattle.dag_build.specs.declared.level_clusters.Maker.{Maker}
use Rattle.dag_build.specs.Built.{AreLevels, IsLevel}
use Rattle.dag_build.specs.Grouping.{full_sizes, no_triangle}
use Rattle.dag_build.specs.Levels.{LevelGroup, next_clusters, numbered, source_cluster, tris_in}
use Rattle.dag_build.specs.Numbers.{groups_in, maker_number, members_in}
use Rattle.dag_build.proofs.BuiltDags.{AreBuilt}
use Rattle.dag_build.proofs.ElementLaws.{All-joined, All-parts}
use Rattle.dag_build.proofs.BatchLaws.{cut-moved}
use Rattle.dag_build.proofs.NumberLaws.{nothing_left}
use Rattle.dag_build.proofs.Entries.{Entry, entries_in, entries_of, head_of_entry, tris-passing, tris_of_entry}
use Rattle.dag_build.proofs.GoodLevels.{AreGoodLevels}
use Rattle.dag_build.proofs.GoodClusters.{HasMaker}
use Rattle.dag_build.proofs.LevelLaws.{joined-made, members-moved}
use Rattle.dag_build.proofs.MadeSums.{has-entries}

-- ---- the leaves

-- a cluster that no group made
abbrev is_leaf_entry : Entry → Bool
is_leaf_entry entry = is_none (head_of_entry entry).made

filter-none : {X : Type 0} (test : X → Bool) (xs : List X) → All (λ x. test x ≡ false) xs → filter test xs ≡ []
filter-none test [] all = refl
filter-none {X} test (x ∷ xs) all =
    let P : X → Type 0 = λ y. test y ≡ false in
    ap (λ b. cond b (x ∷ filter test xs) (filter test xs)) (All-head P x xs all) ∙ filter-none test xs
    (All-tail P x xs all)

filter-all : {X : Type 0} (test : X → Bool) (xs : List X) → All (λ x. test x ≡ true) xs → filter test xs ≡ xs
filter-all test [] all = refl
filter-all {X} test (x ∷ xs) all =
    let P : X → Type 0 = λ y. test y ≡ true in
    ap (λ b. cond b (x ∷ filter test xs) (filter test xs)) (All-head P x xs all)
    ∙ ap (λ ys. x ∷ ys) (filter-all test xs (All-tail P x xs all))

no_leaf : (before : List LevelGroup) (base : ℕ) (maker : Option Maker) → before ≢ [] → HasMaker before maker →
    is_none (maker_number base maker) ≡ false
no_leaf before base None some has = absurd (some has)
no_leaf before base (Some maker) some has = refl

a_leaf : (base : ℕ) (maker : Option Maker) → HasMaker [] maker → is_none (maker_number base maker) ≡ true
a_leaf base None has = refl
a_leaf base (Some maker) has = absurd (omega (arith, has.within))

entries-all : (Q : Entry → Type 0) (base : ℕ) (clusters : List LevelCluster) →
    All (λ cluster. Q (record { base = base; cluster = cluster })) clusters →
    All Q (entries_of base clusters)
entries-all Q base [] all = All-nil Q
entries-all Q base (cluster ∷ clusters) all =
    let P : LevelCluster → Type 0 = λ one. Q (record { base = base; cluster = one }) in
    All-cons Q (record { base = base; cluster = cluster }) (entries_of base clusters) (All-head P cluster clusters all)
    (entries-all Q base clusters (All-tail P cluster clusters all))

-- a level with clusters has groups
level-some : (clusters : List LevelCluster) (groups : List LevelGroup) → clusters ≢ [] →
    IsLevel full_sizes clusters groups → groups ≢ []
level-some clusters groups some level none =
    let moved = members-moved CLUSTERS_PER_GROUP clusters groups level.grouped in
    let count = length_permutation clusters (members_in groups) moved in
    let zero = ap (λ list. length (members_in list)) none in
    some (nothing_left clusters (omega arith))

-- the later levels have no leaf
later-leaves : (tris : List Tri) (before : List LevelGroup) (clusters : List LevelCluster) (levels : List
    (List LevelGroup)) → before ≢ [] →
    AreLevels full_sizes clusters levels → AreGoodLevels tris before levels →
    filter is_leaf_entry (entries_in levels) ≡ []
unfolding AreLevels AreGoodLevels entries_in
later-leaves tris before clusters [] some levels good = refl
later-leaves tris before clusters (groups ∷ rest) some levels good =
    let base : ℕ = length (groups_in (groups ∷ rest)) in
    let own : List Entry = entries_of base (members_in groups) in
    let none : filter is_leaf_entry own ≡ [] = filter-none is_leaf_entry own
    (entries-all (λ entry. is_leaf_entry entry ≡ false) base (members_in groups)
    (λ k d within. no_leaf before base (get_or (members_in groups) k d).maker some (good.0.makers k d within))) in
    let later = later-leaves tris groups (next_clusters groups) rest
    (level-some clusters groups levels.0 levels.1.0) levels.1.1 good.1 in
    filter-append is_leaf_entry (entries_in rest) own
    ∙ (ap (λ list. list ++ filter is_leaf_entry own) later ∙ none)

joined-entries : (base : ℕ) (clusters : List LevelCluster) →
    flat_map tris_of_entry (entries_of base clusters) ≡ tris_in clusters
joined-entries base [] = refl
joined-entries base (cluster ∷ clusters) = ap (λ list. cluster.tris ++ list) (joined-entries base clusters)

-- the leaves are the clusters of level 0
level-leaves : (tris : List Tri) (clusters : List LevelCluster) (groups : List LevelGroup) (levels : List
    (List LevelGroup)) →
    AreLevels full_sizes clusters (groups ∷ levels) → AreGoodLevels tris [] (groups ∷ levels) →
    flat_map tris_of_entry (filter is_leaf_entry (entries_in (groups ∷ levels))) ≡ tris_in (members_in groups)
unfolding AreLevels AreGoodLevels entries_in
level-leaves tris clusters groups rest levels good =
    let base : ℕ = length (groups_in (groups ∷ rest)) in
    let own : List Entry = entries_of base (members_in groups) in
    let all : filter is_leaf_entry own ≡ own = filter-all is_leaf_entry own
    (entries-all (λ entry. is_leaf_entry entry ≡ true) base (members_in groups)
    (λ k d within. a_leaf base (get_or (members_in groups) k d).maker (good.0.makers k d within))) in
    let later = later-leaves tris groups (next_clusters groups) rest
    (level-some clusters groups levels.0 levels.1.0) levels.1.1 good.1 in
    ap (flat_map tris_of_entry)
    (filter-append is_leaf_entry (entries_in rest) own ∙ (ap (λ list. list ++ filter is_leaf_entry own) later ∙ all))
    ∙ joined-entries base (members_in groups)

-- ---- their sources

-- the triangle of the mesh with this number
abbrev source_tri : List Tri → ℕ → Tagged
source_tri tris source = record { tri = get_or tris source no_triangle.tri; source = source }

abbrev IsSourceTri : List Tri → Tagged → Type 0
IsSourceTri tris t = t ≡ source_tri tris t.source

numbered-source : (tris front rest : List Tri) → tris ≡ front ++ rest →
    All (IsSourceTri tris) (numbered (length front) rest)
unfolding numbered
numbered-source tris front [] is = All-nil (IsSourceTri tris)
numbered-source tris front (t ∷ rest) is =
    let len : length (front ++ t ∷ []) ≡ length front + 1 = length-append front (t ∷ []) in
    let here : get_or tris (length front) no_triangle.tri ≡ t =
    ap (λ list. get_or list (length front) no_triangle.tri) is ∙ get_or-append_seam front t rest no_triangle.tri in
    let tagged : Tri → Tagged = λ one. record { tri = one; source = length front } in
    All-cons (IsSourceTri tris) (tagged t) (numbered (length front + 1) rest) (ap tagged (sym here))
    (subst (λ n. All (IsSourceTri tris) (numbered n rest)) len
    (numbered-source tris (front ++ t ∷ []) rest (is ∙ sym (append_assoc front (t ∷ []) rest))))

abbrev one_if : Bool → ℕ
one_if b = cond b 1 0

-- how many of the triangles have this source
abbrev from_count : ℕ → List Tagged → ℕ
from_count source list = sum_by (λ t. one_if (t.source == source)) list

numbered-before : (source first : ℕ) (tris : List Tri) → source < first → from_count source (numbered first tris) ≡ 0
unfolding numbered
numbered-before source first [] before = refl
numbered-before source first (t ∷ tris) before =
    let one : Tagged = record { tri = t; source = first } in
    let here : one_if (first == source) ≡ 0 = ap one_if (differs first source before) in
    let rest = numbered-before source (first + 1) tris (omega arith) in
    sum_by-cons (λ (u : Tagged). one_if (u.source == source)) one (numbered (first + 1) tris) ∙ omega arith
  where
    differs : (m n : ℕ) → n < m → (m == n) ≡ false
    differs m n h = grind (arith, nat_tests)

numbered-once : (source first : ℕ) (tris : List Tri) → first ≤ source → source < first + length tris →
    from_count source (numbered first tris) ≡ 1
unfolding numbered
numbered-once source first [] from below = absurd (omega arith)
numbered-once source first (t ∷ tris) from below =
    let one : Tagged = record { tri = t; source = first } in
    let weight : Tagged → ℕ = λ u. one_if (u.source == source) in
    elim (cases_eq first source) [
      | inl same ↦
          let here : one_if (first == source) ≡ 1 = ap one_if (eq-eqb first source same) in
          let rest = numbered-before source (first + 1) tris (omega (arith, same)) in
          sum_by-cons weight one (numbered (first + 1) tris) ∙ omega arith
      | inr other ↦
          let here : one_if (first == source) ≡ 0 = ap one_if (ne_eqb first source other) in
          let later : first < source = after first source from other in
          let rest = numbered-once source (first + 1) tris (omega arith) (omega arith) in
          sum_by-cons weight one (numbered (first + 1) tris) ∙ omega arith
    ]
  where
    after : (m n : ℕ) → m ≤ n → m ≢ n → m < n
    after m n h k = elim (eq-or-lt_of_le h) [ inl same ↦ absurd (k same) | inr less ↦ less ]

from_count-append : (source : ℕ) (list more : List Tagged) →
    from_count source (list ++ more) ≡ from_count source list + from_count source more
from_count-append source list more = sum_by-append (λ (t : Tagged). one_if (t.source == source)) list more

from_count-clusters : (source : ℕ) (clusters : List LevelCluster) →
    from_count source (tris_in clusters) ≡ sum_by (λ cluster. from_count source cluster.tris) clusters
from_count-clusters source [] = refl
from_count-clusters source (cluster ∷ clusters) =
    from_count-append source cluster.tris (tris_in clusters)
    ∙ (ap (λ n. from_count source cluster.tris + n) (from_count-clusters source clusters)
    ∙ sym (sum_by-cons (λ (one : LevelCluster). from_count source one.tris) cluster clusters))

filter-count : (source : ℕ) (list : List Tagged) → length (filter
    (λ t. t.source == source) list) ≡ from_count source list
filter-count source [] = refl
filter-count source (t ∷ list) =
    go (t.source == source) (filter-count source list) ∙ sym (sum_by-cons (λ (u : Tagged). one_if
    (u.source == source)) t list)
  where
    go : (b : Bool) → length (filter (λ u. u.source == source) list) ≡ from_count source list →
        length (cond b (t ∷ filter (λ u. u.source == source) list) (filter
        (λ u. u.source == source) list)) ≡ one_if b + from_count source list
    go true rest = omega arith
    go false rest = omega arith

filter-each : {X : Type 0} (P : X → Type 0) (test : X → Bool) (xs : List X) → All P xs →
    All (λ x. (test x ≡ true) × P x) (filter test xs)
filter-each {X} P test [] all = All-nil (λ x. (test x ≡ true) × P x)
filter-each {X} P test (x ∷ xs) all =
    go (test x) refl (filter-each P test xs (All-tail P x xs all))
  where
    go : (b : Bool) → test x ≡ b → All (λ y. (test y ≡ true) × P y) (filter test xs) →
        All (λ y. (test y ≡ true) × P y) (cond b (x ∷ filter test xs) (filter test xs))
    go true passes rest = All-cons (λ y. (test y ≡ true) × P y) x (filter test xs) (passes, All-head P x xs all) rest
    go false fails rest = rest

-- a list of one such triangle
only-one : (tris : List Tri) (source : ℕ) (list : List Tagged) → length list ≡ 1 →
    All (λ t. ((t.source == source) ≡ true) × IsSourceTri tris t) list → list ≡ source_tri tris source ∷ []
only-one tris source [] one all = absurd (omega (arith, one))
only-one tris source (t ∷ list) one all =
    let P : Tagged → Type 0 = λ u. ((u.source == source) ≡ true) × IsSourceTri tris u in
    let here = All-head P t list all in
    let same : t ≡ source_tri tris source = here.1 ∙ ap (source_tri tris) (eqb-true t.source source here.0) in
    ap (λ rest. t ∷ rest) (nothing_left list (omega (arith, one))) ∙ ap (λ u. u ∷ []) same

-- exactly one leaf triangle has this source: the mesh's triangle of this number
pub leaf-is : (tris : List Tri) (levels : List (List LevelGroup)) (dag : Dag) (source : ℕ) →
    AreBuilt tris levels dag → source < length tris →
    leaf_tris_from dag source ≡ source_tri tris source ∷ []
unfolding AreLevels groups_in
leaf-is tris [] dag source all below = absurd (let some = all.counts.some_groups in omega (arith, some))
leaf-is tris (groups ∷ levels) dag source all below =
    let grown = all.grown in
    let clusters : List LevelCluster = map source_cluster all.leaves in
    let list : List Tagged = tris_in (members_in groups) in
    let whole : List Tagged = numbered 0 tris in
    let moved = members-moved CLUSTERS_PER_GROUP clusters groups grown.1.0.grouped in
    let joined : tris_in clusters ≡ flat_map (λ (leaf : List Tagged). leaf) all.leaves = joined-made None all.leaves in
    let is : leaf_tris dag ≡ list =
    tris-passing dag (entries_in (groups ∷ levels)) (λ head. is_none head.made) (has-entries tris
    (groups ∷ levels) dag all)
    ∙ level-leaves tris clusters groups levels all.grown all.good in
    let count : from_count source list ≡ 1 =
    from_count-clusters source (members_in groups)
    ∙ (sum_by-IsPermutation (λ (cluster : LevelCluster). from_count source cluster.tris) clusters
    (members_in groups) moved
    ∙ (sym (from_count-clusters source clusters)
    ∙ (ap (from_count source) joined
    ∙ (sum_by-IsPermutation (λ (t : Tagged). one_if (t.source == source)) whole (flat_map (λ
    (leaf : List Tagged). leaf) all.leaves)
    (cut-moved TRIANGLES_PER_CLUSTER whole all.leaves all.cut)
    ∙ numbered-once source 0 tris (omega arith) (omega arith))))) in
    let own : LevelCluster → List Tagged = λ cluster. cluster.tris in
    let P : Tagged → Type 0 = IsSourceTri tris in
    let each_leaf : All P (tris_in clusters) =
    subst (All P) (sym joined) (All-permutation P whole (flat_map (λ (leaf : List Tagged). leaf) all.leaves)
    (cut-moved TRIANGLES_PER_CLUSTER whole all.leaves all.cut) (numbered-source tris [] tris refl)) in
    let each : All P list = All-joined P own (members_in groups)
    (All-permutation (λ cluster. All P cluster.tris) clusters (members_in groups) moved
    (All-parts P own clusters each_leaf)) in
    let from : Tagged → Bool = λ t. t.source == source in
    ap (filter from) is
    ∙ only-one tris source (filter from list) (filter-count source list ∙ count) (filter-each P from list each)

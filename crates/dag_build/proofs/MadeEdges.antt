-- Of the clusters of all levels, how many edges those have that a group made.
use Rattle.std.proofs.Common.{◌≡◌, ◌∙◌, ◌<◌, ◌≤◌, ◌+◌, ◌==◌, cond, zero-add, ℕ, zero, suc, Bool, true, false, List, []}
use Rattle.std.proofs.Common.{◌∷◌, ◌++◌, length, map, filter, flat_map, get_or, sum_by, All, Option, None, Some, refl}
use Rattle.std.proofs.Common.{sym, ap, subst, arith}
use Rattle.std.proofs.lemmas.Bool.Decides.{nat_tests}
use Rattle.std.proofs.lemmas.List.{length-append, map-append}
use Rattle.std.proofs.lemmas.List.Elements.{All-head, All-tail}
use Rattle.std.proofs.lemmas.List.Sums.{sum_by-append, sum_by-cons}
use Rattle.geom_core.specs.declared.points.Pt.{Pt}
use Rattle.geom_core.specs.declared.triangles.Tri.{Tri}
use Rattle.geom_core.specs.declared.triangles.Tagged.{Tagged}
use Rattle.geom_core.specs.EdgeSum.{edge_count}
use Rattle.geom_core.specs.TaggedLists.{tris_of}
use Rattle.geom_core.proofs.EdgeSumLaws.{edge_count-append, edge_count-none}
use Rattle.dag_core.specs.Members.{is_made_by, is_maker}
use Rattle.dag_build.specs.declared.level_clusters.LevelCluster.{LevelCluster}
use Rattle.dag_build.specs.declared.level_clusters.Maker.{Maker}
use Rattle.dag_build.specs.Levels.{LevelGroup, clusters_of, made_from}
use Rattle.dag_build.specs.Numbers.{groups_in, maker_number, members_in}
use Rattle.dag_build.proofs.Entries.{Entry, entries_in, entries_of, head_of_entry, tris_of_entry}
use Rattle.dag_build.proofs.GoodLevels.{AreGoodLevels}
use Rattle.dag_build.proofs.GoodClusters.{HasMaker, group_of_level}
use Rattle.dag_build.proofs.MadeLaws.{head-made, is_from}

-- ---- counts of edges

-- how many edges of the triangles go from u to v
abbrev pub edges_in : Pt → Pt → List Tagged → ℕ
edges_in u v list = edge_count (tris_of list) u v

-- those of the cluster, where the test passes
abbrev pub edges_if : Bool → Pt → Pt → List Tagged → ℕ
edges_if test u v list = cond test (edges_in u v list) 0

edges_in-append : (list more : List Tagged) (u v : Pt) → edges_in u v
    (list ++ more) ≡ edges_in u v list + edges_in u v more
edges_in-append list more u v =
    ap (λ tris. edge_count tris u v) (map-append (λ (t : Tagged). t.tri) list more) ∙ edge_count-append
    (tris_of list) (tris_of more) u v

-- the edges of what passes a test
pub passing-edges : {X : Type 0} (f : X → List Tagged) (test : X → Bool) (xs : List X) (u v : Pt) →
    edges_in u v (flat_map f (filter test xs)) ≡ sum_by (λ x. edges_if (test x) u v (f x)) xs
passing-edges f test [] u v = edge_count-none u v
passing-edges {X} f test (x ∷ xs) u v =
    go (test x) (passing-edges f test xs u v) ∙ sym (sum_by-cons (λ y. edges_if (test y) u v (f y)) x xs)
  where
    go : (b : Bool) → edges_in u v (flat_map f (filter test xs)) ≡ sum_by (λ x. edges_if (test x) u v (f x)) xs →
        edges_in u v (flat_map f (cond b (x ∷ filter test xs) (filter test xs)))
        ≡ edges_if b u v (f x) + sum_by (λ x. edges_if (test x) u v (f x)) xs
    go true rest = edges_in-append (f x) (flat_map f (filter test xs)) u v ∙ ap (λ n. edges_in u v (f x) + n) rest
    go false rest = rest ∙ sym (zero-add (sum_by (λ x. edges_if (test x) u v (f x)) xs))

-- the edges of what this group made, among these entries
abbrev pub made_edges : ℕ → Pt → Pt → List Entry → ℕ
made_edges g u v entries = sum_by (λ entry. edges_if (is_made_by g (head_of_entry entry)) u v
    (tris_of_entry entry)) entries

-- the edges of what the group at this place of its level made, among these clusters
abbrev pub edges_from : ℕ → Pt → Pt → List LevelCluster → ℕ
edges_from place u v clusters = sum_by (λ cluster. edges_if (is_from place cluster) u v cluster.tris) clusters

-- ---- levels

none_made : (before : List LevelGroup) (g base : ℕ) (maker : Option Maker) → HasMaker before maker →
    base + length before ≤ g →
    is_maker g (maker_number base maker) ≡ false
none_made before g base None has beyond = refl
none_made before g base (Some maker) has beyond = differs (base + maker.group) g (omega (arith, has.within))
  where
    differs : (m n : ℕ) → m < n → (m == n) ≡ false
    differs m n h = grind (arith, nat_tests)

-- a group that comes before the makers' level
pub none_after : (g base : ℕ) (maker : Option Maker) → g < base → is_maker g (maker_number base maker) ≡ false
none_after g base None below = refl
none_after g base (Some maker) below = differs (base + maker.group) g (omega arith)
  where
    differs : (m n : ℕ) → n < m → (m == n) ≡ false
    differs m n h = grind (arith, nat_tests)

pub entries-none : (g base : ℕ) (u v : Pt) (clusters : List LevelCluster) →
    All (λ cluster. is_maker g (maker_number base cluster.maker) ≡ false) clusters →
    made_edges g u v (entries_of base clusters) ≡ 0
entries-none g base u v [] all = refl
entries-none g base u v (cluster ∷ clusters) all =
    let P : LevelCluster → Type 0 = λ one. is_maker g (maker_number base one.maker) ≡ false in
    let entry : Entry = record { base = base; cluster = cluster } in
    let here : edges_if (is_maker g (maker_number base cluster.maker)) u v cluster.tris ≡ 0 =
    ap (λ b. edges_if b u v cluster.tris) (All-head P cluster clusters all) in
    let rest = entries-none g base u v clusters (All-tail P cluster clusters all) in
    sum_by-cons (λ (e : Entry). edges_if (is_made_by g (head_of_entry e)) u v (tris_of_entry e)) entry
    (entries_of base clusters) ∙ omega arith

pub level-edges : (g base : ℕ) (u v : Pt) (later : List Entry) (clusters : List LevelCluster) →
    made_edges g u v (later ++ entries_of base clusters) ≡ made_edges g u v later + made_edges g u v
    (entries_of base clusters)
level-edges g base u v later clusters =
    sum_by-append (λ (e : Entry). edges_if (is_made_by g (head_of_entry e)) u v (tris_of_entry e)) later
    (entries_of base clusters)

-- a group before these levels made none of their clusters but the first level's
pub levels-none : (tris : List Tri) (before : List LevelGroup) (levels : List (List LevelGroup)) (g : ℕ) (u v : Pt) →
    AreGoodLevels tris before levels →
    length (groups_in levels) + length before ≤ g → made_edges g u v (entries_in levels) ≡ 0
unfolding AreGoodLevels entries_in groups_in
levels-none tris before [] g u v good beyond = refl
levels-none tris before (groups ∷ levels) g u v good beyond =
    let base : ℕ = length (groups_in levels ++ groups) in
    let len = length-append (groups_in levels) groups in
    let later = levels-none tris groups levels g u v good.1 (omega arith) in
    let here = entries-none g base u v (members_in groups) (λ k d within.
    none_made before g base (get_or (members_in groups) k d).maker (good.0.makers k d within) (omega arith)) in
    level-edges g base u v (entries_in levels) (members_in groups) ∙ omega arith

-- the level's own clusters, by places
pub own-edges : (base place : ℕ) (u v : Pt) (clusters : List LevelCluster) →
    made_edges (base + place) u v (entries_of base clusters) ≡ edges_from place u v clusters
own-edges base place u v [] = refl
own-edges base place u v (cluster ∷ clusters) =
    let entry : Entry = record { base = base; cluster = cluster } in
    let same : edges_if (is_made_by (base + place) (head_of_entry entry)) u v cluster.tris ≡ edges_if
    (is_from place cluster) u v cluster.tris =
    ap (λ b. edges_if b u v cluster.tris) (head-made base place cluster) in
    let rest = own-edges base place u v clusters in
    sum_by-cons (λ (e : Entry). edges_if (is_made_by (base + place) (head_of_entry e)) u v (tris_of_entry e)) entry
    (entries_of base clusters)
    ∙ (omega arith ∙ sym (sum_by-cons (λ (c : LevelCluster). edges_if (is_from place c) u v c.tris) cluster clusters))

-- ---- what groups made

-- the edges of clusters of one maker
one-maker : (place : ℕ) (u v : Pt) (maker : Maker) (made : List (List Tagged)) (b : Bool) →
    (0 + maker.group == place) ≡ b →
    edges_from place u v (map (λ tris. record { tris = tris; maker = Some maker }) made) ≡ edges_if b u v (flat_map
    (λ leaf. leaf) made)
one-maker place u v maker [] true is = sym (edge_count-none u v)
one-maker place u v maker [] false is = refl
one-maker place u v maker (leaf ∷ made) b is =
    let cluster : LevelCluster = record { tris = leaf; maker = Some maker } in
    let rest = one-maker place u v maker made b is in
    sum_by-cons (λ (c : LevelCluster). edges_if (is_from place c) u v c.tris) cluster (map
    (λ tris. record { tris = tris; maker = Some maker }) made)
    ∙ go b is rest
  where
    go : (b : Bool) → (0 + maker.group == place) ≡ b →
        edges_from place u v (map (λ tris. record { tris = tris; maker = Some maker }) made) ≡ edges_if b u v
        (flat_map (λ leaf. leaf) made) →
        edges_if (0 + maker.group == place) u v leaf + edges_from place u v (map
        (λ tris. record { tris = tris; maker = Some maker }) made)
        ≡ edges_if b u v (leaf ++ flat_map (λ leaf. leaf) made)
    go true is rest =
        let here : edges_if (0 + maker.group == place) u v leaf ≡ edges_in u v leaf = ap
        (λ b. edges_if b u v leaf) is in
        let both = edges_in-append leaf (flat_map (λ (leaf : List Tagged). leaf) made) u v in
        omega arith
    go false is rest =
        let here : edges_if (0 + maker.group == place) u v leaf ≡ 0 = ap (λ b. edges_if b u v leaf) is in
        omega arith

same_place : (m n : ℕ) → m ≡ n → (0 + m == n) ≡ true
same_place m n h = grind (arith, nat_tests)

other_place : (m n : ℕ) → m < n → (0 + m == n) ≡ false
other_place m n h = grind (arith, nat_tests)

place_after : (m n : ℕ) → n < m → (0 + m == n) ≡ false
place_after m n h = grind (arith, nat_tests)

-- groups after the place made none of these
none-from : (place p : ℕ) (u v : Pt) (groups : List LevelGroup) → p < place →
    edges_from p u v (made_from place groups) ≡ 0
unfolding made_from
none-from place p u v [] below = refl
none-from place p u v (group ∷ groups) below =
    let maker : Maker = record { group = place; error = group.error; cube = group.cube } in
    let here = one-maker p u v maker group.made false (place_after place p below) in
    let rest = none-from (place + 1) p u v groups (omega arith) in
    sum_by-append (λ (c : LevelCluster). edges_if (is_from p c) u v c.tris) (clusters_of place group) (made_from
    (place + 1) groups) ∙ omega arith

-- the edges of what the group at the place made
pub from-edges : (place p : ℕ) (u v : Pt) (groups : List LevelGroup) → p < length groups →
    edges_from (place + p) u v (made_from place groups) ≡ edges_in u v (flat_map (λ leaf. leaf)
    (group_of_level groups p).made)
unfolding made_from
from-edges place p u v [] below = absurd (omega arith)
from-edges place zero u v (group ∷ groups) below =
    let maker : Maker = record { group = place; error = group.error; cube = group.cube } in
    let here = one-maker (place + 0) u v maker group.made true (same_place place (place + 0) (omega arith)) in
    let rest = none-from (place + 1) (place + 0) u v groups (omega arith) in
    sum_by-append (λ (c : LevelCluster). edges_if (is_from (place + 0) c) u v c.tris) (clusters_of place group)
    (made_from (place + 1) groups)
    ∙ omega arith
from-edges place (suc p) u v (group ∷ groups) below =
    let maker : Maker = record { group = place; error = group.error; cube = group.cube } in
    let here = one-maker (place + suc p) u v maker group.made false (other_place place (place + suc p) (omega arith)) in
    let next : place + 1 + p ≡ place + suc p = omega arith in
    let rest = subst (λ n. edges_from n u v (made_from (place + 1) groups) ≡ edges_in u v (flat_map (λ
    (leaf : List Tagged). leaf) (group_of_level groups p).made))
    next (from-edges (place + 1) p u v groups (omega arith)) in
    sum_by-append (λ (c : LevelCluster). edges_if (is_from (place + suc p) c) u v c.tris) (clusters_of place group)
    (made_from (place + 1) groups)
    ∙ omega arith

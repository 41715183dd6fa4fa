-- Levels, one after another.
use Rattle.std.proofs.Common.{◌==◌, Bool, true, false, ◌≡◌, ◌≢◌, ◌≤◌, ◌<◌, ◌+◌, ◌*◌, ℕ, List, [], ◌∷◌, ◌++◌, map}
use Rattle.std.proofs.Common.{length, All, None, refl, sym, ap, ◌∙◌, subst, arith}
use Rattle.std.proofs.lemmas.Bool.{eqb-true}
use Rattle.std.proofs.lemmas.List.{length-append, length-map, map-append}
use Rattle.std.proofs.lemmas.List.Elements.{All-map, All-nil, All-push}
use Rattle.geom_core.specs.declared.limits.TheConstants.{MAX_TRIANGLES, TRIANGLES_PER_CLUSTER}
use Rattle.geom_core.specs.declared.triangles.Tri.{Tri}
use Rattle.geom_core.specs.declared.triangles.Tagged.{Tagged}
use Rattle.dag_build.specs.declared.level_clusters.LevelCluster.{LevelCluster}
use Rattle.dag_build.specs.Built.{AreLevels, IsLevel}
use Rattle.dag_build.specs.Grouping.{AreCut, Sizes, full_sizes}
use Rattle.dag_build.specs.Levels.{LevelGroup, next_clusters, numbered, source_cluster, tris_in}
use Rattle.dag_build.specs.Numbers.{groups_in, members_in}
use Rattle.dag_build.specs.Internal.DoneLevels.{AreLevelsDone, HasProper, IsProper}
use Rattle.dag_build.specs.Internal.Groups.{unmade}
use Rattle.dag_build.proofs.CutLaws.{numbered-tris}
use Rattle.dag_build.proofs.LevelLaws.{clusters-few, joined-made, level-is, made-proper}
use Rattle.dag_build.proofs.BatchLaws.{cut-sizes, cut-total}
use Rattle.dag_build.proofs.NumberLaws.{groups_in-append, groups_in-cons, groups_in-none, members_in-append}
use Rattle.dag_build.proofs.NumberLaws.{members_in-unmade}

-- the levels from one with clusters `first` on lead to a level with the clusters `last`
unfoldable pub LeadTo : Sizes → List LevelCluster → List (List LevelGroup) → List LevelCluster → Type 0
LeadTo sizes first [] last = first ≡ last
LeadTo sizes first (groups ∷ levels) last =
    (first ≢ []) × (IsLevel sizes first groups × LeadTo sizes (next_clusters groups) levels last)

lead-more : (sizes : Sizes) (first : List LevelCluster) (levels : List (List LevelGroup)) (now : List LevelCluster)
    (groups : List LevelGroup) →
    LeadTo sizes first levels now → now ≢ [] → IsLevel sizes now groups → LeadTo sizes first (levels ++ groups ∷ [])
    (next_clusters groups)
unfolding LeadTo
lead-more sizes first [] now groups lead some level =
    (subst (λ xs. xs ≢ []) (sym lead) some, (subst (λ xs. IsLevel sizes xs groups) (sym lead) level, refl))
lead-more sizes first (one ∷ levels) now groups lead some level =
    (lead.0, (lead.1.0, lead-more sizes (next_clusters one) levels now groups lead.1.1 some level))

levels-from : (sizes : Sizes) (first : List LevelCluster) (levels : List (List LevelGroup)) →
    LeadTo sizes first levels [] →
    AreLevels sizes first levels
unfolding LeadTo AreLevels
levels-from sizes first [] lead = lead
levels-from sizes first (one ∷ levels) lead = (
  lead.0,
  (
    lead.1.0,
    levels-from sizes (next_clusters one)
        levels lead.1.1,
  ),
)

-- the levels that are done, without what their groups made, and the clusters of the next one
pub record BuiltTo (first : List LevelCluster) (done : List (List LevelGroup)) (now : List LevelCluster) : Type 0 where
  pub levels : List (List LevelGroup)
  pub lead : LeadTo full_sizes first levels now
  pub unmade_of : done ≡ map (map unmade) levels
  pub proper : All IsProper now
  pub members : All (All HasProper) done
  pub groups_limit : length (groups_in done) ≤ length (members_in (groups_in done))
  -- each later level has at most seven eighths of the triangles of the one before it
  pub clusters_limit : length (members_in (groups_in done)) + 8 * length (tris_in now) ≤ 8 * length (tris_in first)

pub built-none : (first : List LevelCluster) → All IsProper first → BuiltTo first [] first
unfolding LeadTo groups_in
built-none first proper = record {
  levels = [];
  lead = refl;
  unmade_of = refl;
  proper = proper;
  members = All-nil (All HasProper);
  groups_limit = omega arith;
  clusters_limit = omega arith;
}

pub built-few : (first : List LevelCluster) (done : List (List LevelGroup)) (now : List LevelCluster) →
    BuiltTo first done now →
    length (tris_in first) ≤ MAX_TRIANGLES → length (tris_in now) ≤ MAX_TRIANGLES
built-few first done now built limit = let all = built.clusters_limit in omega arith

unmade-proper : (groups : List LevelGroup) → All HasProper groups → All HasProper (map unmade groups)
unmade-proper groups all = All-map HasProper unmade groups all

-- one more level
pub built-more : (first : List LevelCluster) (done : List (List LevelGroup)) (now next : List LevelCluster)
    (groups held : List LevelGroup) →
    BuiltTo first done now → length (tris_in first) ≤ MAX_TRIANGLES → now ≢ [] → IsLevel full_sizes now groups →
    held ≡ map unmade groups → next ≡ next_clusters groups → BuiltTo first (done ++ held ∷ []) next
built-more first done now next groups held built limit some level same made =
    let few = built-few first done now built limit in
    let here = level-is now groups built.proper few level in
    let clusters = clusters-few now built.proper in
    let order : groups_in (done ++ held ∷ []) ≡ held ++ groups_in done =
    groups_in-append done (held ∷ []) ∙ ap (λ xs. xs ++ groups_in done) (groups_in-cons held [] ∙ ap
    (λ xs. xs ++ held) groups_in-none) in
    let a = ap length order in
    let b = length-append held (groups_in done) in
    let d = ap (λ xs. length (members_in xs)) order in
    let e = ap length (members_in-append held (groups_in done)) in
    let f = length-append (members_in held) (members_in (groups_in done)) in
    let g = ap (λ xs. length (members_in xs)) same in
    let h = ap length (members_in-unmade groups) in
    let i = ap length same in
    let j = length-map groups unmade in
    let m = ap (λ xs. length (tris_in xs)) made in
    let old_groups = built.groups_limit in
    let old_clusters = built.clusters_limit in
    record {
      levels = built.levels ++ groups ∷ [];
      lead = subst (LeadTo full_sizes first (built.levels ++ groups ∷ [])) (sym made)
          (lead-more full_sizes first built.levels now groups built.lead some level);
      unmade_of = ap (λ xs. xs ++ held ∷ []) built.unmade_of ∙ (ap (λ xs. map (map unmade) built.levels ++ xs ∷ [])
          same ∙
          sym (map-append (map unmade) built.levels (groups ∷ [])));
      proper = subst (All IsProper) (sym made) here.next;
      members = All-push (All HasProper) done held built.members (subst (All HasProper) (sym same)
          (unmade-proper groups here.members));
      groups_limit = omega (arith, here.few_groups, here.same_count);
      clusters_limit = omega (arith, here.same_count, here.shrinks);
    }

-- a test of a list's length
pub are_some : (clusters : List LevelCluster) (n : ℕ) (b : Bool) → b ≡ (n == 0) → b ≡ false → n ≡ length clusters →
    clusters ≢ []
are_some clusters n b is off len = λ none.
    let zero : n ≡ 0 = len ∙ ap length none in
    cc (is, off, ap (λ k. k == 0) zero)

pub are_none : (clusters : List LevelCluster) (n : ℕ) (b : Bool) → b ≡ (n == 0) → b ≡ true → n ≡ length clusters →
    clusters ≡ []
are_none [] n b is on len = refl
are_none (c ∷ clusters) n b is on len =
    let zero : n ≡ 0 = eqb-true n 0 (sym is ∙ on) in
    absurd (omega arith)

some_clusters : (clusters : List LevelCluster) → clusters ≢ [] → 1 ≤ length clusters
some_clusters [] some = absurd (some refl)
some_clusters (c ∷ clusters) some = omega arith

-- the next level has fewer triangles
pub built-smaller : (first : List LevelCluster) (done : List (List LevelGroup)) (now next : List LevelCluster)
    (groups : List LevelGroup) →
    BuiltTo first done now → length (tris_in first) ≤ MAX_TRIANGLES → now ≢ [] → IsLevel full_sizes now groups →
    next ≡ next_clusters groups → length (tris_in next) < length (tris_in now)
built-smaller first done now next groups built limit some level made =
    let few = built-few first done now built limit in
    let here = level-is now groups built.proper few level in
    let clusters = clusters-few now built.proper in
    let one = some_clusters now some in
    let m = ap (λ xs. length (tris_in xs)) made in
    omega (arith, here.shrinks)

pub built-done : (first : List LevelCluster) (done : List (List LevelGroup)) (now : List LevelCluster) →
    BuiltTo first done now →
    length (tris_in first) ≤ MAX_TRIANGLES → now ≡ [] → AreLevelsDone first done
built-done first done now built limit none =
    let clusters = built.clusters_limit in
    let groups = built.groups_limit in
    record {
      levels = built.levels;
      grown = levels-from full_sizes first built.levels (subst (LeadTo full_sizes first built.levels) none built.lead);
      unmade_of = built.unmade_of;
      few = record { clusters = omega arith; groups = omega arith; members = built.members };
    }

-- ---- level 0

pub leaves-proper : (tris : List Tagged) (leaves : List (List Tagged)) → AreCut TRIANGLES_PER_CLUSTER tris leaves →
    All IsProper (map source_cluster leaves)
leaves-proper tris leaves cut = made-proper None leaves tt (cut-sizes TRIANGLES_PER_CLUSTER tris leaves (omega arith)
    cut)

pub leaves-total : (tris : List Tri) (leaves : List (List Tagged)) → AreCut TRIANGLES_PER_CLUSTER (numbered 0 tris)
    leaves →
    length (tris_in (map source_cluster leaves)) ≡ length tris
leaves-total tris leaves cut =
    let plain : Tagged → Tri = λ t. t.tri in
    ap length (joined-made None leaves) ∙ (cut-total TRIANGLES_PER_CLUSTER (numbered 0 tris) leaves cut ∙
    (sym (length-map (numbered 0 tris) plain) ∙ ap length (numbered-tris 0 tris)))

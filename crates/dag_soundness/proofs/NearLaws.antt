-- The rules on sources and corners at an index, by the place of a leaf triangle.
use Rattle.std.proofs.Common.{◌≡◌, ◌==◌, ◌<◌, ℕ, Bool, true, false, not, ◌&&◌, [], ◌∷◌, length, nat_lt}
use Rattle.std.proofs.Common.{refl, sym, ap, ◌∙◌, arith}
use Rattle.std.specs.List.{list_all}
use Rattle.std.proofs.lemmas.Bool.Decides.{nat_tests}
use Rattle.geom_core.specs.declared.triangles.Tagged.{Tagged}
use Rattle.dag_core.specs.declared.dags.Dag.{Dag}
use Rattle.dag_core.specs.TriangleRules.{breaks_corners, breaks_source, error_of, is_near, is_near_source}
use Rattle.dag_core.specs.Triangles.{leaf_tris_from, tris_at}

within_test : (k n : ℕ) (b : Bool) → k < n → (nat_lt k n && not b) ≡ not b
within_test k n b below = grind (arith, nat_tests)

is_one : (n : ℕ) → n ≡ 1 → (n == 1) ≡ true
is_one n one = grind (arith, nat_tests)

is_not_one : (n : ℕ) → (n ≡ 1 → ⊥) → (n == 1) ≡ false
is_not_one n other = grind (arith, nat_tests)

one_from : (n : ℕ) → not (n == 1) ≡ false → n ≡ 1
one_from n is = grind (arith, nat_tests)

pub source-kept : (dag : Dag) (source : ℕ) → source < dag.heads.sources → length (leaf_tris_from dag source) ≡ 1 →
    breaks_source dag source ≡ false
unfolding breaks_source
source-kept dag source below one =
    within_test source dag.heads.sources (length (leaf_tris_from dag source) == 1) below
    ∙ ap not (is_one (length (leaf_tris_from dag source)) one)

pub source-broken : (dag : Dag) (source : ℕ) → source < dag.heads.sources →
    (length (leaf_tris_from dag source) ≡ 1 → ⊥) → breaks_source dag source ≡ true
unfolding breaks_source
source-broken dag source below other =
    within_test source dag.heads.sources (length (leaf_tris_from dag source) == 1) below
    ∙ ap not (is_not_one (length (leaf_tris_from dag source)) other)

pub source-once : (dag : Dag) (source : ℕ) → source < dag.heads.sources → breaks_source dag source ≡ false →
    length (leaf_tris_from dag source) ≡ 1
unfolding breaks_source
source-once dag source below kept =
    one_from (length (leaf_tris_from dag source))
    (sym (within_test source dag.heads.sources (length (leaf_tris_from dag source) == 1) below) ∙ kept)

and_true : (b : Bool) → (b && true) ≡ b
and_true true = refl
and_true false = refl

-- a triangle, where the leaf triangle with its source is this
pub near-leaf : (dag : Dag) (most : ℕ) (t leaf : Tagged) → leaf_tris_from dag t.source ≡ leaf ∷ [] →
    is_near_source dag most t ≡ is_near most t.tri leaf.tri
unfolding is_near_source
near-leaf dag most t leaf is =
    ap (list_all (λ (s : Tagged). is_near most t.tri s.tri)) is ∙ and_true (is_near most t.tri leaf.tri)

pub corners-at : (dag : Dag) (c : ℕ) → c < length dag.heads.clusters →
    breaks_corners dag c ≡ not (list_all (is_near_source dag (error_of dag.heads c)) (tris_at dag c))
unfolding breaks_corners
corners-at dag c below =
    within_test c (length dag.heads.clusters)
    (list_all (is_near_source dag (error_of dag.heads c)) (tris_at dag c)) below

-- What becomes of a group.
use Rattle.std.proofs.Common.{◌≡◌, ◌≤◌, ◌+◌, ◌*◌, ℕ, Bool, true, false, ◌||◌, nat_lt, if◌then◌else◌, List, map, length}
use Rattle.std.proofs.Common.{Some, refl, ap, ◌∙◌, subst, arith}
use Rattle.std.proofs.lemmas.Bool.Decides.{nat_tests}
use Rattle.std.proofs.lemmas.List.{length-map}
use Rattle.geom_core.specs.declared.boxes.Cube.{Cube}
use Rattle.geom_core.specs.declared.limits.TheConstants.{MAX_ERROR, TRIANGLES_PER_CLUSTER}
use Rattle.geom_core.specs.declared.points.Pt.{Pt}
use Rattle.geom_core.specs.declared.triangles.Tagged.{Tagged}
use Rattle.geom_core.specs.Boxes.{hull_of}
use Rattle.geom_core.specs.TaggedLists.{tris_of}
use Rattle.rim_collapse.specs.declared.states.Kept.{Kept}
use Rattle.rim_collapse.specs.Moved.{moved_of}
use Rattle.rim_collapse.specs.Simplified.{IsSimplified}
use Rattle.rim_collapse.specs.States.{tagged_of}
use Rattle.dag_build.specs.declared.level_clusters.LevelCluster.{LevelCluster}
use Rattle.dag_build.specs.Levels.{tris_in}
use Rattle.dag_build.specs.Outcomes.{AreMade, AreRimPoints, IsOutcome, greatest_error, is_terminal, points_of}
use Rattle.dag_build.specs.Internal.Groups.{group_of}

or_false : (a b : Bool) → (a || b) ≡ false → (a ≡ false) × (b ≡ false)
or_false true b h = absurd (cc h)
or_false false true h = absurd (cc h)
or_false false false h = (refl, refl)

not_below : (m n : ℕ) → nat_lt m n ≡ false → n ≤ m
not_below m n h = grind (arith, nat_tests)

-- a group that isn't terminal leaves few triangles and has an error that fits
pub record GoesOn (level_clusters tris left error : ℕ) : Type 0 where
  pub few : 8 * left ≤ 7 * tris
  pub error_limit : error ≤ MAX_ERROR

pub goes_on : (level_clusters tris left error : ℕ) → is_terminal level_clusters tris left error ≡ false →
    GoesOn level_clusters tris left error
unfolding is_terminal
goes_on level_clusters tris left error h =
    let last = or_false (nat_lt level_clusters 2 || nat_lt left 1 || nat_lt (7 * tris) (8 * left))
    (nat_lt MAX_ERROR error) h in
    let third = or_false (nat_lt level_clusters 2 || nat_lt left 1) (nat_lt (7 * tris) (8 * left)) last.0 in
    record {
      few = not_below (7 * tris) (8 * left) third.1;
      error_limit = not_below MAX_ERROR error last.1;
    }

pub outcome-is : (members : List LevelCluster) (level_clusters : ℕ) (tris : List Tagged) (locked : List Pt)
    (kept : List Kept)
    (moved greatest : ℕ) (left : List Tagged) (terminal : Bool) (error : ℕ) (cube : Cube) → tris ≡ tris_in members →
    AreRimPoints (tris_of (tris_in members)) locked → IsSimplified tris locked kept → left ≡ map tagged_of kept →
    moved ≡ moved_of kept → greatest ≡ greatest_error members →
    terminal ≡ is_terminal level_clusters (length tris) (length left) (moved + greatest) →
    error ≡ (if terminal then 0 else moved + greatest) → hull_of (points_of members) ≡ Some cube →
    (made : List (List Tagged)) → AreMade TRIANGLES_PER_CLUSTER terminal left made →
    IsOutcome TRIANGLES_PER_CLUSTER level_clusters (group_of members error terminal cube made)
outcome-is members level_clusters tris locked kept moved greatest left terminal error cube all rim simplified is far
    most ends sum box made makes =
    let size : length left ≡ length kept = ap length is ∙ length-map kept tagged_of in
    let total : moved + greatest ≡ moved_of kept + greatest_error members = rw (far, most) refl in
    record {
      locked = locked;
      rim_points = rim;
      kept = kept;
      simplified = subst (λ xs. IsSimplified xs locked kept) all simplified;
      terminal = ends ∙ (ap (λ xs. is_terminal level_clusters (length xs) (length left) (moved + greatest)) all ∙
          (ap (λ n. is_terminal level_clusters (length (tris_in members)) n (moved + greatest)) size ∙
          ap (is_terminal level_clusters (length (tris_in members)) (length kept)) total));
      error = sum ∙ ap (λ n. if terminal then 0 else n) total;
      cube = box;
      made = subst (λ xs. AreMade TRIANGLES_PER_CLUSTER terminal xs made) is makes;
    }

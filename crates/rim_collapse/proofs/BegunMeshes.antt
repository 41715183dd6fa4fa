-- The mesh before any collapse.
use Rattle.std.proofs.Common.{◌≡◌, ◌≤◌, true}
use Rattle.std.proofs.Common.{List, [], ◌∷◌, length, All, refl, sym, ap, ◌∙◌, subst}
use Rattle.std.proofs.Common.{arith}
use Rattle.std.proofs.lemmas.Bool.{and_parts}
use Rattle.std.proofs.lemmas.List.Elements.{All-cons, All-head}
use Rattle.std.proofs.lemmas.List.Elements.{All-nil, All-tail}
use Rattle.geom_core.specs.declared.limits.TheConstants.{TRIANGLES_PER_GROUP}
use Rattle.geom_core.specs.declared.points.Pt.{Pt}
use Rattle.geom_core.specs.declared.triangles.Tagged.{Tagged}
use Rattle.geom_core.specs.Limits.{has_distinct_corners, has_grid_corners, IsGridTriangle}
use Rattle.geom_core.specs.TaggedLists.{tris_of}
use Rattle.half_mesh.proofs.IncidenceLaws.{filter-all}
use Rattle.rim_collapse.specs.States.{begun}
use Rattle.rim_collapse.specs.declared.chains.Chains.{Chains}
use Rattle.rim_collapse.specs.declared.faces.Face.{Face}
use Rattle.rim_collapse.specs.Internal.Chains.{AreChained}
use Rattle.rim_collapse.specs.Internal.Faces.{IsNumbered, has_distinct_numbers, left}
use Rattle.rim_collapse.specs.Internal.Faces.{state_of, tri_at, tris_at}
use Rattle.rim_collapse.specs.Internal.Meshes.{IsMesh}
use Rattle.rim_collapse.proofs.FaceLaws.{IsAscending, distinct-face, first-tris, length-state_of}

distinct-faces : (points : List Pt) (faces : List Face) → IsAscending points →
    All (IsNumbered (length points)) faces → All IsGridTriangle (tris_at points faces) →
    All (λ f. has_distinct_numbers f ≡ true) faces
distinct-faces points [] ascending numbered grid = All-nil (λ (f : Face). has_distinct_numbers f ≡ true)
distinct-faces points (f ∷ faces) ascending numbered grid =
    let whole = All-head IsGridTriangle (tri_at points f) (tris_at points faces) grid in
    All-cons (λ (g : Face). has_distinct_numbers g ≡ true) f faces
    (sym (distinct-face points f ascending (All-head (IsNumbered (length points)) f faces numbered)) ∙
    (and_parts (has_grid_corners (tri_at points f)) (has_distinct_corners (tri_at points f)) whole).1)
    (distinct-faces points faces ascending (All-tail (IsNumbered (length points)) f faces numbered)
    (All-tail IsGridTriangle (tri_at points f) (tris_at points faces) grid))

-- no face is dropped
pub left-begun : (tris : List Tagged) (points : List Pt) (faces : List Face) → IsAscending points →
    All (IsNumbered (length points)) faces → All IsGridTriangle (tris_of tris) →
    state_of tris points faces ≡ begun tris → left faces ≡ faces
left-begun tris points faces ascending numbered grid first =
    filter-all has_distinct_numbers faces (distinct-faces points faces ascending numbered
    (subst (All IsGridTriangle) (sym (first-tris tris points faces first)) grid))

pub count-begun : (tris : List Tagged) (points : List Pt) (faces : List Face) →
    state_of tris points faces ≡ begun tris → length faces ≡ length tris
count-begun tris points faces first =
    sym (length-state_of tris points faces) ∙ ap length first ∙ length_begun tris
  where
    length_begun : (some : List Tagged) → length (begun some) ≡ length some
    length_begun [] = refl
    length_begun (t ∷ some) = omega (arith, length_begun some)

pub mesh-begun : (tris : List Tagged) (points : List Pt) (faces seen : List Face) (chains : Chains) → seen ≡ faces →
    length tris ≤ TRIANGLES_PER_GROUP → IsAscending points → All (IsNumbered (length points)) faces →
    All IsGridTriangle (tris_of tris) → state_of tris points faces ≡ begun tris →
    AreChained (length points) seen chains → IsMesh points seen chains
mesh-begun tris points faces seen chains is few ascending numbered grid first linked = record {
  ascending = ascending;
  few = omega (arith, few, count-begun tris points faces first, ap length is);
  numbers = subst (All (IsNumbered (length points))) (sym is) numbered;
  triangles = subst (λ l. All IsGridTriangle (tris_at points l))
      (sym (ap left is ∙ left-begun tris points faces ascending numbered grid first))
      (subst (All IsGridTriangle) (sym (first-tris tris points faces first)) grid);
  linked = linked;
}

-- Rims that are joined piece by piece.
use Rattle.std.proofs.Common.{◌≡◌, ℕ, ◌≤◌, Bool, true, false, ◌&&◌, List, [], ◌∷◌, ◌++◌, length, get_or, All, map}
use Rattle.std.proofs.Common.{take, refl, sym, ap, ◌∙◌, arith}
use Rattle.std.proofs.lemmas.List.{append-nil, append_assoc, length-append, take_all}
use Rattle.std.proofs.lemmas.Grind.{flat_map-append}
use Rattle.geom_core.specs.declared.limits.TheConstants.{MAX_SUMMED_TRIANGLES}
use Rattle.geom_core.specs.declared.triangles.Tri.{Tri}
use Rattle.geom_core.specs.Limits.{IsGridTriangle, HasGridCorners, has_grid_corners, has_distinct_corners}
use Rattle.half_mesh.specs.Rim.{EdgeSums, IsRimOf, AreRimsOf, HaveSmallSums, all_of}
use Rattle.half_mesh.proofs.RimLaws.{few_have_small_sums}

pub are_none : AreRimsOf [] []
unfolding AreRimsOf
are_none = tt

pub are_pushed : (lists : List (List Tri)) (rims : List EdgeSums) (tris : List Tri) (rim : EdgeSums) →
    AreRimsOf lists rims →
    IsRimOf tris rim.edges rim.sums → AreRimsOf (lists ++ tris ∷ []) (rims ++ rim ∷ [])
unfolding AreRimsOf
are_pushed [] [] tris rim are is = (is, tt)
are_pushed [] (r ∷ rims) tris rim are is = absurd are
are_pushed (l ∷ lists) [] tris rim are is = absurd are
are_pushed (l ∷ lists) (r ∷ rims) tris rim are is = (are.0, are_pushed lists rims tris rim are.1 is)

-- one more piece
pub piece_joined : (tris : List Tri) (rest piece later : List Tri) (rims grown : List EdgeSums) (rim : EdgeSums) →
    (lists : List (List Tri)) × AreRimsOf lists rims × (tris ≡ all_of lists ++ rest) → rest ≡ piece ++ later →
    IsRimOf piece rim.edges rim.sums → grown ≡ rims ++ rim ∷ [] →
    (lists : List (List Tri)) × AreRimsOf lists grown × (tris ≡ all_of lists ++ later)
piece_joined tris rest piece later rims grown rim (lists, are, whole) parts is pushed = (
  lists ++ piece ∷ [],
  rw pushed (are_pushed lists rims piece rim are is),
  whole ∙ ap (λ l. all_of lists ++ l) parts ∙ sym (append_assoc (all_of lists) piece later) ∙
      ap (λ l. l ++ later) (sym (flat_map-append (λ (l : List Tri). l) lists (piece ∷ []) ∙
      ap (λ l. all_of lists ++ l) (append-nil piece))),
)

pub rest_is_few : (tris rest : List Tri) (lists : List (List Tri)) → tris ≡ all_of lists ++ rest →
    length rest ≤ length tris
rest_is_few tris rest lists whole = omega (arith, ap length whole, length-append (all_of lists) rest)

-- no triangles are left
pub all_joined : (tris rest : List Tri) (lists : List (List Tri)) → tris ≡ all_of lists ++ rest → length rest ≡ 0 →
    all_of lists ≡ tris
all_joined tris [] lists whole none = sym (whole ∙ append-nil (all_of lists))
all_joined tris (t ∷ rest) lists whole none = absurd (omega arith)

-- a triangle of a mesh has corners of one
pub grid_corners : (tris : List Tri) → All IsGridTriangle tris → All HasGridCorners tris
grid_corners tris each k d in_bounds =
    first (has_grid_corners (get_or tris k d)) (has_distinct_corners (get_or tris k d)) (each k d in_bounds)
  where
    first : (a b : Bool) → a && b ≡ true → a ≡ true
    first true b h = refl
    first false b h = h

-- references to all rims
pub all_referred : {X : Type 0} (now : X → EdgeSums) (parts listed : List X) (rims items : List EdgeSums) (i : ℕ) →
    listed ≡ parts →
    map now parts ≡ take i items → length items ≤ i → items ≡ rims → map now listed ≡ rims
all_referred now parts listed rims items i are so_far past same =
    ap (map now) are ∙ so_far ∙ take_all i items past ∙ same

pub small_joined : (tris rest : List Tri) (rims : List EdgeSums) →
    (lists : List (List Tri)) × AreRimsOf lists rims × (tris ≡ all_of lists ++ rest) →
    length tris ≤ MAX_SUMMED_TRIANGLES →
    HaveSmallSums rims
small_joined tris rest rims (lists, are, whole) few =
    few_have_small_sums lists rims are (omega (arith, ap length whole, length-append (all_of lists) rest))

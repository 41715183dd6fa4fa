-- A list of triangles of a mesh, and one more.
use Rattle.std.proofs.Common.{arith, ℕ, List, [], ◌∷◌, ◌++◌, ◌≤◌, ◌<◌, All, length}
use Rattle.std.proofs.lemmas.List.{length_push, map-append}
use Rattle.std.proofs.lemmas.List.Elements.{All-push}
use Rattle.geom_core.specs.declared.triangles.Tagged.{Tagged}
use Rattle.geom_core.specs.Limits.{IsGridTriangle}
use Rattle.geom_core.specs.TaggedLists.{tris_of}

-- each of the triangles is one of a mesh
pub range-more : (tris : List Tagged) (t : Tagged) → All IsGridTriangle (tris_of tris) → IsGridTriangle t.tri →
    All IsGridTriangle (tris_of (tris ++ t ∷ []))
range-more tris t all grid =
    rw (map-append (λ (u : Tagged). u.tri) tris (t ∷ [])) (All-push IsGridTriangle (tris_of tris) t.tri all grid)

-- a list below a limit meets it with one more
pub count-more : (tris : List Tagged) (t : Tagged) {n : ℕ} → length tris < n → length (tris ++ t ∷ []) ≤ n
count-more tris t below = rw (length_push tris t) (omega arith)

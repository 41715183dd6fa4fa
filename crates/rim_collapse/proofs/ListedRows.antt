-- A list of triangles of a mesh, and one more.
use Rattle.std.proofs.Common.{List, [], ◌∷◌, ◌++◌, All}
use Rattle.std.proofs.lemmas.List.{map-append}
use Rattle.std.proofs.lemmas.List.Elements.{All-push}
use Rattle.geom_core.specs.declared.triangles.Tagged.{Tagged}
use Rattle.geom_core.specs.Limits.{IsGridTriangle}
use Rattle.geom_core.specs.TaggedLists.{tris_of}

pub range-more : (tris : List Tagged) (t : Tagged) → All IsGridTriangle (tris_of tris) → IsGridTriangle t.tri →
    All IsGridTriangle (tris_of (tris ++ t ∷ []))
range-more tris t all grid =
    rw (map-append (λ (u : Tagged). u.tri) tris (t ∷ [])) (All-push IsGridTriangle (tris_of tris) t.tri all grid)

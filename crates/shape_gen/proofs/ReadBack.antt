-- The text of a box is read as the box: its vertex lines give the points of the lattice, and each face line appends
-- the face's fan.
use Rattle.std.proofs.Common.{◌≡◌, ℕ, ◌+◌, ◌*◌, ◌<◌, ◌≤◌, ◌^◌, List, [], ◌∷◌, ◌++◌, length, map, flat_map, All, Result}
use Rattle.std.proofs.Common.{Ok, codes, decimal, sym, ap, refl, ◌∙◌, append_assoc, arith}
use Rattle.std.proofs.lemmas.Bool.{le-leb, ne_eqb}
use Rattle.std.proofs.lemmas.List.{append-nil, length-append}
use Rattle.std.proofs.lemmas.List.Elements.{All-head, All-tail}
use Rattle.geom_core.specs.declared.limits.TheConstants.{MAX_OBJ_BYTES, MAX_TRIANGLES}
use Rattle.geom_core.specs.declared.points.Pt.{Pt}
use Rattle.geom_core.specs.declared.triangles.Tri.{Tri}
use Rattle.obj_source.specs.declared.faults.ObjFault.{ObjFault}
use Rattle.obj_source.specs.Lines.{lines_of, words_of, without_return}
use Rattle.obj_source.specs.Mesh.{MeshSoFar, ◌>>=◌, with_line, read_lines, some_triangles, mesh}
use Rattle.shape_gen.specs.declared.lattice.Place.{Place}
use Rattle.shape_gen.specs.declared.sides.Face.{Face}
use Rattle.shape_gen.specs.Boxes.{fan_of, triangles_of_box}
use Rattle.shape_gen.specs.BoxText.{vertex_line, face_line, text_of_box}
use Rattle.shape_gen.specs.Lattice.{IsBoxSize, IsPlace, lattice, point_at}
use Rattle.shape_gen.specs.Sides.{faces}
use Rattle.shape_gen.proofs.FaceLaws.{length-faces}
use Rattle.shape_gen.proofs.GridLaws.{triangles-grid}
use Rattle.shape_gen.proofs.LatticeLaws.{lattice-places}
use Rattle.shape_gen.proofs.LatticeSize.{length-lattice}
use Rattle.shape_gen.proofs.LineReadings.{IsReadable, with_line-vertex, with_line-face, faces-readable}
use Rattle.shape_gen.proofs.TextSize.{vertex_numbers, vertex_numbers-small, corner_numbers, corner_numbers-small}
use Rattle.shape_gen.proofs.TextSize.{line-fields, text_of_box-short}
use Rattle.shape_gen.proofs.TextWords.{read_lines-fields}

-- ---- the vertex lines

abbrev mesh_of : List Pt → List Tri → MeshSoFar
mesh_of vertices triangles = record { vertices = vertices; triangles = triangles }

read_lines-from : (vertices more : List Pt) (triangles : List Tri) (line next : ℕ) (lines : List (List ℕ)) →
    vertices ≡ more → line ≡ next →
    read_lines 1 (mesh_of vertices triangles) line lines ≡ read_lines 1 (mesh_of more triangles) next lines
read_lines-from vertices more triangles line next lines same_vertices same_line = rw (same_vertices, same_line) refl

read_lines-vertices : (number : ℕ) (ps : List Place) (vertices : List Pt) (triangles : List Tri) (line : ℕ)
    (rest : List ℕ) → All IsPlace ps →
    read_lines 1 (mesh_of vertices triangles) line (lines_of (flat_map (vertex_line number) ps ++ rest)) ≡
    read_lines 1 (mesh_of (vertices ++ map (point_at number) ps) triangles) (line + length ps) (lines_of rest)
read_lines-vertices number [] vertices triangles line rest places =
    read_lines-from vertices (vertices ++ []) triangles line (line + 0) (lines_of rest) (sym (append-nil vertices))
    (omega arith)
read_lines-vertices number (p ∷ ps) vertices triangles line rest places =
    ap (λ t. read_lines 1 (mesh_of vertices triangles) line (lines_of t))
    (append_assoc (vertex_line number p) text rest) ∙
    read_lines-fields 1 (mesh_of vertices triangles) line (codes "v") (map decimal (vertex_numbers number p))
    (text ++ rest) (line-fields 118 (vertex_numbers number p) (omega arith) (vertex_numbers-small number p place)) ∙
    ap (λ (r : Result MeshSoFar ObjFault). r >>= (λ more. read_lines 1 more (line + 1) (lines_of (text ++ rest))))
    (with_line-vertex number p (mesh_of vertices triangles) line place) ∙
    read_lines-vertices number ps (vertices ++ point_at number p ∷ []) triangles (line + 1) rest
    (All-tail IsPlace p ps places) ∙
    read_lines-from ((vertices ++ point_at number p ∷ []) ++ map (point_at number) ps)
    (vertices ++ map (point_at number) (p ∷ ps)) triangles (line + 1 + length ps) (line + length (p ∷ ps))
    (lines_of rest) (append_assoc vertices (point_at number p ∷ []) (map (point_at number) ps)) (omega arith)
  where
    text : List ℕ
    text = flat_map (vertex_line number) ps

    place : IsPlace p
    place = All-head IsPlace p ps places

-- ---- the face lines

-- nothing is read from the empty line after the last LF
read_lines-end : (m : MeshSoFar) (line : ℕ) → read_lines 1 m line (lines_of []) ≡ Ok m
unfolding with_line words_of without_return
read_lines-end m line = refl

read_lines-faces : (n number : ℕ) → IsBoxSize n → (fs : List Face) (triangles : List Tri) (line : ℕ) →
    All (IsReadable n number) fs → length triangles + 2 * length fs ≤ MAX_TRIANGLES →
    read_lines 1 (mesh_of (map (point_at number) (lattice n)) triangles) line
    (lines_of (flat_map (face_line (lattice n)) fs)) ≡
    Ok (mesh_of (map (point_at number) (lattice n)) (triangles ++ flat_map (fan_of number) fs))
read_lines-faces n number size [] triangles line readable room =
    read_lines-end (mesh_of (map (point_at number) (lattice n)) triangles) line ∙
    ap (λ tris. Ok (mesh_of (map (point_at number) (lattice n)) tris)) (sym (append-nil triangles))
read_lines-faces n number size (f ∷ fs) triangles line readable room =
    read_lines-fields 1 (mesh_of points triangles) line (codes "f") (map decimal (corner_numbers (lattice n) f)) text
    (line-fields 102 (corner_numbers (lattice n) f) (omega arith) (corner_numbers-small (lattice n) f few)) ∙
    ap (λ (r : Result MeshSoFar ObjFault). r >>= (λ more. read_lines 1 more (line + 1) (lines_of text)))
    (with_line-face n number f (mesh_of points triangles) line few (All-head (IsReadable n number) f fs readable) refl
    (omega arith)) ∙
    read_lines-faces n number size fs (triangles ++ fan_of number f) (line + 1)
    (All-tail (IsReadable n number) f fs readable) (omega (arith, length-append triangles (fan_of number f))) ∙
    ap (λ tris. Ok (mesh_of points tris)) (append_assoc triangles (fan_of number f) (flat_map (fan_of number) fs))
  where
    points : List Pt
    points = map (point_at number) (lattice n)

    text : List ℕ
    text = flat_map (face_line (lattice n)) fs

    few : length (lattice n) + 1 < 10 ^ 8
    few = omega (arith, length-lattice n size)

-- ---- the text

some_triangles-are : (m : MeshSoFar) → 1 ≤ length m.triangles → some_triangles m ≡ Ok m.triangles
some_triangles-are m some = rw (ne_eqb (length m.triangles) 0 (λ e. omega arith)) refl

pub mesh-box : (n number : ℕ) → IsBoxSize n → mesh 1 (text_of_box n number) ≡ Ok (triangles_of_box n number)
unfolding mesh
mesh-box n number size =
    rw (le-leb (length (text_of_box n number)) MAX_OBJ_BYTES (text_of_box-short n number size))
    (ap (λ (r : Result MeshSoFar ObjFault). r >>= some_triangles)
    (read_lines-vertices number (lattice n) [] [] 1 (flat_map (face_line (lattice n)) (faces n))
    (lattice-places n size) ∙
    read_lines-faces n number size (faces n) [] (1 + length (lattice n)) (faces-readable n number size)
    (omega (arith, length-faces n size))) ∙
    some_triangles-are (mesh_of (map (point_at number) (lattice n)) (triangles_of_box n number))
    (triangles-grid n number size).some)

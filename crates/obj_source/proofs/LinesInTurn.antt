-- The lines of a text in turn: the reading of a text that goes on is the reading so far, then that of what
-- follows; and the first fault of the lines that have ended is the text's, whatever follows.
use Rattle.std.proofs.Common.{◌≡◌, ℕ, suc, ◌+◌, ◌-◌, ◌≤◌, ◌<◌, Bool, true, false, cond, leb, List, [], ◌∷◌, ◌++◌}
use Rattle.std.proofs.Common.{length, take, Result, Ok, Err, refl, ap, sym, ◌∙◌, subst, ◌⊎◌, inl, inr, length-append}
use Rattle.std.proofs.Common.{arith}
use Rattle.std.specs.List.{All, onto_first}
use Rattle.std.proofs.Math.Seq.{take-append-add}
use Rattle.std.proofs.lemmas.Bool.{le-leb, lt-leb}
use Rattle.std.proofs.lemmas.List.{append-nil, take_at}
use Rattle.std.proofs.lemmas.List.Splits.{slice_split_none}
use Rattle.geom_core.specs.declared.limits.TheConstants.{MAX_OBJ_BYTES, MAX_TRIANGLES}
use Rattle.geom_core.specs.declared.triangles.Tri.{Tri}
use Rattle.obj_source.specs.declared.faults.ObjFault.{ObjFault}
use Rattle.obj_source.specs.declared.faults.ObjFault.TheVariants.{Line, TooMany, TooLong}
use Rattle.obj_source.specs.declared.faults.ObjWhy.{ObjWhy}
use Rattle.obj_source.specs.Lines.{is_line_feed, lines_of, words_of}
use Rattle.obj_source.specs.Mesh.{◌>>=◌, MeshSoFar, nothing, vertex_of, face_of, at_line, begins_with, with_vertex}
use Rattle.obj_source.specs.Mesh.{with_triangles, with_line, read_lines, some_triangles, ended_lines, mesh}

-- a reading of two steps behind a first one
behind_first : (first : Result MeshSoFar ObjFault) (whole one two : MeshSoFar → Result MeshSoFar ObjFault) →
    ((mesh_so_far : MeshSoFar) → whole mesh_so_far ≡ (one mesh_so_far >>= two)) →
    (first >>= whole) ≡ (first >>= one >>= two)
behind_first (Ok mesh_so_far) whole one two same = same mesh_so_far
behind_first (Err fault) whole one two same = refl

-- the lines of two lists are read one list after the other
pub read_lines-append : (scale : ℕ) (mesh_so_far : MeshSoFar) (line : ℕ) (xs ys : List (List ℕ)) →
    read_lines scale mesh_so_far line (xs ++ ys) ≡
    (read_lines scale mesh_so_far line xs >>= (λ more. read_lines scale more (line + length xs) ys))
read_lines-append scale mesh_so_far line [] ys =
    let same : line ≡ line + 0 = omega arith in
    ap (λ n. read_lines scale mesh_so_far n ys) same
read_lines-append scale mesh_so_far line (x ∷ xs) ys =
    behind_first (with_line scale mesh_so_far line (words_of x)) _ _ _ (λ more.
    let same : line + 1 + length xs ≡ line + suc (length xs) = omega arith in
    read_lines-append scale more (line + 1) xs ys
    ∙ ap (λ n. read_lines scale more (line + 1) xs >>= (λ then. read_lines scale then n ys)) same)

-- the first fault stays
pub read_lines-fault : (scale : ℕ) (mesh_so_far : MeshSoFar) (line : ℕ) (xs ys : List (List ℕ)) (fault : ObjFault) →
    read_lines scale mesh_so_far line xs ≡ Err fault → read_lines scale mesh_so_far line (xs ++ ys) ≡ Err fault
read_lines-fault scale mesh_so_far line xs ys fault e =
    read_lines-append scale mesh_so_far line xs ys ∙
    ap (λ (r : Result MeshSoFar ObjFault). r >>= (λ more. read_lines scale more (line + length xs) ys)) e

-- where there was none, the reading goes on over the mesh so far
pub read_lines-on : (scale : ℕ) (mesh_so_far more : MeshSoFar) (line : ℕ) (xs ys : List (List ℕ)) →
    read_lines scale mesh_so_far line xs ≡ Ok more →
    read_lines scale mesh_so_far line (xs ++ ys) ≡ read_lines scale more (line + length xs) ys
read_lines-on scale mesh_so_far more line xs ys e =
    read_lines-append scale mesh_so_far line xs ys ∙
    ap (λ (r : Result MeshSoFar ObjFault). r >>= (λ then. read_lines scale then (line + length xs) ys)) e

-- a text has a first line
record HasFirst (lines : List (List ℕ)) : Type 0 where
  first : List ℕ
  rest : List (List ℕ)
  parted : lines ≡ first ∷ rest

onto_first-has : (b : ℕ) (lines : List (List ℕ)) → HasFirst (onto_first b lines)
onto_first-has b [] = record { first = b ∷ []; rest = []; parted = refl }
onto_first-has b (line ∷ lines) = record { first = b ∷ line; rest = lines; parted = refl }

lines_of-has_first : (text : List ℕ) → HasFirst (lines_of text)
lines_of-has_first [] = record { first = []; rest = []; parted = refl }
lines_of-has_first (b ∷ text) =
    elim (is_line_feed b) as (λ v. HasFirst (cond v ([] ∷ lines_of text) (onto_first b (lines_of text))))
    [ true ↦ record { first = []; rest = lines_of text; parted = refl } | false ↦ onto_first-has b (lines_of text) ]

onto_first-append : (b : ℕ) (xs ys : List (List ℕ)) → HasFirst xs → onto_first b (xs ++ ys) ≡ onto_first b xs ++ ys
onto_first-append b xs ys has = rw has.parted

-- an LF parts the lines before it from those behind it
pub lines_of-append : (front rest : List ℕ) → lines_of (front ++ 10 ∷ rest) ≡ lines_of front ++ lines_of rest
lines_of-append [] rest = refl
lines_of-append (b ∷ front) rest =
    rw (lines_of-append front rest)
    (elim (is_line_feed b) as (λ v. cond v ([] ∷ lines_of front ++ lines_of rest)
    (onto_first b (lines_of front ++ lines_of rest)) ≡ cond v ([] ∷ lines_of front)
    (onto_first b (lines_of front)) ++ lines_of rest)
    [ true ↦ refl | false ↦ onto_first-append b (lines_of front) (lines_of rest) (lines_of-has_first front) ])

take_but_last : (xs ys : List (List ℕ)) → HasFirst ys →
    take (length (xs ++ ys) - 1) (xs ++ ys) ≡ xs ++ take (length ys - 1) ys
take_but_last xs ys has =
    let some : length ys ≡ suc (length has.rest) = ap length has.parted in
    let same : length (xs ++ ys) - 1 ≡ length xs + (length ys - 1) = omega (arith, length-append xs ys) in
    ap (λ n. take n (xs ++ ys)) same ∙ take-append-add xs ys (length ys - 1)

-- the lines that have ended, of a text that goes on behind an LF
pub ended_lines-append : (front rest : List ℕ) → ended_lines (front ++ 10 ∷ rest) ≡ lines_of front ++ ended_lines rest
ended_lines-append front rest =
    ap (λ (l : List (List ℕ)). take (length l - 1) l) (lines_of-append front rest)
    ∙ take_but_last (lines_of front) (lines_of rest) (lines_of-has_first rest)

-- a text without an LF has none
pub ended_lines-none : (text : List ℕ) → All (λ b. is_line_feed b ≡ false) text → ended_lines text ≡ []
ended_lines-none text none = ap (λ (l : List (List ℕ)). take (length l - 1) l) (slice_split_none is_line_feed text none)

-- behind the last LF stands an open line
pub ended_lines-last : (front last : List ℕ) → All (λ b. is_line_feed b ≡ false) last →
    ended_lines (front ++ 10 ∷ last) ≡ lines_of front
ended_lines-last front last none =
    ended_lines-append front last ∙ ap (λ (l : List (List ℕ)). lines_of front ++ l) (ended_lines-none last none) ∙
    append-nil (lines_of front)

-- a text of at most 2^28 bytes is read whole
pub mesh-short : (scale : ℕ) (text : List ℕ) → length text ≤ MAX_OBJ_BYTES →
    mesh scale text ≡ (read_lines scale nothing 1 (lines_of text) >>= some_triangles)
unfolding mesh
mesh-short scale text short = rw (le-leb (length text) MAX_OBJ_BYTES short)

-- of a longer one the lines that end among the first 2^28 bytes
pub mesh-long : (scale : ℕ) (first rest : List ℕ) → length first ≡ MAX_OBJ_BYTES → 0 < length rest →
    mesh scale (first ++ rest) ≡ (read_lines scale nothing 1 (ended_lines first) >>= (λ mesh_so_far. Err TooLong))
unfolding mesh
mesh-long scale first rest long more =
    let past : MAX_OBJ_BYTES < length (first ++ rest) = omega (arith, length-append first rest) in
    rw (lt-leb (length (first ++ rest)) MAX_OBJ_BYTES past, take_at first rest MAX_OBJ_BYTES long)

-- the lines that end among the first 2^28 bytes begin with those that stand before an LF there
take_past : (front rest : List ℕ) → length front < MAX_OBJ_BYTES →
    take MAX_OBJ_BYTES (front ++ 10 ∷ rest) ≡ front ++ 10 ∷ take (MAX_OBJ_BYTES - length front - 1) rest
take_past front rest short =
    let same : MAX_OBJ_BYTES ≡ length front + suc (MAX_OBJ_BYTES - length front - 1) = omega arith in
    ap (λ n. take n (front ++ 10 ∷ rest)) same ∙
    take-append-add front (10 ∷ rest) (suc (MAX_OBJ_BYTES - length front - 1))

fault_whole : (scale : ℕ) (front rest : List ℕ) (fault : ObjFault) →
    read_lines scale nothing 1 (lines_of front) ≡ Err fault →
    read_lines scale nothing 1 (lines_of (front ++ 10 ∷ rest)) ≡ Err fault
fault_whole scale front rest fault e =
    ap (read_lines scale nothing 1) (lines_of-append front rest)
    ∙ read_lines-fault scale nothing 1 (lines_of front) (lines_of rest) fault e

fault_cut : (scale : ℕ) (front rest : List ℕ) (fault : ObjFault) → length front < MAX_OBJ_BYTES →
    read_lines scale nothing 1 (lines_of front) ≡ Err fault →
    read_lines scale nothing 1 (ended_lines (take MAX_OBJ_BYTES (front ++ 10 ∷ rest))) ≡ Err fault
fault_cut scale front rest fault short e =
    let behind = take (MAX_OBJ_BYTES - length front - 1) rest in
    ap (λ (text : List ℕ). read_lines scale nothing 1 (ended_lines text)) (take_past front rest short)
    ∙ ap (read_lines scale nothing 1) (ended_lines-append front behind)
    ∙ read_lines-fault scale nothing 1 (lines_of front) (ended_lines behind) fault e

fault_stays : (read : Result MeshSoFar ObjFault) (fault : ObjFault) (next : MeshSoFar → Result (List Tri) ObjFault) →
    read ≡ Err fault → (read >>= next) ≡ Err fault
fault_stays read fault next e = ap (λ (r : Result MeshSoFar ObjFault). r >>= next) e

either : {A : Type 0} (b : Bool) (one two x : A) → one ≡ x → two ≡ x → cond b one two ≡ x
either true one two x e f = e
either false one two x e f = f

-- the first fault of lines that ended among the first 2^28 bytes is the text's, whatever follows
pub mesh-fault : (scale : ℕ) (front rest : List ℕ) (fault : ObjFault) → length front < MAX_OBJ_BYTES →
    read_lines scale nothing 1 (lines_of front) ≡ Err fault → mesh scale (front ++ 10 ∷ rest) ≡ Err fault
unfolding mesh
mesh-fault scale front rest fault short e =
    let whole =
    fault_stays (read_lines scale nothing 1 (lines_of (front ++ 10 ∷ rest))) fault some_triangles
    (fault_whole scale front rest fault e) in
    let cut =
    fault_stays (read_lines scale nothing 1 (ended_lines (take MAX_OBJ_BYTES (front ++ 10 ∷ rest)))) fault
    (λ mesh_so_far. Err TooLong) (fault_cut scale front rest fault short e) in
    either (leb (length (front ++ 10 ∷ rest)) MAX_OBJ_BYTES) _ _ (Err fault) whole cut

-- the fault of a line of this number
abbrev pub IsLineFault : ℕ → ObjFault → Type 0
IsLineFault line fault = ((why : ObjWhy) × (fault ≡ Line line why)) ⊎ (fault ≡ TooMany)

-- of two readings the first or the second had the fault
one_fault : {A B F : Type 0} (P : F → Type 0) (found : Result A F) (next : A → Result B F) (fault : F) →
    (found >>= next) ≡ Err fault → (found ≡ Err fault → P fault) → ((x : A) → next x ≡ Err fault → P fault) → P fault
one_fault P (Ok x) next fault e first second = second x e
one_fault P (Err f) next fault e first second = first (cc)

on_line_fault : {A : Type 0} (line : ℕ) (found : Result A ObjWhy) (fault : ObjFault) → at_line line found ≡ Err fault →
    IsLineFault line fault
on_line_fault line (Ok x) fault e = absurd (cc)
on_line_fault line (Err why) fault e = inl (why, cc)

too_many : (b : Bool) (more : MeshSoFar) (fault : ObjFault) → cond b (Ok more) (Err TooMany) ≡ Err fault →
    fault ≡ TooMany
too_many true more fault e = absurd (cc)
too_many false more fault e = cc

vertex_fault : (scale : ℕ) (mesh_so_far : MeshSoFar) (line : ℕ) (words : List (List ℕ)) (fault : ObjFault) →
    (at_line line (vertex_of scale words) >>= (λ p. Ok (with_vertex mesh_so_far p))) ≡ Err fault →
    IsLineFault line fault
vertex_fault scale mesh_so_far line words fault e =
    one_fault (IsLineFault line) (at_line line (vertex_of scale words)) _ fault e
    (on_line_fault line (vertex_of scale words) fault) (λ p never. absurd (cc))

face_fault : (mesh_so_far : MeshSoFar) (line : ℕ) (words : List (List ℕ)) (fault : ObjFault) →
    (at_line line (face_of mesh_so_far.vertices words) >>= with_triangles mesh_so_far) ≡ Err fault →
    IsLineFault line fault
face_fault mesh_so_far line words fault e =
    one_fault (IsLineFault line) (at_line line (face_of mesh_so_far.vertices words)) _ fault e
    (on_line_fault line (face_of mesh_so_far.vertices words) fault)
    (λ tris many. inr (too_many (leb (length mesh_so_far.triangles + length tris) MAX_TRIANGLES) _ fault many))

by_kind : {P : Type 0} (is_vertex is_face : Bool) (vertex face other : Result MeshSoFar ObjFault) (fault : ObjFault) →
    cond is_vertex vertex (cond is_face face other) ≡ Err fault → (vertex ≡ Err fault → P) → (face ≡ Err fault → P) →
    (other ≡ Err fault → P) → P
by_kind true is_face vertex face other fault e one two three = one e
by_kind false true vertex face other fault e one two three = two e
by_kind false false vertex face other fault e one two three = three e

-- a line's fault is its own, or that there are too many triangles
pub with_line-fault : (scale : ℕ) (mesh_so_far : MeshSoFar) (line : ℕ) (words : List (List ℕ)) (fault : ObjFault) →
    with_line scale mesh_so_far line words ≡ Err fault → IsLineFault line fault
unfolding with_line
with_line-fault scale mesh_so_far line words fault e =
    by_kind (begins_with 118 words) (begins_with 102 words) _ _ (Ok mesh_so_far) fault e
    (vertex_fault scale mesh_so_far line words fault) (face_fault mesh_so_far line words fault) (λ never. absurd (cc))

-- what holds of both holds of a line's fault
pub by_line_fault : (P : ObjFault → Type 0) (line : ℕ) (fault : ObjFault) → IsLineFault line fault →
    ((why : ObjWhy) → P (Line line why)) → P TooMany → P fault
by_line_fault P line fault (inl own) own_holds many_holds = subst P (sym own.1) (own_holds own.0)
by_line_fault P line fault (inr many) own_holds many_holds = subst P (sym many) many_holds

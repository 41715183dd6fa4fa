-- The lines of a text, one after another.
use Rattle.std.proofs.Common.{◌≡◌, ℕ, suc, ◌+◌, ◌-◌, ◌≤◌, ◌<◌, true, false, leb, List, [], ◌∷◌, ◌++◌, length, take}
use Rattle.std.proofs.Common.{Result, Ok, Err, refl, ap, sym, inl, inr, ◌∙◌, append_assoc, length-append, arith}
use Rattle.std.specs.List.{All}
use Rattle.std.proofs.lemmas.List.{append-nil, take-append-le}
use Rattle.std.proofs.lemmas.List.Elements.{All-nil, All-append}
use Rattle.std.proofs.lemmas.List.Splits.{slice_split_none, slice_split_at, length-slice_split}
use Rattle.std.proofs.lemmas.Bool.Decides.{nat_tests}
use Rattle.std.proofs.lemmas.Bool.{cases_lt}
use Rattle.geom_core.specs.declared.limits.TheConstants.{MAX_OBJ_BYTES}
use Rattle.geom_core.specs.declared.triangles.Tri.{Tri}
use Rattle.span_io.proofs.Feeding.{take_over}
use Rattle.obj_source.specs.declared.faults.ObjFault.{ObjFault}
use Rattle.obj_source.specs.declared.faults.ObjFault.TheVariants.{TooLong}
use Rattle.obj_source.specs.Lines.{is_line_feed, lines_of, words_of}
use Rattle.obj_source.specs.Mesh.{MeshSoFar, nothing, with_line, read_lines, ended_lines, mesh, some_triangles, ◌>>=◌}
use Rattle.obj_source.specs.Scanner.{LinesRead, IsFirstFault}

-- no byte of it ends a line
abbrev pub IsOneLine : List ℕ → Type 0
IsOneLine line = All (λ b. is_line_feed b ≡ false) line

lines_of-first : (line rest : List ℕ) → IsOneLine line → lines_of (line ++ 10 ∷ rest) ≡ line ∷ lines_of rest
lines_of-first line rest one = slice_split_at is_line_feed line 10 rest one refl

lines_of-one : (line : List ℕ) → IsOneLine line → lines_of line ≡ line ∷ []
lines_of-one line one = slice_split_none is_line_feed line one

but_last : (n : ℕ) (line : List ℕ) (lines : List (List ℕ)) → length lines ≡ n + 1 →
    take (length (line ∷ lines) - 1) (line ∷ lines) ≡ line ∷ take (length lines - 1) lines
but_last n line lines e =
    let k : suc (length lines) - 1 ≡ suc (length lines - 1) = omega arith in
    ap (λ m. take m (line ∷ lines)) k

ended_lines-first : (line rest : List ℕ) → IsOneLine line → ended_lines (line ++ 10 ∷ rest) ≡ line ∷ ended_lines rest
ended_lines-first line rest one =
    ap (λ l. take (length l - 1) l) (lines_of-first line rest one)
    ∙ but_last _ line (lines_of rest) (length-slice_split is_line_feed rest)

ended_lines-one : (line : List ℕ) → IsOneLine line → ended_lines line ≡ []
ended_lines-one line one = ap (λ (l : List (List ℕ)). take (length l - 1) l) (lines_of-one line one)

pub LinesRead-nil : (scale : ℕ) → LinesRead scale [] nothing 1 []
LinesRead-nil scale =
    record { one_line = All-nil (λ b. is_line_feed b ≡ false); all = λ rest. refl; ended = λ rest. refl }

-- bytes that end no line
pub LinesRead-span : (scale : ℕ) (text : List ℕ) (mesh_so_far : MeshSoFar) (line : ℕ) (begun span : List ℕ) →
    LinesRead scale text mesh_so_far line begun → IsOneLine span →
    LinesRead scale (text ++ span) mesh_so_far line (begun ++ span)
LinesRead-span scale text mesh_so_far line begun span so_far one = record {
  one_line = All-append (λ b. is_line_feed b ≡ false) begun span so_far.one_line one;
  all = λ rest. rw (append_assoc text span rest, append_assoc begun span rest) (so_far.all (span ++ rest));
  ended = λ rest. rw (append_assoc text span rest, append_assoc begun span rest) (so_far.ended (span ++ rest));
}

-- an LF ends the line
pub LinesRead-feed : (scale : ℕ) (text : List ℕ) (mesh_so_far more : MeshSoFar) (line : ℕ) (begun : List ℕ) →
    LinesRead scale text mesh_so_far line begun → with_line scale mesh_so_far line (words_of begun) ≡ Ok more →
    LinesRead scale (text ++ 10 ∷ []) more (line + 1) []
LinesRead-feed scale text mesh_so_far more line begun so_far judged = record {
  one_line = All-nil (λ b. is_line_feed b ≡ false);
  all = λ rest. rw (append_assoc text (10 ∷ []) rest) (so_far.all (10 ∷ rest)
      ∙ ap (read_lines scale mesh_so_far line) (lines_of-first begun rest so_far.one_line)
      ∙ ap (λ r. r >>= (λ m. read_lines scale m (line + 1) (lines_of rest))) judged);
  ended = λ rest. rw (append_assoc text (10 ∷ []) rest) (so_far.ended (10 ∷ rest)
      ∙ ap (read_lines scale mesh_so_far line) (ended_lines-first begun rest so_far.one_line)
      ∙ ap (λ r. r >>= (λ m. read_lines scale m (line + 1) (ended_lines rest))) judged);
}

-- and a line with a fault gives it, whatever follows
pub IsFirstFault-feed : (scale : ℕ) (text : List ℕ) (mesh_so_far : MeshSoFar) (line : ℕ) (begun : List ℕ)
    (fault : ObjFault) → LinesRead scale text mesh_so_far line begun →
    with_line scale mesh_so_far line (words_of begun) ≡ Err fault → IsFirstFault scale (text ++ 10 ∷ []) fault
IsFirstFault-feed scale text mesh_so_far line begun fault so_far judged = record {
  all = λ rest. rw (append_assoc text (10 ∷ []) rest) (so_far.all (10 ∷ rest)
      ∙ ap (read_lines scale mesh_so_far line) (lines_of-first begun rest so_far.one_line)
      ∙ ap (λ r. r >>= (λ m. read_lines scale m (line + 1) (lines_of rest))) judged);
  ended = λ rest. rw (append_assoc text (10 ∷ []) rest) (so_far.ended (10 ∷ rest)
      ∙ ap (read_lines scale mesh_so_far line) (ended_lines-first begun rest so_far.one_line)
      ∙ ap (λ r. r >>= (λ m. read_lines scale m (line + 1) (ended_lines rest))) judged);
}

-- what follows doesn't matter to the first fault
pub IsFirstFault-more : (scale : ℕ) (text more : List ℕ) (fault : ObjFault) → IsFirstFault scale text fault →
    IsFirstFault scale (text ++ more) fault
IsFirstFault-more scale text more fault first = record {
  all = λ rest. rw (append_assoc text more rest) (first.all (more ++ rest));
  ended = λ rest. rw (append_assoc text more rest) (first.ended (more ++ rest));
}

-- the mesh of a text that is short enough
mesh-short : (scale : ℕ) (text : List ℕ) → length text ≤ MAX_OBJ_BYTES →
    mesh scale text ≡ read_lines scale nothing 1 (lines_of text) >>= some_triangles
unfolding mesh
mesh-short scale text short = let e : leb (length text) MAX_OBJ_BYTES ≡ true = grind (arith, nat_tests) in rw e

mesh-long : (scale : ℕ) (text : List ℕ) → MAX_OBJ_BYTES < length text →
    mesh scale text ≡ read_lines scale nothing 1 (ended_lines (take MAX_OBJ_BYTES text)) >>=
    (λ mesh_so_far. Err TooLong)
unfolding mesh
mesh-long scale text long = let e : leb (length text) MAX_OBJ_BYTES ≡ false = grind (arith, nat_tests) in rw e

abbrev too_long_after : Result MeshSoFar ObjFault → Result (List Tri) ObjFault
too_long_after r = r >>= (λ mesh_so_far. Err TooLong)

-- a first fault among the bytes that are looked at
pub mesh-fault : (scale : ℕ) (text rest : List ℕ) (fault : ObjFault) → length text ≤ MAX_OBJ_BYTES →
    IsFirstFault scale text fault → mesh scale (text ++ rest) ≡ Err fault
mesh-fault scale text rest fault short first =
    elim (cases_lt MAX_OBJ_BYTES (length (text ++ rest))) [
      | inl long ↦
          mesh-long scale (text ++ rest) long
          ∙ ap (λ t. read_lines scale nothing 1 (ended_lines t) >>= (λ mesh_so_far. Err TooLong))
          (take_over MAX_OBJ_BYTES text rest short)
          ∙ ap too_long_after (first.ended (take (MAX_OBJ_BYTES - length text) rest))
      | inr short ↦
          mesh-short scale (text ++ rest) short
          ∙ ap (λ r. r >>= some_triangles) (first.all rest)
    ]

-- a text with too many bytes and no fault
pub mesh-too_long : (scale : ℕ) (text rest : List ℕ) (mesh_so_far : MeshSoFar) (line : ℕ) (begun : List ℕ) →
    MAX_OBJ_BYTES < length text → LinesRead scale (take MAX_OBJ_BYTES text) mesh_so_far line begun →
    mesh scale (text ++ rest) ≡ Err TooLong
mesh-too_long scale text rest mesh_so_far line begun long so_far =
    let looked_at = take MAX_OBJ_BYTES text in
    mesh-long scale (text ++ rest) (omega (arith, length-append text rest))
    ∙ ap (λ t. read_lines scale nothing 1 (ended_lines t) >>= (λ mesh_so_far. Err TooLong))
    (take-append-le MAX_OBJ_BYTES text rest (omega arith) ∙ sym (append-nil looked_at))
    ∙ ap too_long_after
    (so_far.ended [] ∙ ap (λ l. read_lines scale mesh_so_far line (ended_lines l)) (append-nil begun)
    ∙ ap (read_lines scale mesh_so_far line) (ended_lines-one begun so_far.one_line))

-- the lines that ended have no fault
pub LinesRead-no_fault : (scale : ℕ) (text : List ℕ) (mesh_so_far : MeshSoFar) (line : ℕ) (begun : List ℕ) →
    LinesRead scale text mesh_so_far line begun →
    read_lines scale nothing 1 (ended_lines text) ≡ Ok mesh_so_far
LinesRead-no_fault scale text mesh_so_far line begun so_far =
    ap (λ l. read_lines scale nothing 1 (ended_lines l)) (sym (append-nil text))
    ∙ so_far.ended []
    ∙ ap (λ l. read_lines scale mesh_so_far line (ended_lines l)) (append-nil begun)
    ∙ ap (read_lines scale mesh_so_far line) (ended_lines-one begun so_far.one_line)

-- the last line, which no LF ends
pub mesh-last : (scale : ℕ) (text : List ℕ) (mesh_so_far : MeshSoFar) (line : ℕ) (begun : List ℕ) →
    length text ≤ MAX_OBJ_BYTES → LinesRead scale text mesh_so_far line begun →
    mesh scale text ≡ (with_line scale mesh_so_far line (words_of begun) >>= (λ more. Ok more)) >>= some_triangles
mesh-last scale text mesh_so_far line begun short so_far =
    mesh-short scale text short
    ∙ ap (λ r. r >>= some_triangles)
    (ap (λ t. read_lines scale nothing 1 (lines_of t)) (sym (append-nil text))
    ∙ so_far.all []
    ∙ ap (λ l. read_lines scale mesh_so_far line (lines_of l)) (append-nil begun)
    ∙ ap (read_lines scale mesh_so_far line) (lines_of-one begun so_far.one_line))

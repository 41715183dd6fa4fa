-- How a builder goes on standing for its line, word by word.
use Rattle.std.proofs.Common.{◌≡◌, ◌≤◌, ◌==◌, ℕ, ◌+◌, Option, Err, Result, Ok, false, append-nil, arith, length, List}
use Rattle.std.proofs.Common.{[], ◌∷◌, ◌++◌, refl, sym, ap, ◌∙◌, append_assoc}
use Rattle.geom_core.specs.declared.points.Pt.{Pt}
use Rattle.obj_source.specs.declared.mesh_builder.MeshBuilder.{MeshBuilder}
use Rattle.obj_source.specs.declared.faults.ObjFault.{ObjFault}
use Rattle.obj_source.specs.declared.line_state.LineState.TheVariants as state
use Rattle.obj_source.specs.declared.line_state.Vertex.{Vertex}
use Rattle.obj_source.specs.Mesh.{MeshSoFar, with_line}
use Rattle.obj_source.specs.LineStates.{with_end, line_result_from, vertex_from}
use Rattle.obj_source.specs.Builder.{so_far, builder_result_from, Stands}

-- a list with an item isn't empty, and where a joined list is, its first part is
append_some : (words : List (List ℕ)) (word : List ℕ) → words ++ word ∷ [] ≡ [] → ⊥
append_some [] word none = cc
append_some (first ∷ rest) word none = cc

append_none : (words more : List (List ℕ)) → words ++ more ≡ [] → words ≡ []
append_none [] more none = refl
append_none (first ∷ rest) more none = absurd cc

-- where no word came, a builder stands for its line
pub stands_begun : (d : MeshBuilder) → d.line_state ≡ state.Start → Stands d (so_far d) d.line []
unfolding line_result_from
stands_begun d begun = record { numbered = refl; begun = λ none. begun; continues = λ more. rw begun refl }

-- one word more
pub stands_next : (old new : MeshBuilder) (mesh_so_far : MeshSoFar) (line : ℕ) (words : List (List ℕ)) (word : List ℕ) →
    new.line ≡ old.line → new.scale ≡ old.scale →
    ((more : List (List ℕ)) → builder_result_from new more ≡ builder_result_from old (word ∷ more)) →
    Stands old mesh_so_far line words → Stands new mesh_so_far line (words ++ word ∷ [])
stands_next old new mesh_so_far line words word same_line same_scale continues stands = record {
  numbered = same_line ∙ stands.numbered;
  begun = λ none. absurd (append_some words word none);
  continues = λ more. continues more ∙ stands.continues (word ∷ more)
      ∙ rw same_scale (ap (with_line old.scale mesh_so_far line) (sym (append_assoc words (word ∷ []) more)));
}

-- words that don't matter
pub stands_settled : (d : MeshBuilder) (mesh_so_far : MeshSoFar) (line : ℕ) (words more : List (List ℕ)) →
    ((rest : List (List ℕ)) → builder_result_from d rest ≡ builder_result_from d []) →
    Stands d mesh_so_far line words → Stands d mesh_so_far line (words ++ more)
stands_settled d mesh_so_far line words more settled stands = record {
  numbered = stands.numbered;
  begun = λ none. stands.begun (append_none words more none);
  continues = λ rest. settled rest ∙ sym (settled (more ++ rest)) ∙ stands.continues (more ++ rest)
      ∙ ap (with_line d.scale mesh_so_far line) (sym (append_assoc words more rest));
}

-- a line that is passed over, and one whose numbers all came
pub settled_passed : (d : MeshBuilder) → d.line_state ≡ state.Passed → (rest : List (List ℕ)) →
    builder_result_from d rest ≡ builder_result_from d []
unfolding line_result_from
settled_passed d passed rest = rw passed refl

pub settled_vertex : (d : MeshBuilder) (v : Vertex) → d.line_state ≡ state.Vertex v →
    ((scale : ℕ) (more : List (List ℕ)) → vertex_from scale v more ≡ vertex_from scale v []) →
    (rest : List (List ℕ)) → builder_result_from d rest ≡ builder_result_from d []
unfolding line_result_from
settled_vertex d v is_vertex settled rest = rw is_vertex (rw (settled d.scale rest) refl)

-- a line whose first word has two bytes or more says nothing
two_bytes : (first : List ℕ) → 2 ≤ length first → (length first == 1) ≡ false
two_bytes first two = grind arith

passed_over : (scale : ℕ) (mesh_so_far : MeshSoFar) (line : ℕ) (first : List ℕ) (more : List (List ℕ)) →
    2 ≤ length first →
    with_line scale mesh_so_far line (first ∷ more) ≡ Ok mesh_so_far
unfolding with_line
passed_over scale mesh_so_far line first more two = rw (two_bytes first two) refl

ok_is : {A F : Type 0} (x y : A) → ◌≡◌ {A = Result A F} (Ok x) (Ok y) → x ≡ y
ok_is x y same = cc

started : (d : MeshBuilder) → d.line_state ≡ state.Start → builder_result_from d [] ≡ Ok (so_far d)
unfolding line_result_from with_line
started d begun = rw begun refl

-- the mesh so far is that of the lines before, if no word came
said_begun : (d : MeshBuilder) (mesh_so_far : MeshSoFar) (line : ℕ) → Stands d mesh_so_far line [] →
    so_far d ≡ mesh_so_far
unfolding with_line
said_begun d mesh_so_far line stands =
    ok_is (so_far d) mesh_so_far (sym (started d (stands.begun refl)) ∙ stands.continues [])

passed_from : (d : MeshBuilder) → d.line_state ≡ state.Passed → (more : List (List ℕ)) →
    builder_result_from d more ≡ Ok (so_far d)
unfolding line_result_from
passed_from d passed more = rw passed refl

pub stands_passed : (old new : MeshBuilder) (mesh_so_far : MeshSoFar) (line : ℕ) (first : List ℕ) → 2 ≤ length first →
    new.line_state ≡ state.Passed → new.line ≡ old.line → new.scale ≡ old.scale → so_far new ≡ so_far old →
    Stands old mesh_so_far line [] → Stands new mesh_so_far line (first ∷ [])
unfolding line_result_from
stands_passed old new mesh_so_far line first two passed same_line same_scale same_said stands = record {
  numbered = same_line ∙ stands.numbered;
  begun = λ none. absurd cc;
  continues =
      λ more. (passed_from new passed more) ∙ (ap Ok (same_said ∙ said_begun old mesh_so_far line stands) ∙
      sym (passed_over new.scale mesh_so_far line first more two));
}

-- a line to which no word is added
pub ended_line : (d : MeshBuilder) (mesh_so_far : MeshSoFar) (line : ℕ) (words : List (List ℕ)) →
    Stands d mesh_so_far line words →
    with_line d.scale mesh_so_far line words ≡ builder_result_from d []
ended_line d mesh_so_far line words stands =
    sym (stands.continues [] ∙ ap (with_line d.scale mesh_so_far line) (append-nil words))

-- the line that ended gave what the builder has, and the next one is begun
pub next_line : (old new : MeshBuilder) (end : Option Pt) (mesh_so_far : MeshSoFar) (line : ℕ) (words : List (List ℕ)) →
    builder_result_from old [] ≡ with_end (so_far old) (Ok end) →
    with_end (so_far old) (Ok end) ≡ Ok (so_far new) → new.line_state ≡ state.Start → new.line ≡ old.line + 1 →
    Stands old mesh_so_far line words →
    (with_line old.scale mesh_so_far line words ≡ Ok (so_far new)) × Stands new (so_far new) (line + 1) []
next_line old new end mesh_so_far line words ended same begun next stands = (
  ended_line old mesh_so_far line words stands ∙ ended ∙ same,
  rw (← stands.numbered, ← next) (stands_begun new begun),
)

-- a line with a fault
pub faulty_line : (d : MeshBuilder) (fault : ObjFault) (mesh_so_far : MeshSoFar) (line : ℕ) (words : List (List ℕ)) →
    builder_result_from d [] ≡ with_end (so_far d) (Err fault) → Stands d mesh_so_far line words →
    with_line d.scale mesh_so_far line words ≡ Err fault
faulty_line d fault mesh_so_far line words ended stands = ended_line d mesh_so_far line words stands ∙ ended

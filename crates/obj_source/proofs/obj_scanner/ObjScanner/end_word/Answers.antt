use Rattle.std.proofs.Common.{◌≡◌, List, [], ◌∷◌, ◌++◌, ℕ, ◌≤◌, length, Bool, true, false, eqb, arith, ap, sym, subst}
use Rattle.std.proofs.Common.{◌∙◌}
use Rattle.std.proofs.lemmas.Bool.Decides.{nat_tests}
use Rattle.obj_source.specs.Builder.{Stands}
use Rattle.obj_source.specs.Scanner.{StandsOn}
use Rattle.obj_source.proofs.LineSteps.{StandsAt-settled, StandsAt-later}
use Rattle.obj_source.proofs.obj_scanner.ObjScanner.end_word.Goals as goal
use Rattle.obj_source.proofs.obj_scanner.ObjScanner.end_word.Goals.{then-ignores_rest, else-ignores_rest}

not_empty : (n m : ℕ) (b : Bool) → b ≡ eqb n 0 → b ≡ false → n ≡ m → 1 ≤ m
not_empty n m b says none same = grind (arith, nat_tests)

pub returns-clause-mesh_so_far : goal.returns-clause-mesh_so_far
returns-clause-mesh_so_far c = λ scale mesh_so_far line words stands.
    let word = c.args.self.now.word.items in
    let len = sym c.deref.ensures.len ∙ ap (λ (l : List ℕ). length l) c.deref.ensures.value in
    let some = not_empty _ _ _ c.is_empty.ensures c.if-is_empty.false len in
    let took : StandsOn c.args.self.now.builder scale mesh_so_far line words →
    StandsOn c.push_word.new.self scale mesh_so_far line (words ++ word ∷ []) = λ s. (
      c.push_word.ensures.same.0 ∙ s.0,
      subst
          (λ (w : List ℕ). Stands c.push_word.new.self mesh_so_far line (words ++ w ∷ [])) c.deref.ensures.value
          (c.in_ok-push_word.ensures.stands mesh_so_far line words s.1),
    ) in
    let settled : c.ignores_rest.result ≡ true → (more : List (List ℕ)) →
    StandsOn c.push_word.new.self scale mesh_so_far line (words ++ word ∷ []) →
    StandsOn c.push_word.new.self scale mesh_so_far line ((words ++ word ∷ []) ++ more) = λ is_so more s.
    (s.0, c.ignores_rest.ensures mesh_so_far line (words ++ word ∷ []) more is_so s.1) in
    elim c.if-ignores_rest.branch [
      | then-ignores_rest w ↦ StandsAt-settled _ _ _ _ scale mesh_so_far line words word some w.self-is took
          (settled w.if-ignores_rest.true) stands
      | else-ignores_rest w ↦ StandsAt-later _ _ _ _ scale mesh_so_far line words word some w.self-is took stands
    ]

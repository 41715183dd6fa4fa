use Rattle.std.proofs.Common.{◌-◌, List, ℕ, length, take, ◌∙◌, ap, sym, refl}
use Rattle.std.specs.List.{slice_get}
use Rattle.obj_source.proofs.Returns.{without_return-dropped, without_return-kept}
use Rattle.obj_source.proofs.obj_scanner.ObjScanner.drop_return.Goals as goal

pub returns-then-eq-clause-word : goal.returns-then-eq-clause-word
returns-then-eq-clause-word c =
    let found = c.last.ensures.value ∙ ap (λ (l : List ℕ). slice_get l (length l - 1)) c.deref.ensures.value in
    let len = sym c.deref.ensures.len ∙ ap (λ (l : List ℕ). length l) c.deref.ensures.value in
    c.pop.ensures.rest
    ∙ ap (λ n. take (n - 1) c.args.self.now.word.items) len
    ∙ sym (without_return-dropped c.last.result _ c.args.self.now.word.items refl found
    (sym c.eq.ensures ∙ c.if-eq.true))

pub returns-else-eq-clause-word : goal.returns-else-eq-clause-word
returns-else-eq-clause-word c =
    let found = c.last.ensures.value ∙ ap (λ (l : List ℕ). slice_get l (length l - 1)) c.deref.ensures.value in
    sym (without_return-kept c.last.result _ c.args.self.now.word.items refl found (sym c.eq.ensures ∙ c.if-eq.false))

use Rattle.std.proofs.Common.{◌≡◌, ℕ, ◌≤◌, Bool, true, false, eqb, Ok, Vec, Global, length, arith, sym, ap, ◌∙◌}
use Rattle.std.proofs.lemmas.Bool.Decides.{nat_tests}
use Rattle.std.proofs.lemmas.Result.{err_from_is_err_and}
use Rattle.geom_core.specs.declared.triangles.Tri.{Tri}
use Rattle.obj_source.specs.Builder.{so_far}
use Rattle.obj_source.proofs.TakenBytes.{mesh_at_end, refused_at_end, empty_at_end, some_at_end}
use Rattle.obj_source.proofs.obj_scanner.ObjScanner.end.Goals as goal

pub returns-in_err-end_line-clause-refused : goal.returns-in_err-end_line-clause-refused
returns-in_err-end_line-clause-refused c =
    let p = err_from_is_err_and c.from_residual.result c.from_residual.ensures.1 in
    rw (p.1, p.2) (λ scale text t short. refused_at_end c.args.self scale text _ t short
    (c.in_err-end_line.ensures.judged scale t.mesh_so_far t.line t.begun t.words))

none_there : (n : ℕ) (b : Bool) → b ≡ eqb n 0 → b ≡ true → n ≡ 0
none_there n b says is_so = grind (arith, nat_tests)

some_there : (n : ℕ) (b : Bool) → b ≡ eqb n 0 → b ≡ false → 1 ≤ n
some_there n b says is_so = grind (arith, nat_tests)

pub returns-then-is_empty-clause-refused : goal.returns-then-is_empty-clause-refused
returns-then-is_empty-clause-refused c = λ scale text t short.
    let tris = c.into_triangles-triangles.result in
    let same = ap (λ (v : Vec Tri Global). length v.items) c.into_triangles-triangles.ensures in
    let none = none_there _ _ c.is_empty.ensures c.if-is_empty.true in
    mesh_at_end c.args.self c.end_line.new.self.builder scale text t short
    (c.in_ok-end_line.ensures.judged scale t.mesh_so_far t.line t.begun t.words)
    ∙ empty_at_end (so_far c.end_line.new.self.builder) (omega (arith, same, none, tris.ok.0))

pub returns-clause-listed : goal.returns-clause-listed
returns-clause-listed c = λ scale text t short.
    let tris = c.into_triangles-triangles.result in
    let same = ap (λ (v : Vec Tri Global). length v.items) c.into_triangles-triangles.ensures in
    let some = some_there _ _ c.is_empty.ensures c.if-is_empty.false in
    mesh_at_end c.args.self c.end_line.new.self.builder scale text t short
    (c.in_ok-end_line.ensures.judged scale t.mesh_so_far t.line t.begun t.words)
    ∙ some_at_end (so_far c.end_line.new.self.builder) (omega (arith, same, some, tris.ok.0))
    ∙ ap (λ (v : Vec Tri Global). Ok v.items) (sym c.into_triangles-triangles.ensures)

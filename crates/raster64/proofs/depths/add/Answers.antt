use Rattle.std.proofs.Common.{◌≡◌, true, false, ℤ, pos, ◌+ℤ◌, ◌-ℤ◌, ◌<ℤ◌, ◌≤ℤ◌, int_le, sym, ◌∙◌, arith}
use Rattle.std.proofs.lemmas.Int.{ints}
use Rattle.raster64.proofs.Division.{sum_divided, sum_carried}
use Rattle.raster64.proofs.depths.add.Goals as goal

at_least : (p q : ℤ) → int_le p q ≡ true → p ≤ℤ q
at_least p q h = omega (arith, ints)

below : (p q : ℤ) → int_le p q ≡ false → q <ℤ p
below p q h = omega (arith, ints)

pub returns-then-is_at_least : goal.returns-then-is_at_least
returns-then-is_at_least g c n m h i =
    let int = g.W.Wide.int in
    let p = c.args.p in
    let q = c.args.q in
    let whole : int c.plus.result ≡ int p.whole +ℤ int q.whole +ℤ pos 1 = cc in
    let rest : int c.minus.result ≡ int p.rest +ℤ int q.rest -ℤ int c.args.divisor = cc in
    let large = at_least (int c.args.divisor) (int c.plus-rest.result) (sym c.is_at_least.ensures ∙
    c.if-is_at_least.true) in
    rw (whole, rest)
    (sum_carried n m (int c.args.divisor) (int p.whole) (int p.rest) (int q.whole) (int q.rest) h i
    (rw c.plus-rest.ensures at large))

pub returns-else-is_at_least : goal.returns-else-is_at_least
returns-else-is_at_least g c n m h i =
    let int = g.W.Wide.int in
    let p = c.args.p in
    let q = c.args.q in
    let small = below (int c.args.divisor) (int c.plus-rest.result) (sym c.is_at_least.ensures ∙
    c.if-is_at_least.false) in
    rw (c.plus-whole.ensures, c.plus-rest.ensures)
    (sum_divided n m (int c.args.divisor) (int p.whole) (int p.rest) (int q.whole) (int q.rest) h i
    (rw c.plus-rest.ensures at small))

use Rattle.std.proofs.Common.{◌≡◌, ◌+◌, ◌-◌, ◌<◌, ◌++◌, ℕ, List, get_or, length, sym, ap, ◌∙◌, arith, append-nil}
use Rattle.std.proofs.lemmas.Grind.{get_or_default_zero}
use Rattle.rim_collapse.specs.Internal.Chains.{chain, walk}
use Rattle.rim_collapse.proofs.ChainLaws.{walk-below, walk-more}
use Rattle.rim_collapse.proofs.chains.list_corners.Goals as goal

-- the count that was read
count_read : (counts : List ℕ) (n m x y : ℕ) → n < m → length counts ≡ m → x ≡ get_or counts n y → x ≡ get_or counts n 0
count_read counts n m x y within same is = is ∙ get_or_default_zero counts n y (omega (arith, within, same))

pub index-corner-requires-in-loop-i : goal.index-corner-requires-in-loop-i
index-corner-requires-in-loop-i c =
    let count = count_read c.args.chains.now.counts.items c.args.n (length c.args.chains.now.firsts.items)
    c.index-i-end.result.now _ c.requires.number c.requires.counts c.index-i-end.ensures in
    let below = walk-below c.args.chains.now.nexts.items c.loop-i.corners.items (chain c.args.chains.now c.args.n)
    (get_or c.args.chains.now.counts.items c.args.n 0) c.loop-i._i c.loop-i.corner
    (length c.args.chains.now.nexts.items) (omega (arith, c.loop-i-test.true, count))
    c.loop-i.invariant c.requires.corners in
    omega (arith, below)

pub loop-i-preserved : goal.loop-i-preserved
loop-i-preserved c =
    let nexts = c.args.chains.now.nexts.items in
    let whole = chain c.args.chains.now c.args.n in
    let corners = c.loop-i.corners.items in
    let n = get_or c.args.chains.now.counts.items c.args.n 0 in
    let count = count_read c.args.chains.now.counts.items c.args.n (length c.args.chains.now.firsts.items)
    c.index-i-end.result.now _ c.requires.number c.requires.counts c.index-i-end.ensures in
    let less : c.loop-i._i < n = omega (arith, c.loop-i-test.true, count) in
    let below = walk-below nexts corners whole n c.loop-i._i c.loop-i.corner (length nexts) less c.loop-i.invariant
    c.requires.corners in
    ap (λ m. c.push.new.self.items ++ walk nexts (n - (c.loop-i._i + 1)) m)
    (c.index-corner-in-loop-i.ensures ∙ get_or_default_zero nexts c.loop-i.corner _ below) ∙
    walk-more nexts corners c.push.new.self.items whole n c.loop-i._i c.loop-i.corner less c.loop-i.invariant
    c.in_ok-push.ensures.items

pub returns : goal.returns
returns c =
    let count = count_read c.args.chains.now.counts.items c.args.n (length c.args.chains.now.firsts.items)
    c.index-i-end.result.now _ c.requires.number c.requires.counts c.index-i-end.ensures in
    let none : get_or c.args.chains.now.counts.items c.args.n 0 - c.loop-i._i ≡ 0 =
    omega (arith, c.loop-i-test.false, count) in
    sym (append-nil c.loop-i.corners.items) ∙
    ap (λ n. c.loop-i.corners.items ++ walk c.args.chains.now.nexts.items n c.loop-i.corner) (sym none) ∙
    c.loop-i.invariant

use Rattle.std.proofs.Common.{◌≡◌, ◌<◌, ◌+◌, length, take, get_or, sym, ap, ◌∙◌, arith}
use Rattle.std.proofs.lemmas.List.{get_or_default, length-set, length-take-le}
use Rattle.rim_collapse.specs.Internal.Chains.{walk}
use Rattle.rim_collapse.proofs.ChainLaws.{chain-count, length-walk}
use Rattle.rim_collapse.proofs.FaceChains.{length-numbers, number-below}
use Rattle.rim_collapse.proofs.JoinedChains.{linked-more}
use Rattle.rim_collapse.proofs.chains.chains_of.Goals as goal

pub link-requires-clause-corner_limit : goal.link-requires-clause-corner_limit
link-requires-clause-corner_limit c =
    omega (
      arith,
      c.loop-corner.invariant.nexts,
      ap length c.in_ok-numbers.ensures,
      length-numbers c.args.faces.now,
      c.requires.triangle_limit,
    )

pub link-requires-clause-number : goal.link-requires-clause-number
link-requires-clause-number c = omega (
  arith,
  (number-below c.args.count c.args.faces.now c.in_ok-numbers.numbers.items
      c.loop-corner.corner _ c.index.result.now
      c.requires.numbers c.in_ok-numbers.ensures (omega (arith, c.loop-corner-test.true, c.len-corner-end.ensures))
      c.index.ensures),
  c.loop-corner.invariant.firsts,
)

pub link-requires-clause-count : goal.link-requires-clause-count
link-requires-clause-count c =
    let n = c.index.result.now in
    let i = c.loop-corner.corner in
    let numbers = c.in_ok-numbers.numbers.items in
    let count = get_or c.loop-corner.chains.counts.items n 0 in
    let first = get_or c.loop-corner.chains.firsts.items n 0 in
    let few = chain-count n (take i numbers) (walk c.loop-corner.chains.nexts.items count first)
    (c.loop-corner.invariant.linked n (number-below c.args.count c.args.faces.now c.in_ok-numbers.numbers.items
    c.loop-corner.corner _ c.index.result.now
    c.requires.numbers c.in_ok-numbers.ensures (omega (arith, c.loop-corner-test.true, c.len-corner-end.ensures))
    c.index.ensures)) in
    omega (
      arith,
      few,
      length-walk c.loop-corner.chains.nexts.items count first,
      length-take-le i numbers (omega (arith, c.loop-corner-test.true)),
    )

pub loop-corner-preserved : goal.loop-corner-preserved
loop-corner-preserved c =
    let n = c.index.result.now in
    let i = c.loop-corner.corner in
    let numbers = c.in_ok-numbers.numbers.items in
    let firsts = c.loop-corner.chains.firsts.items in
    let counts = c.loop-corner.chains.counts.items in
    let nexts = c.loop-corner.chains.nexts.items in
    let within : i < length numbers = omega (arith, c.loop-corner-test.true, c.len-corner-end.ensures) in
    let at : get_or numbers i 0 ≡ n = get_or_default numbers i 0 n within ∙ sym c.index.ensures in
    record {
      firsts = ap length c.link.ensures.firsts ∙ length-set firsts n i ∙ c.loop-corner.invariant.firsts;
      counts = ap length c.link.ensures.counts ∙ length-set counts n (get_or counts n 0 + 1) ∙
          c.loop-corner.invariant.counts;
      nexts = ap length c.link.ensures.nexts ∙ length-set nexts i (get_or firsts n 0) ∙ c.loop-corner.invariant.nexts;
      linked = λ p in_p. rw (c.link.ensures.firsts, c.link.ensures.counts, c.link.ensures.nexts)
          (linked-more numbers firsts counts nexts i n p within
          (omega (arith, within, c.loop-corner.invariant.nexts))
          (omega (
            arith,
            (number-below c.args.count c.args.faces.now c.in_ok-numbers.numbers.items
                c.loop-corner.corner _ c.index.result.now
                c.requires.numbers c.in_ok-numbers.ensures
                (omega (arith, c.loop-corner-test.true, c.len-corner-end.ensures))
                c.index.ensures),
            c.loop-corner.invariant.firsts,
          ))
          (c.loop-corner.invariant.counts ∙ sym c.loop-corner.invariant.firsts) at
          (c.loop-corner.invariant.linked p in_p));
    }

use Rattle.std.proofs.Common.{map}
use Rattle.half_mesh.proofs.TermLaws.{joining_at, joining_done}
use Rattle.half_mesh.proofs.RimLaws.{rim_from_parts}
use Rattle.half_mesh.proofs.rims.Rim.joined.Goals as goal

pub loop-part-preserved : goal.loop-part-preserved
loop-part-preserved c =
    joining_at (λ part. part.now) c.args.parts.now c.loop-part.part-index c.part-item.result c.loop-part.terms.items
    c.push_terms.new.terms.items c.loop-part-test.true c.part-item.is c.loop-part.invariant
    c.in_ok-push_terms.ensures.terms
    c.in_ok-push_terms.ensures.small

pub returns : goal.returns
returns c = record {
  rim = λ lists are. rim_from_parts lists (map (λ part. part.now) c.args.parts.now) c.loop-part.terms.items
      c.in_ok-rim.rim.edges c.in_ok-rim.rim.sums c.requires.sum_range
      (joining_done (λ part. part.now) c.args.parts.now c.loop-part.part-index c.loop-part.terms.items
      c.loop-part-test.false
      c.loop-part.invariant.0) c.in_ok-rim.ensures.rim c.in_ok-rim.ensures.sums are;
}

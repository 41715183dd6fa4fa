use Rattle.half_mesh.proofs.RimLaws.{rim_from_terms}
use Rattle.half_mesh.proofs.rims.Rim.of.Goals as goal

pub returns : goal.returns
returns c = record {
  rim = rim_from_terms c.args.tris.now c.in_ok-terms.terms.items c.in_ok-rim.rim.edges c.in_ok-rim.rim.sums
      c.in_ok-rim.ensures.rim c.in_ok-rim.ensures.sums c.in_ok-terms.ensures.sums c.requires.triangle_limit;
}

use Rattle.half_mesh.proofs.tables.EdgeTable.of.Goals as goal

pub invariant_of-result : goal.invariant_of-result
invariant_of-result c = record {
  triangle_limit = c.requires.triangle_limit;
  sorted = c.in_ok-corners.ensures.sorted;
  groups = c.in_ok-corners.ensures.groups;
  numbered = rw c.deref.ensures.value at c.in_ok-numbers.ensures;
  rim = c.in_ok-rim.ensures.rim;
  in_order = c.in_ok-rim_points.ensures.ascending;
  on_rim = c.in_ok-rim_points.ensures.on_rim c.args.tris.now c.in_ok-rim.ensures.rim;
}

use Rattle.std.proofs.Common.{◌≡◌}
use Rattle.page_file.proofs.GroupSizes.{tris_from}
use Rattle.page_file.proofs.laying.count_tris.Given as goal

abbrev pub invariant-members : goal.invariant-members
invariant-members l = l.size ≡ tris_from l.heads l.first l.k

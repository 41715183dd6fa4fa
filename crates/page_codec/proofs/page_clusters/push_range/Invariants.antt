use Rattle.std.proofs.Common.{◌≡◌, ◌++◌}
use Rattle.std.specs.List.{range_with_len}
use Rattle.page_codec.proofs.page_clusters.push_range.Given as goal

abbrev pub invariant-members : goal.invariant-members
invariant-members l = l.out.items ≡ l.initial.out.items ++ range_with_len l.first l.k

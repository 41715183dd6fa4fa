use Rattle.std.proofs.Common.{◌≡◌, [], replicate}
use Rattle.page_file.proofs.cluster_tris.empty_lists.Given as goal

-- the lists so far are empty
abbrev pub invariant-lists : goal.invariant-lists
invariant-lists l = l.lists.items ≡ replicate l.counter []

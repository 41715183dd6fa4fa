use Rattle.std.proofs.Common.{arith, ◌+◌, ◌∙◌, ap, sym}
use Rattle.dag_core.specs.Members.{cluster_at}
use Rattle.page_file.proofs.GroupSizes.{tris_from-more, tris_from-bounds, cluster_size}
use Rattle.page_file.proofs.laying.count_tris.Goals as goal

pub overflow_add-size-in-members : goal.overflow_add-size-in-members
overflow_add-size-in-members c =
    let heads = c.args.heads.now in
    let size =
    cluster_size heads (c.args.first + c.members.k) c.requires.range
    (omega (arith, c.requires.member_range, c.members-test.true)) in
    let sums =
    tris_from-bounds heads c.requires.range c.args.first c.members.k
    (omega (arith, c.requires.member_range, c.members-test.true)) in
    rw c.as_slice-clusters.ensures (omega (
      arith,
      size.1,
      sums.1,
      c.members.invariant,
      c.requires.count_limit,
      c.members-test.true,
    ))

pub members-preserved : goal.members-preserved
members-preserved c =
    let heads = c.args.heads.now in
    rw c.as_slice-clusters.ensures
    (ap (λ n. n + (cluster_at heads (c.args.first + c.members.k)).tris) c.members.invariant ∙
    sym (tris_from-more heads c.args.first c.members.k))

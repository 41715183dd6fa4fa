use Rattle.std.proofs.Common.{arith}
use Rattle.page_file.proofs.GroupSizes.{members_within, group_size-bounds, group_size-is}
use Rattle.page_file.proofs.laying.group_size.Goals as goal

pub count_tris-requires-clause-member_range : goal.count_tris-requires-clause-member_range
count_tris-requires-clause-member_range c =
    rw c.as_slice.ensures (members_within c.args.heads.now c.requires.rules c.args.g c.requires.group_range)

pub returns-clause-some_triangle : goal.returns-clause-some_triangle
returns-clause-some_triangle c =
    let is =
    group_size-is c.args.heads.now c.as_slice.result.now c.args.g c.count_tris.result c.as_slice.ensures
    c.count_tris.ensures.size in
    let bounds = group_size-bounds c.args.heads.now c.requires.range c.requires.rules c.args.g c.requires.group_range in
    omega (arith, is, bounds.0)

pub returns-clause-size_limit : goal.returns-clause-size_limit
returns-clause-size_limit c =
    let is =
    group_size-is c.args.heads.now c.as_slice.result.now c.args.g c.count_tris.result c.as_slice.ensures
    c.count_tris.ensures.size in
    let bounds = group_size-bounds c.args.heads.now c.requires.range c.requires.rules c.args.g c.requires.group_range in
    omega (arith, is, bounds.1)

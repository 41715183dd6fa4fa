use Rattle.std.proofs.Common.{◌≡◌, ◌≤◌, ◌-◌, leb, length, rules, arith, ap, sym}
use Rattle.std.proofs.lemmas.List.Sorted.{IsPartitionPoint-from_clause}
use Rattle.dag_core.specs.declared.groups.Group.{Group}
use Rattle.dag_core.specs.Members.{home}
use Rattle.dag_core.proofs.HalvingLaws.{checked_in_turn, firsts_parted, home_found}
use Rattle.dag_core.proofs.RangeLaws.{sizes_of}
use Rattle.dag_core.proofs.heads.Heads.home.Goals as goal

found : (c : goal.After-partition_point-after) → (1 ≤ c.partition_point-after.result) ×
    (home c.args.self.now c.args.c ≡ c.partition_point-after.result - 1)
found c =
    let turn = checked_in_turn c.args.self.now c.requires.checked in
    let sizes = sizes_of c.args.self.now c.requires.range in
    let parted = firsts_parted c.args.self.now c.as_slice.result.now c.args.c c.as_slice.ensures turn in
    let point =
    IsPartitionPoint-from_clause (λ (group : Group). leb group.first c.args.c) _ _
    c.partition_point-after.ensures.partitioned parted (λ a r q k. search rules) in
    home_found c.args.self.now c.as_slice.result.now c.partition_point-after.result c.args.c c.as_slice.ensures turn
    sizes.some_group c.requires.cluster
    c.partition_point-after.ensures.bound point

pub overflow_cast-result : goal.overflow_cast-result
overflow_cast-result c =
    let slice : length c.as_slice.result.now ≡ length c.args.self.now.groups = ap length c.as_slice.ensures in
    let sizes = sizes_of c.args.self.now c.requires.range in
    let bound = c.partition_point-after.ensures.bound in
    omega arith

pub overflow_sub-result : goal.overflow_sub-result
overflow_sub-result c = (found c).0

pub returns-clause-home : goal.returns-clause-home
returns-clause-home c = sym (found c).1

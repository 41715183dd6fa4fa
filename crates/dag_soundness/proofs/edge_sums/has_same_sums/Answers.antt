use Rattle.std.proofs.Common.{ℕ, ◌≤◌, ◌<◌, ◌+◌, ◌∙◌, All, List, ap, sym, subst, arith, length, get_or}
use Rattle.std.specs.List.{range_with_len}
use Rattle.geom_core.specs.declared.limits.TheConstants.{MAX_CLUSTERS}
use Rattle.geom_core.specs.TaggedLists.{tris_of}
use Rattle.dag_core.specs.declared.groups.Group.{Group}
use Rattle.dag_core.specs.Members.{made_by, members, no_group}
use Rattle.dag_core.specs.Triangles.{tris_in}
use Rattle.dag_core.proofs.RangeLaws.{sizes_of}
use Rattle.half_mesh.specs.Rim.{IsRimOf}
use Rattle.dag_soundness.proofs.PartLaws.{made-below, made-few, members-below, members-few, members-within, sums-told}
use Rattle.dag_soundness.proofs.edge_sums.has_same_sums.Goals as goal

pub member_numbers-requires : goal.member_numbers-requires
member_numbers-requires c =
    let dag = c.args.dag.now in
    let within = members-within dag c.args.g c.requires.laid_out c.requires.group_range in
    let sizes = sizes_of dag.heads c.requires.laid_out.range in
    let clusters = sizes.clusters in
    record {
      range = subst (λ (gs : List Group). (get_or gs c.args.g no_group).first + (get_or gs c.args.g no_group).count
          ≤ MAX_CLUSTERS) (sym c.as_slice.ensures) (omega arith);
    }

pub joined_rim-requires-clause-cluster_range : goal.joined_rim-requires-clause-cluster_range
joined_rim-requires-clause-cluster_range c =
    let dag = c.args.dag.now in
    let group = ap (λ (gs : List Group). range_with_len (get_or gs c.args.g no_group).first
    (get_or gs c.args.g no_group).count) c.as_slice.ensures in
    subst (All (λ k. k < length dag.tris))
    (sym (c.deref.ensures.value ∙ (c.in_ok-members.ensures.members ∙ group)))
    (members-below dag c.args.g c.requires.laid_out c.requires.group_range)

pub joined_rim-requires-clause-cluster_limit : goal.joined_rim-requires-clause-cluster_limit
joined_rim-requires-clause-cluster_limit c =
    let dag = c.args.dag.now in
    let group = ap (λ (gs : List Group). range_with_len (get_or gs c.args.g no_group).first
    (get_or gs c.args.g no_group).count) c.as_slice.ensures in
    subst (λ (xs : List ℕ). length xs ≤ MAX_CLUSTERS)
    (sym (c.deref.ensures.value ∙ (c.in_ok-members.ensures.members ∙ group)))
    (members-few dag c.args.g c.requires.laid_out c.requires.group_range)

pub joined_rim-requires-2-clause-cluster_range : goal.joined_rim-requires-2-clause-cluster_range
joined_rim-requires-2-clause-cluster_range c =
    subst (All (λ k. k < length c.args.dag.now.tris)) (sym (c.deref-2.ensures.value ∙ c.in_ok-made.ensures.made))
    (made-below c.args.dag.now c.args.g c.requires.laid_out)

pub joined_rim-requires-2-clause-cluster_limit : goal.joined_rim-requires-2-clause-cluster_limit
joined_rim-requires-2-clause-cluster_limit c =
    subst (λ (xs : List ℕ). length xs ≤ MAX_CLUSTERS) (sym (c.deref-2.ensures.value ∙ c.in_ok-made.ensures.made))
    (made-few c.args.dag.now c.args.g c.requires.laid_out)

pub returns : goal.returns
returns c =
    let dag = c.args.dag.now in
    let group = ap (λ (gs : List Group). range_with_len (get_or gs c.args.g no_group).first
    (get_or gs c.args.g no_group).count) c.as_slice.ensures in
    let fine = c.in_ok-fine.fine in
    let coarse = c.in_ok-coarse.coarse in
    let tris = tris_of (tris_in dag (members dag.heads c.args.g)) in
    let others = tris_of (tris_in dag (made_by dag.heads c.args.g)) in
    let rim = subst (λ (xs : List ℕ). IsRimOf (tris_of (tris_in dag xs)) fine.edges fine.sums)
    (c.deref.ensures.value ∙ (c.in_ok-members.ensures.members ∙ group)) c.in_ok-fine.ensures.rim in
    let other = subst (λ (xs : List ℕ). IsRimOf (tris_of (tris_in dag xs)) coarse.edges coarse.sums)
    (c.deref-2.ensures.value ∙ c.in_ok-made.ensures.made) c.in_ok-coarse.ensures.rim in
    record { sums = sums-told c.has_same.result tris others (c.has_same.ensures.sums tris others rim other) }

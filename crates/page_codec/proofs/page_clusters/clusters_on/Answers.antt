use Rattle.std.proofs.Common.{◌≡◌, ℕ, ◌+◌, ◌-◌, ◌<◌, ◌≤◌, ◌++◌, length, get_or, drop, sym, ap, ◌∙◌, subst, arith}
use Rattle.std.specs.List.{flat_map}
use Rattle.std.proofs.lemmas.List.{append-nil, drop_all}
use Rattle.dag_core.specs.Members.{no_group}
use Rattle.page_codec.proofs.Homes.{members_of, clusters_on-members}
use Rattle.page_codec.proofs.Links.{IsNext, IsNext-next_on, members-step}
use Rattle.page_codec.proofs.page_clusters.clusters_on.Goals as goal

pub groups-init : goal.groups-init
groups-init c =
    let groups = c.args.heads.now.groups in
    let P : ℕ → Type 0 = λ n. IsNext groups c.args.page 0 n in
    let walk =
    subst P (sym c.first_group-g.ensures.group)
    (IsNext-next_on groups c.args.page (length groups) 0 (omega arith)) in
    record {
      within = walk.within;
      here = walk.here;
      all =
          ap (λ xs. xs ++ flat_map (members_of c.args.page) (drop c.first_group-g.result groups))
          c.new-clusters.ensures.items ∙ sym walk.members;
    }

pub groups-smaller : goal.groups-smaller
groups-smaller c =
    let groups = c.args.heads.now.groups in
    let g = c.groups.g in
    let below : g < length groups = rw c.as_slice-groups.ensures at c.groups-test.true in
    let P : ℕ → Type 0 = λ n. IsNext groups (get_or groups g no_group).page (g + 1) n in
    let walk =
    subst P (sym c.next_group-g.ensures.group)
    (IsNext-next_on groups (get_or groups g no_group).page (length groups - (g + 1)) (g + 1) (omega arith)) in
    omega (arith, walk.from, below)

pub groups-preserved : goal.groups-preserved
groups-preserved c =
    let groups = c.args.heads.now.groups in
    let g = c.groups.g in
    let page = c.args.page in
    let below : g < length groups = rw c.as_slice-groups.ensures at c.groups-test.true in
    let here : (get_or groups g no_group).page ≡ page = c.groups.invariant.here below in
    let P : ℕ → Type 0 = λ n. IsNext groups page (g + 1) n in
    let next = c.next_group-g.ensures.group in
    let walk =
    subst P (sym (rw here at next)) (IsNext-next_on groups page (length groups - (g + 1)) (g + 1) (omega arith)) in
    let appended = c.in_ok-push_range.ensures.appended in
    record {
      within = walk.within;
      here = walk.here;
      all =
          members-step groups page g c.next_group-g.result c.groups.clusters.items c.push_range.new.out.items
          (flat_map (members_of page) groups)
          below here walk (rw c.as_slice-groups.ensures at appended) c.groups.invariant.all;
    }

pub returns : goal.returns
returns c =
    let groups = c.args.heads.now.groups in
    let page = c.args.page in
    let past : length groups ≤ c.groups.g = rw c.as_slice-groups.ensures at c.groups-test.false in
    record {
      clusters = sym (append-nil c.groups.clusters.items)
          ∙ ap (λ gs. c.groups.clusters.items ++ flat_map (members_of page) gs) (sym (drop_all c.groups.g groups past))
          ∙ c.groups.invariant.all ∙ clusters_on-members c.args.heads.now c.requires.rules page;
    }

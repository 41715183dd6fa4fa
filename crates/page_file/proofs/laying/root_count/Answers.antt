use Rattle.std.proofs.Common.{◌≡◌, List, length, get_or, arith, sym, ◌∙◌, ap}
use Rattle.dag_core.specs.declared.groups.Group.{Group}
use Rattle.dag_core.specs.Members.{no_group}
use Rattle.dag_core.proofs.RangeLaws.{sizes_of}
use Rattle.page_file.specs.PagesRule.{is_terminal}
use Rattle.page_file.proofs.NextFit.{root_part-is, page_begun, root-none, root-place, root-pass}
use Rattle.page_file.proofs.laying.root_count.Goals.{then-groups-g, else-groups-g}
use Rattle.page_file.proofs.laying.root_count.Goals as goal

pub groups-init : goal.groups-init
groups-init c = c.closed_at-filling.ensures.filling ∙ root-none c.args.heads.now

pub place-requires-clause-page_limit : goal.place-requires-clause-page_limit
place-requires-clause-page_limit c =
    let heads = c.args.heads.now in
    let part = root_part-is heads c.groups.g c.groups.filling c.groups.invariant in
    let sizes = sizes_of heads c.requires.range in
    let len = ap length c.as_slice-groups.ensures in
    omega (arith, part.most, sizes.groups, c.groups-test.true, len)

pub place-requires-clause-room_of_a_page : goal.place-requires-clause-room_of_a_page
place-requires-clause-room_of_a_page c =
    page_begun 0 c.groups.g c.groups.filling
    (root_part-is c.args.heads.now c.groups.g c.groups.filling c.groups.invariant)

pub groups-preserved : goal.groups-preserved
groups-preserved c =
    let heads = c.args.heads.now in
    let g = c.groups.g in
    let listed : (get_or c.as_slice-groups.result.now g no_group).terminal ≡ is_terminal heads g =
    ap (λ (groups : List Group). (get_or groups g no_group).terminal) c.as_slice-groups.ensures in
    elim c.if-groups-g.branch [
      | then-groups-g w ↦
          root-place heads g c.groups.filling c.if-groups-g.filling w.group_size.result c.groups.invariant
          (sym listed ∙ w.if-groups-g.true) w.group_size.ensures.size
          (w.filling-is ∙ w.place.ensures.placed)
      | else-groups-g w ↦ w.filling-is ∙ root-pass heads g c.groups.filling c.groups.invariant
          (sym listed ∙ w.if-groups-g.false)
    ]

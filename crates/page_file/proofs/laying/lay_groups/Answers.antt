use Rattle.std.proofs.Common.{◌≡◌, ◌-◌, List, length, get_or, arith, sym, ◌∙◌, ap}
use Rattle.dag_core.specs.declared.groups.Group.{Group}
use Rattle.dag_core.specs.Members.{no_group}
use Rattle.dag_core.proofs.RangeLaws.{sizes_of}
use Rattle.page_file.specs.declared.fillings.Filling.{Filling}
use Rattle.page_file.specs.PagesRule.{is_terminal}
use Rattle.page_file.proofs.LaidGroups.{page-root, page-other, laid-more}
use Rattle.page_file.proofs.NextFit.{root_part-is, other_part-is, page_begun, root-none, other-none-at, root-place}
use Rattle.page_file.proofs.NextFit.{root-pass, other-place, other-pass, root_count-le, page_count-is}
use Rattle.page_file.proofs.laying.lay_groups.Goals.{then-group, else-group}
use Rattle.page_file.proofs.laying.lay_groups.Goals as goal

pub groups-init : goal.groups-init
groups-init c = record {
  laid = c.in_ok-laid.ensures.items;
  root = c.closed_at-root.ensures.filling ∙ root-none c.args.heads.now;
  other = c.closed_at-other.ensures.filling ∙ other-none-at c.args.heads.now c.args.roots c.requires.roots;
}

pub place-page-requires-clause-page_limit : goal.place-page-requires-clause-page_limit
place-page-requires-clause-page_limit c =
    let heads = c.args.heads.now in
    let part = root_part-is heads c.groups.g c.groups.root c.groups.invariant.root in
    let sizes = sizes_of heads c.requires.range in
    let len = ap length c.as_slice-groups.ensures in
    omega (arith, part.most, sizes.groups, c.groups-test.true, len)

pub place-page-requires-clause-room_of_a_page : goal.place-page-requires-clause-room_of_a_page
place-page-requires-clause-room_of_a_page c =
    page_begun 0 c.groups.g c.groups.root (root_part-is c.args.heads.now c.groups.g c.groups.root
    c.groups.invariant.root)

pub place-page-requires-else-group-clause-page_limit : goal.place-page-requires-else-group-clause-page_limit
place-page-requires-else-group-clause-page_limit c =
    let heads = c.args.heads.now in
    let part = other_part-is heads c.groups.g c.groups.other c.groups.invariant.other in
    let sizes = sizes_of heads c.requires.range in
    let len = ap length c.as_slice-groups.ensures in
    omega (arith, part.most, root_count-le heads, sizes.groups, c.groups-test.true, len)

pub place-page-requires-else-group-clause-room_of_a_page : goal.place-page-requires-else-group-clause-room_of_a_page
place-page-requires-else-group-clause-room_of_a_page c =
    let heads = c.args.heads.now in
    page_begun _ c.groups.g c.groups.other (other_part-is heads c.groups.g c.groups.other c.groups.invariant.other)

pub groups-preserved : goal.groups-preserved
groups-preserved c =
    let heads = c.args.heads.now in
    let g = c.groups.g in
    let size = c.group_size-size.result in
    let listed : (get_or c.as_slice-groups.result.now g no_group).terminal ≡ is_terminal heads g =
    ap (λ (groups : List Group). (get_or groups g no_group).terminal) c.as_slice-groups.ensures in
    elim c.if-group.branch [
      | then-group w ↦
          let terminal = sym listed ∙ w.if-group.true in
          let root =
          root-place heads g c.groups.root c.if-group.root size c.groups.invariant.root terminal
          c.group_size-size.ensures.size (w.root-is ∙ w.place-page.ensures.placed) in
          record {
            laid =
                laid-more heads c.as_slice-groups.result.now c.groups.laid.items c.push.new.self.items g c.if-group.page
                c.as_slice-groups.ensures
                (page-root heads g c.if-group.page c.if-group.root terminal root
                (w.page-is ∙ w.place-page.ensures.page ∙ sym (ap (λ (f : Filling). f.begun - 1) w.root-is)))
                c.groups.invariant.laid c.in_ok-push.ensures.items;
            root = root;
            other = w.other-is ∙ other-pass heads g c.groups.other c.groups.invariant.other terminal;
          }
      | else-group w ↦
          let terminal = sym listed ∙ w.if-group.false in
          let other =
          other-place heads g c.groups.other c.if-group.other size c.groups.invariant.other terminal
          c.group_size-size.ensures.size (w.other-is ∙ w.place-page-else-group.ensures.placed) in
          record {
            laid =
                laid-more heads c.as_slice-groups.result.now c.groups.laid.items c.push.new.self.items g c.if-group.page
                c.as_slice-groups.ensures
                (page-other heads g c.if-group.page c.if-group.other terminal other
                (w.page-is ∙ w.place-page-else-group.ensures.page ∙
                sym (ap (λ (f : Filling). f.begun - 1) w.other-is)))
                c.groups.invariant.laid c.in_ok-push.ensures.items;
            root = w.root-is ∙ root-pass heads g c.groups.root c.groups.invariant.root terminal;
            other = other;
          }
    ]

pub returns-clause-pages : goal.returns-clause-pages
returns-clause-pages c =
    let len = ap length c.as_slice-groups.ensures in
    page_count-is c.args.heads.now c.groups.g c.groups.other c.groups.invariant.other
    (omega (arith, len, c.groups-test.false, c.groups.auto.g-end))

use Rattle.std.proofs.Common.{◌≡◌, ◌==◌, ◌&&◌, ◌<◌, ◌||◌, false, length, take, get_or, ap, sym, ◌∙◌, arith}
use Rattle.std.proofs.lemmas.List.{length-replicate}
use Rattle.std.specs.List.{list_any}
use Rattle.std.proofs.lemmas.List.{take_all}
use Rattle.std.proofs.lemmas.List.Folds.{list_any_more}
use Rattle.dag_core.specs.declared.groups.Group.{Group}
use Rattle.dag_core.specs.Members.{group_at, no_group}
use Rattle.dag_core.specs.Pages.{has_terminal_on}
use Rattle.dag_core.proofs.RangeLaws.{group_bounds}
use Rattle.dag_core.proofs.TableLaws.{all_marked, has_terminal_on-is, unmarked}
use Rattle.dag_core.proofs.heads.Heads.terminal_pages.Goals as goal

pub loop-g-init : goal.loop-g-init
loop-g-init c = record {
  count = ap length c.in_ok-pages.ensures.marks ∙ length-replicate _ _;
  marks = λ p. ap (λ xs. get_or xs p false) c.in_ok-pages.ensures.marks ∙ unmarked _ p;
}

pub mark-requires : goal.mark-requires
mark-requires c =
    let slice : length c.as_slice-g-end.result.now ≡ length c.args.self.now.groups =
    ap length c.as_slice-g-end.ensures in
    let count = c.loop-g.invariant.count in
    let bounds = group_bounds c.args.self.now c.loop-g.g c.requires.range (omega arith) in
    let page : c.group.result.page ≡ (group_at c.args.self.now c.loop-g.g).page =
    ap (λ (k : Group). k.page) c.group.ensures.group in
    record { place = λ p is. let same = c.terminal_page.ensures.same p is in omega arith }

pub loop-g-preserved : goal.loop-g-preserved
loop-g-preserved c =
    let slice : length c.as_slice-g-end.result.now ≡ length c.args.self.now.groups =
    ap length c.as_slice-g-end.ensures in
    let below : c.loop-g.g < length c.args.self.now.groups = omega arith in
    record {
      count = c.mark.ensures.count ∙ c.loop-g.invariant.count;
      marks = λ p.
          c.mark.ensures.marks p
          ∙ (ap (λ b. get_or c.loop-g.pages.items p false || b) (c.terminal_page.ensures.page p)
          ∙ (ap (λ b. b || (c.group.result.terminal && c.group.result.page == p)) (c.loop-g.invariant.marks p)
          ∙ (ap (λ (k : Group). list_any (λ (group : Group). group.terminal && group.page == p)
          (take c.loop-g.g c.args.self.now.groups) || (k.terminal && k.page == p)) c.group.ensures.group
          ∙ sym (list_any_more (λ (group : Group). group.terminal && group.page == p) c.args.self.now.groups c.loop-g.g
          no_group below))));
    }

pub returns : goal.returns
returns c =
    let slice : length c.as_slice-g-end.result.now ≡ length c.args.self.now.groups =
    ap length c.as_slice-g-end.ensures in
    record {
      pages =
          all_marked (has_terminal_on c.args.self.now) c.args.self.now.pages c.loop-g.pages.items
          c.loop-g.invariant.count
          (λ p. c.loop-g.invariant.marks p
          ∙ (ap (λ xs. list_any (λ (group : Group). group.terminal && group.page == p) xs)
          (take_all c.loop-g.g c.args.self.now.groups (omega arith))
          ∙ sym (has_terminal_on-is c.args.self.now p)));
    }

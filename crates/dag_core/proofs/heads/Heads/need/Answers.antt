use Rattle.std.proofs.Common.{◌≡◌, ◌==◌, ◌&&◌, ◌||◌, List, length, take, ap, sym, ◌∙◌, arith, nat_lt}
use Rattle.std.proofs.lemmas.List.{take_all}
use Rattle.std.specs.List.{list_any}
use Rattle.dag_core.specs.declared.groups.Group.{Group}
use Rattle.dag_core.specs.Coarse.{is_coarse_group}
use Rattle.dag_core.specs.PageSets.{coarse_pages}
use Rattle.dag_core.proofs.ClosingLaws.{coarse_has, least_closed_from}
use Rattle.dag_core.proofs.heads.Heads.need.Goals as goal

pub returns : goal.returns
returns c =
    let slice : length c.as_slice-g-end.result.now ≡ length c.args.self.now.groups =
    ap length c.as_slice-g-end.ensures in
    let end : take c.loop-g.g c.args.self.now.groups ≡ c.args.self.now.groups = take_all _ _ (omega arith) in
    record {
      need =
          least_closed_from c.args.self.now (coarse_pages c.args.self.now c.args.lens.now) c.loop-g.marks.items
          c.in_ok-need.need
          (λ p. c.loop-g.invariant.marks p
          ∙ (ap (λ (gs : List Group). nat_lt p c.args.self.now.roots || list_any
          (λ (group : Group). is_coarse_group c.args.lens.now group && group.page == p) gs) end
          ∙ ap (λ b. nat_lt p c.args.self.now.roots || b) (sym (coarse_has c.args.self.now c.args.lens.now p))))
          c.in_ok-need.ensures.closure;
    }

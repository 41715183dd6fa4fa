use Rattle.std.proofs.Common.{◌≡◌, ◌<◌, ◌+◌, ◌∙◌, ap, sym, arith, length}
use Rattle.dag_core.specs.Members.{cluster_at, is_made_by}
use Rattle.dag_core.proofs.MarkLaws.{filter_step}
use Rattle.dag_soundness.specs.Internal.MadeLinks.{MadeLinks}
use Rattle.dag_soundness.proofs.MadeLaws.{IsNext, first-read, maker-is, next-read}
use Rattle.dag_soundness.proofs.made_index.MadeIndex.made_by.Goals as goal

pub made-init : goal.made-init
made-init c =
    let view = ap (λ (links : MadeLinks). links.firsts) c.self.view_is in
    let next =
    first-read c.args.heads.now c.args.self.now c.self.inside.firsts.items c.args.group c.index-next.result.now
    c.requires.index view c.requires.group_range c.index-next.ensures in
    record { made = c.new-made.ensures.items ∙ sym next.none; within = next.within; maker = next.made }

pub made-smaller : goal.made-smaller
made-smaller c =
    let all : length c.as_slice.result.now ≡ length c.args.heads.now.clusters = ap length c.as_slice.ensures in
    let below : c.made.next < length c.args.heads.now.clusters = omega arith in
    let view = ap (λ (links : MadeLinks). links.nexts) c.self.view_is in
    let next : IsNext c.args.heads.now c.args.group (c.made.next + 1) c.index-next-in-made.result.now =
    next-read c.args.heads.now c.args.self.now c.self.inside.nexts.items c.args.group c.made.next
    c.index-next-in-made.result.now c.requires.index view below (c.made.invariant.maker below)
    c.index-next-in-made.ensures in
    let from = next.from in
    let within = next.within in
    omega arith

pub made-preserved : goal.made-preserved
made-preserved c =
    let heads = c.args.heads.now in
    let group = c.args.group in
    let all : length c.as_slice.result.now ≡ length c.args.heads.now.clusters = ap length c.as_slice.ensures in
    let below : c.made.next < length c.args.heads.now.clusters = omega arith in
    let view = ap (λ (links : MadeLinks). links.nexts) c.self.view_is in
    let next : IsNext c.args.heads.now c.args.group (c.made.next + 1) c.index-next-in-made.result.now =
    next-read c.args.heads.now c.args.self.now c.self.inside.nexts.items group c.made.next
    c.index-next-in-made.result.now c.requires.index view below (c.made.invariant.maker below)
    c.index-next-in-made.ensures in
    let maker = maker-is group (cluster_at heads c.made.next).made (c.made.invariant.maker below) in
    record {
      made = c.in_ok-push.ensures.items
          ∙ (filter_step (λ k. is_made_by group (cluster_at heads k)) c.made.next c.made.made.items
          c.made.invariant.made maker ∙ sym next.none);
      within = next.within;
      maker = next.made;
    }

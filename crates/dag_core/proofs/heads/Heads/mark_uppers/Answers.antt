use Rattle.std.proofs.Common.{◌≡◌, ◌∙◌, length, get_or, ap, arith, refl, subst}
use Rattle.dag_core.specs.declared.groups.Group.{Group}
use Rattle.dag_core.specs.Members.{cluster_at, group_at}
use Rattle.dag_core.specs.Pages.{page_of_cluster}
use Rattle.dag_core.specs.Internal.Marks.{last_made, made_before}
use Rattle.dag_core.proofs.ClosingLaws.{IsChainWalk, same_some, walk_below, walk_ends, walk_marks, walk_smaller}
use Rattle.dag_core.proofs.ClosingLaws.{walk_starts}
use Rattle.dag_core.proofs.HalvingLaws.{checked_in_turn}
use Rattle.dag_core.proofs.RangeLaws.{group_bounds}
use Rattle.dag_core.proofs.TableLaws.{home_at, home_in, homes_length, table_at, table_length}
use Rattle.dag_core.proofs.heads.Heads.mark_uppers.Goals as goal

pub index-next-requires : goal.index-next-requires
index-next-requires c =
    let count =
    table_length (λ p. last_made c.args.self.now p (length c.args.self.now.clusters)) c.args.self.now.pages
    c.args.chains.now.last.items c.requires.last in
    let page = c.requires.page in
    omega arith

pub loop-next-init : goal.loop-next-init
loop-next-init c = record {
  count = refl;
  walk = walk_starts c.args.self.now c.args.p c.args.marks.now.items c.index-next.result.now
      (c.index-next.ensures ∙ table_at (λ p. last_made c.args.self.now p (length c.args.self.now.clusters))
      c.args.self.now.pages c.args.chains.now.last.items
      c.args.p c.index-next.result.now c.requires.last c.requires.page);
}

pub bounds-homes-c : goal.bounds-homes-c
bounds-homes-c c =
    let all = homes_length c.args.self.now c.args.homes.now c.requires.homes in
    let below =
    walk_below c.args.self.now c.args.p c.in-Some.c _ _ c.loop-next.next c.loop-next.invariant.walk c.in-Some.is in
    omega arith

pub group-page-requires : goal.group-page-requires
group-page-requires c =
    let all = homes_length c.args.self.now c.args.homes.now c.requires.homes in
    let below =
    walk_below c.args.self.now c.args.p c.in-Some.c _ _ c.loop-next.next c.loop-next.invariant.walk c.in-Some.is in
    record {
      group = home_in c.args.self.now c.args.homes.now c.in-Some.c
          (checked_in_turn c.args.self.now c.requires.checked) c.requires.homes (omega arith);
    }

pub mark-requires : goal.mark-requires
mark-requires c =
    let all = homes_length c.args.self.now c.args.homes.now c.requires.homes in
    let below =
    walk_below c.args.self.now c.args.p c.in-Some.c _ _ c.loop-next.next c.loop-next.invariant.walk c.in-Some.is in
    let group =
    home_in c.args.self.now c.args.homes.now c.in-Some.c
    (checked_in_turn c.args.self.now c.requires.checked) c.requires.homes (omega arith) in
    let bounds = group_bounds c.args.self.now (get_or c.args.homes.now c.in-Some.c 0) c.requires.range group in
    let page_limit = bounds.page in
    let page : c.group-page.result.page ≡ (group_at c.args.self.now (get_or c.args.homes.now c.in-Some.c 0)).page =
    ap (λ (k : Group). k.page) c.group-page.ensures.group in
    let count = c.loop-next.invariant.count in
    let pages = c.requires.count in
    record { place = λ k is. let same = same_some c.group-page.result.page k is in omega arith }

pub index-next-requires-in-Some : goal.index-next-requires-in-Some
index-next-requires-in-Some c =
    let count =
    table_length (λ k. made_before c.args.self.now k (cluster_at c.args.self.now k).made)
    (length c.args.self.now.clusters) c.args.chains.now.before.items c.requires.before in
    let below =
    walk_below c.args.self.now c.args.p c.in-Some.c _ _ c.loop-next.next c.loop-next.invariant.walk c.in-Some.is in
    omega arith

pub loop-next-smaller : goal.loop-next-smaller
loop-next-smaller c =
    let below =
    walk_below c.args.self.now c.args.p c.in-Some.c _ _ c.loop-next.next c.loop-next.invariant.walk c.in-Some.is in
    walk_smaller c.args.self.now c.args.p c.in-Some.c _ _ c.loop-next.next c.index-next-in-Some.result.now
    c.loop-next.invariant.walk c.in-Some.is
    (c.index-next-in-Some.ensures ∙ table_at (λ k. made_before c.args.self.now k (cluster_at c.args.self.now k).made)
    (length c.args.self.now.clusters)
    c.args.chains.now.before.items c.in-Some.c c.index-next-in-Some.result.now c.requires.before below)

pub loop-next-preserved : goal.loop-next-preserved
loop-next-preserved c =
    let below =
    walk_below c.args.self.now c.args.p c.in-Some.c _ _ c.loop-next.next c.loop-next.invariant.walk c.in-Some.is in
    let here = home_at c.args.self.now c.args.homes.now c.in-Some.c c.requires.homes below in
    let page : c.group-page.result.page ≡ page_of_cluster c.args.self.now c.in-Some.c =
    ap (λ (k : Group). k.page) c.group-page.ensures.group ∙ ap (λ h. (group_at c.args.self.now h).page) here in
    record {
      count = c.mark.ensures.count ∙ c.loop-next.invariant.count;
      walk =
          walk_marks c.args.self.now c.args.p c.in-Some.c c.group-page.result.page c.args.marks.now.items
          c.loop-next.marks.items _ c.loop-next.next c.index-next-in-Some.result.now
          c.loop-next.invariant.walk c.in-Some.is page c.mark.ensures.marks
          (c.index-next-in-Some.ensures ∙ table_at
          (λ k. made_before c.args.self.now k (cluster_at c.args.self.now k).made) (length c.args.self.now.clusters)
          c.args.chains.now.before.items c.in-Some.c c.index-next-in-Some.result.now c.requires.before below);
    }

pub returns-clause-marks : goal.returns-clause-marks
returns-clause-marks c = λ q.
    walk_ends c.args.self.now c.args.p c.args.marks.now.items c.loop-next.marks.items
    (subst (λ o. IsChainWalk c.args.self.now c.args.p c.args.marks.now.items c.loop-next.marks.items o) c.in_default.is
    c.loop-next.invariant.walk) q

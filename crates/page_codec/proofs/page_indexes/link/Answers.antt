use Rattle.std.proofs.Common.{◌≡◌, ℕ, ◌+◌, ◌-◌, ◌<◌, length, get_or, sym, ◌∙◌, subst, arith}
use Rattle.dag_core.specs.Members.{no_group}
use Rattle.page_codec.proofs.Links.{next_on-end}
use Rattle.page_codec.proofs.LinkTables.{FirstsLinked, NextsLinked, FirstsLinked-more, NextsLinked-more}
use Rattle.page_codec.proofs.page_indexes.link.Goals as goal

pub groups-init : goal.groups-init
groups-init c = record {
  left = omega arith;
  first =
      λ p below. c.requires.none p 0 below ∙ sym
      (next_on-end c.args.groups.now p (length c.args.groups.now) (omega arith));
  next = λ j from to. absurd (omega arith);
}

pub groups-preserved : goal.groups-preserved
groups-preserved c =
    let groups = c.args.groups.now in
    let g = c.groups.g - 1 in
    let after : c.groups.g ≡ g + 1 = omega arith in
    let below : g < length groups = omega (arith, c.groups.invariant.left) in
    let firsts : ℕ → Type 0 = λ n. FirstsLinked groups c.groups.firsts n in
    let nexts : ℕ → Type 0 = λ n. NextsLinked groups c.groups.nexts n in
    let linked = subst firsts after c.groups.invariant.first in
    let within : (get_or groups g no_group).page < length c.groups.firsts =
    omega (arith, c.requires.pages g no_group below, c.groups.auto.firsts) in
    record {
      left = omega (arith, c.groups.invariant.left);
      first = FirstsLinked-more groups c.groups.firsts g below within linked;
      next =
          NextsLinked-more groups c.groups.firsts c.groups.nexts g below within
          (omega (arith, c.requires.nexts, c.groups.auto.nexts)) linked (subst nexts after c.groups.invariant.next);
    }

use Rattle.std.proofs.Common.{◌≡◌, ◌<◌, length, ap, sym, ◌∙◌, arith, below_more}
use Rattle.dag_core.specs.declared.groups.Group.{Group}
use Rattle.dag_core.specs.Members.{group_at}
use Rattle.dag_core.specs.Rules.{breaks_members, members_before}
use Rattle.dag_core.proofs.MemberLaws.{members_more, members_none}
use Rattle.dag_core.proofs.PlaceLaws.{none_at_all}
use Rattle.dag_core.proofs.RuleLaws.{members_at, members_broken, members_from, members_not_all}
use Rattle.dag_core.proofs.heads.Heads.members_break.Goals as goal

pub loop-g-init : goal.loop-g-init
loop-g-init c = record { kept = λ before none. absurd (omega arith); sum = sym (members_none c.args.self.now) }

pub loop-g-preserved : goal.loop-g-preserved
loop-g-preserved c =
    let heads = c.args.self.now in
    let g = c.loop-g.g in
    let slice : length c.as_slice-g-end.result.now ≡ length c.args.self.now.groups =
    ap length c.as_slice-g-end.ensures in
    let below : c.loop-g.g < length c.args.self.now.groups = omega arith in
    let first : c.group-group.result.first ≡ (group_at c.args.self.now c.loop-g.g).first =
    ap (λ (k : Group). k.first) c.group-group.ensures.group in
    let count : c.group-group.result.count ≡ (group_at c.args.self.now c.loop-g.g).count =
    ap (λ (k : Group). k.count) c.group-group.ensures.group in
    let sum = c.loop-g.invariant.sum in
    let more = members_more c.args.self.now c.loop-g.g below in
    record {
      kept = below_more _ _ c.loop-g.invariant.kept (members_at c.args.self.now c.loop-g.g below (omega arith));
      sum = omega arith;
    }

pub returns-then-group-before : goal.returns-then-group-before
returns-then-group-before c =
    let slice : length c.as_slice-g-end.result.now ≡ length c.args.self.now.groups =
    ap length c.as_slice-g-end.ensures in
    let first : c.group-group.result.first ≡ (group_at c.args.self.now c.loop-g.g).first =
    ap (λ (k : Group). k.first) c.group-group.ensures.group in
    let sum = c.loop-g.invariant.sum in
    record {
      place = (
        members_broken c.args.self.now c.loop-g.g (omega arith)
            (λ same. c.if-group-before.true (omega arith)),
        c.loop-g.invariant.kept,
      );
    }

pub returns-then-before-as_slice : goal.returns-then-before-as_slice
returns-then-before-as_slice c =
    let slice : length c.as_slice-g-end.result.now ≡ length c.args.self.now.groups =
    ap length c.as_slice-g-end.ensures in
    let clusters : length c.as_slice.result.now ≡ length c.args.self.now.clusters = ap length c.as_slice.ensures in
    let end : c.loop-g.g ≡ length c.args.self.now.groups = omega arith in
    let whole : members_before c.args.self.now (length c.args.self.now.groups) ≡ length c.args.self.now.clusters =
    ap (members_before c.args.self.now) (sym end) ∙
    (sym c.loop-g.invariant.sum ∙ (c.if-before-as_slice.true ∙ clusters)) in
    record {
      place =
          none_at_all (breaks_members c.args.self.now) c.loop-g.g c.loop-g.invariant.kept
          (λ place from. members_from c.args.self.now place whole (omega arith));
    }

pub returns-else-before-as_slice : goal.returns-else-before-as_slice
returns-else-before-as_slice c =
    let slice : length c.as_slice-g-end.result.now ≡ length c.args.self.now.groups =
    ap length c.as_slice-g-end.ensures in
    let clusters : length c.as_slice.result.now ≡ length c.args.self.now.clusters = ap length c.as_slice.ensures in
    let groups : length c.as_slice-else-before-as_slice.result.now ≡ length c.args.self.now.groups =
    ap length c.as_slice-else-before-as_slice.ensures in
    let end : c.loop-g.g ≡ length c.args.self.now.groups = omega arith in
    let broken = members_not_all c.args.self.now
    (λ whole. c.if-before-as_slice.false (c.loop-g.invariant.sum ∙
    (ap (members_before c.args.self.now) end ∙ (whole ∙ sym clusters)))) in
    record {
      place = (
        ap (breaks_members c.args.self.now) groups ∙ broken,
        λ before below. c.loop-g.invariant.kept before (omega arith),
      );
    }

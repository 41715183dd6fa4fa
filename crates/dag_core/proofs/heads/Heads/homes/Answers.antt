use Rattle.std.proofs.Common.{◌≡◌, ◌+◌, ◌<◌, length, map, ap, sym, ◌∙◌, arith}
use Rattle.std.specs.List.{range_with_len}
use Rattle.dag_core.specs.Members.{group_at, home}
use Rattle.dag_core.specs.Rules.{members_before}
use Rattle.dag_core.proofs.MemberLaws.{first_is, in_turn, members_are_all, members_more, members_none}
use Rattle.dag_core.proofs.heads.Heads.homes.Goals as goal

pub loop-g-init : goal.loop-g-init
loop-g-init c =
    c.in_ok-homes.ensures.items ∙ ap (λ n. map (home c.args.self.now) (range_with_len 0 n))
    (sym (members_none c.args.self.now))

pub push_home-requires-clause-before : goal.push_home-requires-clause-before
push_home-requires-clause-before c =
    let slice : length c.as_slice-g-end.result.now ≡ length c.args.self.now.groups =
    ap length c.as_slice-g-end.ensures in
    c.loop-g.invariant
    ∙ ap (λ n. map (home c.args.self.now) (range_with_len 0 n))
    (sym (first_is c.args.self.now c.loop-g.g (in_turn c.args.self.now c.requires.members) (omega arith)))

pub loop-g-preserved : goal.loop-g-preserved
loop-g-preserved c =
    let slice : length c.as_slice-g-end.result.now ≡ length c.args.self.now.groups =
    ap length c.as_slice-g-end.ensures in
    let below : c.loop-g.g < length c.args.self.now.groups = omega arith in
    let first = first_is c.args.self.now c.loop-g.g (in_turn c.args.self.now c.requires.members) below in
    let more = members_more c.args.self.now c.loop-g.g below in
    let e : (group_at c.args.self.now c.loop-g.g).first +
    (group_at c.args.self.now c.loop-g.g).count ≡ members_before c.args.self.now (c.loop-g.g + 1) = omega arith in
    c.in_ok-push_home.ensures.homes ∙ ap (λ n. map (home c.args.self.now) (range_with_len 0 n)) e

pub returns : goal.returns
returns c =
    let slice : length c.as_slice-g-end.result.now ≡ length c.args.self.now.groups =
    ap length c.as_slice-g-end.ensures in
    let end : c.loop-g.g ≡ length c.args.self.now.groups = omega arith in
    record {
      homes = c.loop-g.invariant
          ∙ (ap (λ g. map (home c.args.self.now) (range_with_len 0 (members_before c.args.self.now g))) end
          ∙ ap (λ n. map (home c.args.self.now) (range_with_len 0 n))
          (members_are_all c.args.self.now (in_turn c.args.self.now c.requires.members)));
    }

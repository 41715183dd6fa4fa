use Rattle.std.proofs.Common.{true, false, arith, sym, ap, ◌∙◌, below_more}
use Rattle.dag_core.specs.Rules.{breaks_bound}
use Rattle.dag_core.proofs.PlaceLaws.{none_at_all}
use Rattle.dag_core.specs.declared.cluster_heads.ClusterHead.{ClusterHead}
use Rattle.dag_core.proofs.RangeLaws.{maker_below}
use Rattle.dag_core.proofs.RuleLaws.{bound_beyond}
use Rattle.dag_core.proofs.MemberLaws.{in_turn}
use Rattle.dag_core.proofs.TableLaws.{homes_length, home_in, bound_by}
use Rattle.dag_core.proofs.heads.Heads.bound_break.Goals as goal

pub cluster-requires : goal.cluster-requires
cluster-requires c =
    let all = homes_length c.args.self.now c.args.homes.now c.requires.homes in record { cluster = omega arith }

pub is_maker_outside-requires-clause-home : goal.is_maker_outside-requires-clause-home
is_maker_outside-requires-clause-home c =
    home_in c.args.self.now c.args.homes.now c.loop-c.c
    (in_turn c.args.self.now c.requires.members) c.requires.homes c.loop-c-test.true

pub is_maker_outside-requires-clause-maker : goal.is_maker_outside-requires-clause-maker
is_maker_outside-requires-clause-maker c = λ maker made.
    let all = homes_length c.args.self.now c.args.homes.now c.requires.homes in
    maker_below c.args.self.now c.loop-c.c maker c.requires.range (omega arith)
    (ap (λ (k : ClusterHead). k.made) (sym c.cluster.ensures.cluster) ∙ made)

pub loop-c-preserved : goal.loop-c-preserved
loop-c-preserved c =
    let all = homes_length c.args.self.now c.args.homes.now c.requires.homes in
    below_more _ _ c.loop-c.invariant
    (bound_by c.args.self.now c.args.homes.now c.loop-c.c c.cluster.result false c.requires.homes
    c.cluster.ensures.cluster (omega arith) c.if-is_maker_outside.ensures.outside)

pub returns-then-is_maker_outside : goal.returns-then-is_maker_outside
returns-then-is_maker_outside c =
    let all = homes_length c.args.self.now c.args.homes.now c.requires.homes in
    record {
      place = (
        bound_by c.args.self.now c.args.homes.now c.loop-c.c c.cluster.result true c.requires.homes
            c.cluster.ensures.cluster (omega arith) c.if-is_maker_outside.ensures.outside,
        c.loop-c.invariant,
      );
    }

pub returns : goal.returns
returns c =
    let all = homes_length c.args.self.now c.args.homes.now c.requires.homes in
    record {
      place = none_at_all (breaks_bound c.args.self.now) c.loop-c.c c.loop-c.invariant
          (λ place from. bound_beyond c.args.self.now place (omega arith));
    }

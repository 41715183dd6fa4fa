use Rattle.std.proofs.Common.{true, false, arith, below_more}
use Rattle.dag_core.specs.Rules.{breaks_maker}
use Rattle.dag_core.proofs.PlaceLaws.{none_at_all}
use Rattle.dag_core.proofs.RuleLaws.{maker_beyond}
use Rattle.dag_core.proofs.TableLaws.{homes_length, maker_by}
use Rattle.dag_core.proofs.heads.Heads.maker_break.Goals as goal

pub cluster-requires : goal.cluster-requires
cluster-requires c =
    let all = homes_length c.args.self.now c.args.homes.now c.requires.homes in record { cluster = omega arith }

pub loop-c-preserved : goal.loop-c-preserved
loop-c-preserved c =
    let all = homes_length c.args.self.now c.args.homes.now c.requires.homes in
    below_more _ _ c.loop-c.invariant
    (maker_by c.args.self.now c.args.homes.now c.loop-c.c c.cluster.result false c.requires.homes
    c.cluster.ensures.cluster (omega arith) c.if-is_maker_at_most.ensures.at_most)

pub returns-then-is_maker_at_most : goal.returns-then-is_maker_at_most
returns-then-is_maker_at_most c =
    let all = homes_length c.args.self.now c.args.homes.now c.requires.homes in
    record {
      place = (
        maker_by c.args.self.now c.args.homes.now c.loop-c.c c.cluster.result true c.requires.homes
            c.cluster.ensures.cluster (omega arith) c.if-is_maker_at_most.ensures.at_most,
        c.loop-c.invariant,
      );
    }

pub returns : goal.returns
returns c =
    let all = homes_length c.args.self.now c.args.homes.now c.requires.homes in
    record {
      place = none_at_all (breaks_maker c.args.self.now) c.loop-c.c c.loop-c.invariant
          (λ place from. maker_beyond c.args.self.now place (omega arith));
    }

use Rattle.std.proofs.Common.{arith, below_more}
use Rattle.dag_core.specs.Rules.{breaks_terminal}
use Rattle.dag_core.proofs.PlaceLaws.{none_at_all}
use Rattle.dag_core.proofs.RangeLaws.{sizes_of}
use Rattle.dag_core.proofs.RuleLaws.{terminal_beyond}
use Rattle.dag_core.proofs.TableLaws.{makers_length, terminal_broken, terminal_kept}
use Rattle.dag_core.proofs.heads.Heads.terminal_break.Goals as goal

pub group-requires : goal.group-requires
group-requires c =
    let all = makers_length c.args.self.now c.args.makers.now c.requires.makers in record { group = omega arith }

pub overflow_cast-result : goal.overflow_cast-result
overflow_cast-result c =
    let all = makers_length c.args.self.now c.args.makers.now c.requires.makers in
    let sizes = sizes_of c.args.self.now c.requires.range in
    omega arith

pub loop-g-preserved : goal.loop-g-preserved
loop-g-preserved c =
    let all = makers_length c.args.self.now c.args.makers.now c.requires.makers in
    below_more _ _ c.loop-g.invariant
    (terminal_kept c.args.self.now c.args.makers.now c.loop-g.g c.group.result c.requires.makers c.group.ensures.group
    (omega arith) c.if-group-makers.false)

pub returns-then-group-makers : goal.returns-then-group-makers
returns-then-group-makers c =
    let all = makers_length c.args.self.now c.args.makers.now c.requires.makers in
    record {
      place = (
        terminal_broken c.args.self.now c.args.makers.now c.loop-g.g c.group.result c.requires.makers
            c.group.ensures.group (omega arith) c.if-group-makers.true,
        c.loop-g.invariant,
      );
    }

pub returns : goal.returns
returns c =
    let all = makers_length c.args.self.now c.args.makers.now c.requires.makers in
    record {
      place = none_at_all (breaks_terminal c.args.self.now) c.loop-g.g c.loop-g.invariant
          (λ place from. terminal_beyond c.args.self.now place (omega arith));
    }

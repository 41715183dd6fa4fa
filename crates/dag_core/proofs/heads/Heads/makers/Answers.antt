use Rattle.std.proofs.Common.{◌≡◌, ◌<◌, ◌||◌, false, length, take, get_or, ap, sym, ◌∙◌, arith}
use Rattle.std.proofs.lemmas.List.{length-replicate}
use Rattle.std.specs.List.{list_any}
use Rattle.std.proofs.lemmas.List.{take_all}
use Rattle.std.proofs.lemmas.List.Folds.{list_any_more}
use Rattle.dag_core.specs.declared.cluster_heads.ClusterHead.{ClusterHead}
use Rattle.dag_core.specs.Members.{is_made_by, is_maker, no_cluster}
use Rattle.dag_core.specs.Rules.{has_made}
use Rattle.dag_core.proofs.RangeLaws.{maker_below}
use Rattle.dag_core.proofs.TableLaws.{all_marked, has_made-is, unmarked}
use Rattle.dag_core.proofs.heads.Heads.makers.Goals as goal

pub loop-c-init : goal.loop-c-init
loop-c-init c =
    let slice : length c.as_slice.result.now ≡ length c.args.self.now.groups = ap length c.as_slice.ensures in
    let count = ap length c.in_ok-makers.ensures.marks in
    record {
      count = count ∙ (length-replicate _ _ ∙ slice);
      marks = λ g. ap (λ xs. get_or xs g false) c.in_ok-makers.ensures.marks ∙ unmarked _ g;
    }

pub mark-requires : goal.mark-requires
mark-requires c =
    let slice : length c.as_slice-c-end.result.now ≡ length c.args.self.now.clusters =
    ap length c.as_slice-c-end.ensures in
    let count = c.loop-c.invariant.count in
    record {
      place = λ maker made.
          let below =
          maker_below c.args.self.now c.loop-c.c maker c.requires.range (omega arith)
          (ap (λ (k : ClusterHead). k.made) (sym c.cluster.ensures.cluster) ∙ made) in
          omega arith;
    }

pub loop-c-preserved : goal.loop-c-preserved
loop-c-preserved c =
    let slice : length c.as_slice-c-end.result.now ≡ length c.args.self.now.clusters =
    ap length c.as_slice-c-end.ensures in
    let below : c.loop-c.c < length c.args.self.now.clusters = omega arith in
    record {
      count = c.mark.ensures.count ∙ c.loop-c.invariant.count;
      marks = λ g.
          c.mark.ensures.marks g
          ∙ (ap (λ b. b || is_maker g c.cluster.result.made) (c.loop-c.invariant.marks g)
          ∙ (ap (λ (k : ClusterHead). list_any (is_made_by g)
          (take c.loop-c.c c.args.self.now.clusters) || is_made_by g k) c.cluster.ensures.cluster
          ∙ sym (list_any_more (is_made_by g) c.args.self.now.clusters c.loop-c.c no_cluster below)));
    }

pub returns : goal.returns
returns c =
    let slice : length c.as_slice-c-end.result.now ≡ length c.args.self.now.clusters =
    ap length c.as_slice-c-end.ensures in
    record {
      makers =
          all_marked (has_made c.args.self.now) (length c.args.self.now.groups) c.loop-c.makers.items
          c.loop-c.invariant.count
          (λ g. c.loop-c.invariant.marks g
          ∙ (ap (λ xs. list_any (is_made_by g) xs) (take_all c.loop-c.c c.args.self.now.clusters (omega arith))
          ∙ sym (has_made-is c.args.self.now g)));
    }

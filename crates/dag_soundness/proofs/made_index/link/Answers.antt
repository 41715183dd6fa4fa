use Rattle.std.proofs.Common.{◌≡◌, ◌<◌, ◌+◌, ◌-◌, get_or, length, subst, arith}
use Rattle.std.proofs.lemmas.List.{get_or_default}
use Rattle.dag_core.specs.declared.cluster_heads.ClusterHead.{ClusterHead}
use Rattle.dag_core.specs.Members.{no_cluster}
use Rattle.dag_soundness.proofs.MadeLaws.{AreLinked, linked-end, linked-none, linked-some}
use Rattle.dag_soundness.proofs.made_index.link.Goals as goal

pub clusters-init : goal.clusters-init
clusters-init c = record {
  within = omega arith;
  links = linked-end c.args.clusters.now c.args.firsts.now c.args.nexts.now c.requires.nexts c.requires.none;
}

pub clusters-preserved-in-Some : goal.clusters-preserved-in-Some
clusters-preserved-in-Some c =
    let clusters = c.args.clusters.now in
    let k = c.clusters.c - 1 in
    let within = c.clusters.invariant.within in
    let below : c.clusters.c - 1 < length c.args.clusters.now = omega arith in
    let same : c.clusters.c ≡ (c.clusters.c - 1) + 1 = omega arith in
    let here : ClusterHead = get_or clusters k no_cluster in
    record {
      within = omega arith;
      links = linked-some clusters c.clusters.firsts c.clusters.nexts (length c.args.firsts.now) k c.in-Some.maker here
          below (get_or_default clusters k no_cluster here below) c.in-Some.is
          (c.requires.makers k c.in-Some.maker no_cluster below c.in-Some.is)
          (subst (AreLinked clusters c.clusters.firsts c.clusters.nexts (length c.args.firsts.now)) same
          c.clusters.invariant.links);
    }

pub clusters-preserved : goal.clusters-preserved
clusters-preserved c =
    let clusters = c.args.clusters.now in
    let k = c.clusters.c - 1 in
    let within = c.clusters.invariant.within in
    let below : c.clusters.c - 1 < length c.args.clusters.now = omega arith in
    let same : c.clusters.c ≡ (c.clusters.c - 1) + 1 = omega arith in
    let here : ClusterHead = get_or clusters k no_cluster in
    record {
      within = omega arith;
      links = linked-none clusters c.clusters.firsts c.clusters.nexts (length c.args.firsts.now) k here below
          (get_or_default clusters k no_cluster here below) c.in_default.is
          (subst (AreLinked clusters c.clusters.firsts c.clusters.nexts (length c.args.firsts.now)) same
          c.clusters.invariant.links);
    }

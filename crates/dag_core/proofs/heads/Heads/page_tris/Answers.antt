use Rattle.std.proofs.Common.{◌≡◌, ◌==◌, ◌+◌, ◌≤◌, ℕ, Bool, true, false, cond, List, length, get_or, ap, sym, ◌∙◌}
use Rattle.std.proofs.Common.{arith, replicate}
use Rattle.std.proofs.lemmas.List.{length-replicate}
use Rattle.std.proofs.lemmas.List.FromFn.{fill_by_all}
use Rattle.geom_core.specs.declared.limits.TheConstants.{TRIANGLES_PER_CLUSTER}
use Rattle.dag_core.specs.declared.cluster_heads.ClusterHead.{ClusterHead}
use Rattle.dag_core.specs.declared.groups.Group.{Group}
use Rattle.dag_core.specs.Members.{cluster_at, group_at}
use Rattle.dag_core.specs.Pages.{page_of_cluster, tris_on}
use Rattle.dag_core.proofs.ListSteps.{sum_of_filter-more}
use Rattle.dag_core.proofs.MemberLaws.{in_turn}
use Rattle.dag_core.proofs.RangeLaws.{group_bounds, sizes_of, tris_limit}
use Rattle.dag_core.proofs.TableLaws.{home_at, home_in, homes_length, tris_before, tris_on-is, unsummed}
use Rattle.dag_core.proofs.heads.Heads.page_tris.Goals as goal

at_most : (b : Bool) (n most : ℕ) → n ≤ most → cond b n 0 ≤ most
at_most true n most within = within
at_most false n most within = omega arith

pub group-page-requires : goal.group-page-requires
group-page-requires c = record {
  group =
      home_in c.args.self.now c.args.homes.now c.loop-c.c
      (in_turn c.args.self.now c.requires.members) c.requires.homes c.loop-c-test.true;
}

pub cluster-requires : goal.cluster-requires
cluster-requires c =
    let all = homes_length c.args.self.now c.args.homes.now c.requires.homes in record { cluster = omega arith }

pub loop-c-init : goal.loop-c-init
loop-c-init c =
    let all : c.in_ok-tris.tris.items ≡ replicate c.args.self.now.pages 0 =
    c.in_ok-tris.ensures.items_if_clones_equal (λ y same. same) in
    let zero_at = λ (p : ℕ). ap (λ (xs : List ℕ). get_or xs p 0) all ∙ unsummed c.args.self.now.pages p in
    record {
      count = ap (λ (xs : List ℕ). length xs) all ∙ length-replicate _ _;
      sums = λ p. zero_at p;
      limit = λ p. let none = zero_at p in omega arith;
    }

pub add_at-requires : goal.add_at-requires
add_at-requires c =
    let all = homes_length c.args.self.now c.args.homes.now c.requires.homes in
    let sizes = sizes_of c.args.self.now c.requires.range in
    let group =
    home_in c.args.self.now c.args.homes.now c.loop-c.c
    (in_turn c.args.self.now c.requires.members) c.requires.homes c.loop-c-test.true in
    let bounds = group_bounds c.args.self.now (get_or c.args.homes.now c.loop-c.c 0) c.requires.range group in
    let page : c.group-page.result.page ≡ (group_at c.args.self.now (get_or c.args.homes.now c.loop-c.c 0)).page =
    ap (λ (k : Group). k.page) c.group-page.ensures.group in
    let tris : c.cluster.result.tris ≡ (cluster_at c.args.self.now c.loop-c.c).tris =
    ap (λ (k : ClusterHead). k.tris) c.cluster.ensures.cluster in
    let few = tris_limit c.args.self.now c.loop-c.c c.requires.range (omega arith) in
    let count = c.loop-c.invariant.count in
    let limit = c.loop-c.invariant.limit c.group-page.result.page in
    record { place = omega arith; sum_limit = omega arith }

pub loop-c-preserved : goal.loop-c-preserved
loop-c-preserved c =
    let all = homes_length c.args.self.now c.args.homes.now c.requires.homes in
    let here = home_at c.args.self.now c.args.homes.now c.loop-c.c c.requires.homes (omega arith) in
    let page : c.group-page.result.page ≡ page_of_cluster c.args.self.now c.loop-c.c =
    ap (λ (k : Group). k.page) c.group-page.ensures.group ∙ ap (λ h. (group_at c.args.self.now h).page) here in
    let tris : c.cluster.result.tris ≡ (cluster_at c.args.self.now c.loop-c.c).tris =
    ap (λ (k : ClusterHead). k.tris) c.cluster.ensures.cluster in
    let few = tris_limit c.args.self.now c.loop-c.c c.requires.range (omega arith) in
    record {
      count = c.add_at.ensures.count ∙ c.loop-c.invariant.count;
      sums = λ p.
          c.add_at.ensures.sums p
          ∙ (ap (λ n. n + cond (c.group-page.result.page == p) c.cluster.result.tris 0) (c.loop-c.invariant.sums p)
          ∙ (ap (λ q. tris_before c.args.self.now p c.loop-c.c + cond (q == p) c.cluster.result.tris 0) page
          ∙ (ap (λ n. tris_before c.args.self.now p c.loop-c.c + cond
          (page_of_cluster c.args.self.now c.loop-c.c == p) n 0) tris
          ∙ sym (sum_of_filter-more (λ k. (cluster_at c.args.self.now k).tris)
          (λ k. page_of_cluster c.args.self.now k == p) c.loop-c.c))));
      limit = λ p.
          let sum = c.add_at.ensures.sums p in
          let old = c.loop-c.invariant.limit p in
          let more : cond (c.group-page.result.page == p) c.cluster.result.tris 0 ≤ TRIANGLES_PER_CLUSTER =
          at_most (c.group-page.result.page == p) c.cluster.result.tris TRIANGLES_PER_CLUSTER (omega arith) in
          omega arith;
    }

pub returns : goal.returns
returns c =
    let all = homes_length c.args.self.now c.args.homes.now c.requires.homes in
    let end : c.loop-c.c ≡ length c.args.self.now.clusters = omega arith in
    record {
      tris = fill_by_all (tris_on c.args.self.now) c.loop-c.tris.items c.args.self.now.pages 0 c.loop-c.invariant.count
          (λ p below. c.loop-c.invariant.sums p
          ∙ (ap (tris_before c.args.self.now p) end
          ∙ sym (tris_on-is c.args.self.now p)));
    }

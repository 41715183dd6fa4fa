use Rattle.std.proofs.Common.{◌≡◌, ◌&&◌, ◌||◌, false, length, get_or, ap, sym, ◌∙◌, arith, nat_lt}
use Rattle.std.proofs.lemmas.List.{length-replicate}
use Rattle.std.specs.List.{list_any, range_with_len}
use Rattle.dag_core.specs.declared.cluster_heads.ClusterHead.{ClusterHead}
use Rattle.dag_core.specs.Members.{cluster_at, group_at}
use Rattle.dag_core.specs.Pages.{is_maker_on}
use Rattle.dag_core.specs.Internal.Tables.{has_later_upper}
use Rattle.dag_core.proofs.ListSteps.{list_any-more}
use Rattle.dag_core.proofs.MemberLaws.{in_turn}
use Rattle.dag_core.proofs.RangeLaws.{maker_below}
use Rattle.dag_core.proofs.TableLaws.{all_marked, has_later_upper-is, home_at, home_in, homes_length, is_made_for_later}
use Rattle.dag_core.proofs.TableLaws.{unmarked}
use Rattle.dag_core.proofs.heads.Heads.later_uppers.Goals as goal

pub cluster-requires : goal.cluster-requires
cluster-requires c =
    let all = homes_length c.args.self.now c.args.homes.now c.requires.homes in record { cluster = omega arith }

pub page_before-requires-clause-home : goal.page_before-requires-clause-home
page_before-requires-clause-home c =
    home_in c.args.self.now c.args.homes.now c.loop-c.c
    (in_turn c.args.self.now c.requires.members) c.requires.homes c.loop-c-test.true

pub page_before-requires-clause-maker : goal.page_before-requires-clause-maker
page_before-requires-clause-maker c = λ maker made.
    let all = homes_length c.args.self.now c.args.homes.now c.requires.homes in
    maker_below c.args.self.now c.loop-c.c maker c.requires.range (omega arith)
    (ap (λ (k : ClusterHead). k.made) (sym c.cluster.ensures.cluster) ∙ made)

pub loop-c-init : goal.loop-c-init
loop-c-init c = record {
  count = ap length c.in_ok-pages.ensures.marks ∙ length-replicate _ _;
  marks = λ p. ap (λ xs. get_or xs p false) c.in_ok-pages.ensures.marks ∙ unmarked _ p;
}

pub mark-requires : goal.mark-requires
mark-requires c =
    let count = c.loop-c.invariant.count in
    record { place = λ p is. let below = c.page_before.ensures.page_range p is in omega arith }

pub loop-c-preserved : goal.loop-c-preserved
loop-c-preserved c =
    let all = homes_length c.args.self.now c.args.homes.now c.requires.homes in
    let here = home_at c.args.self.now c.args.homes.now c.loop-c.c c.requires.homes (omega arith) in
    record {
      count = c.mark.ensures.count ∙ c.loop-c.invariant.count;
      marks = λ p.
          c.mark.ensures.marks p
          ∙ (ap (λ b. get_or c.loop-c.pages.items p false || b) (c.page_before.ensures.page p)
          ∙ (ap (λ b. b || (is_maker_on c.args.self.now p c.cluster.result.made && nat_lt p
          (group_at c.args.self.now (get_or c.args.homes.now c.loop-c.c 0)).page)) (c.loop-c.invariant.marks p)
          ∙ (ap (λ (k : ClusterHead). list_any (is_made_for_later c.args.self.now p) (range_with_len 0 c.loop-c.c) ||
          (is_maker_on c.args.self.now p k.made && nat_lt p
          (group_at c.args.self.now (get_or c.args.homes.now c.loop-c.c 0)).page)) c.cluster.ensures.cluster
          ∙ (ap (λ h. list_any (is_made_for_later c.args.self.now p) (range_with_len 0 c.loop-c.c) ||
          (is_maker_on c.args.self.now p (cluster_at c.args.self.now c.loop-c.c).made && nat_lt p
          (group_at c.args.self.now h).page)) here
          ∙ sym (list_any-more (is_made_for_later c.args.self.now p) c.loop-c.c)))));
    }

pub returns : goal.returns
returns c =
    let all = homes_length c.args.self.now c.args.homes.now c.requires.homes in
    let end : c.loop-c.c ≡ length c.args.self.now.clusters = omega arith in
    record {
      pages =
          all_marked (has_later_upper c.args.self.now) c.args.self.now.pages c.loop-c.pages.items
          c.loop-c.invariant.count
          (λ p. c.loop-c.invariant.marks p
          ∙ (ap (λ n. list_any (is_made_for_later c.args.self.now p) (range_with_len 0 n)) end
          ∙ sym (has_later_upper-is c.args.self.now p)));
    }

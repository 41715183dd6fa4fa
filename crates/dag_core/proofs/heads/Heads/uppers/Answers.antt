use Rattle.std.proofs.Common.{◌≡◌, ◌==◌, ◌&&◌, ◌||◌, not, ℕ, false, length, get_or, ap, sym, ◌∙◌, arith}
use Rattle.std.proofs.lemmas.List.{length-replicate}
use Rattle.std.specs.List.{list_any, range_with_len}
use Rattle.dag_core.specs.declared.cluster_heads.ClusterHead.{ClusterHead}
use Rattle.dag_core.specs.Members.{cluster_at, group_at}
use Rattle.dag_core.specs.Pages.{is_maker_on, is_upper}
use Rattle.dag_core.proofs.UpperMarks.{is_upper-by, is_upper_by}
use Rattle.dag_core.proofs.CutSteps.{home_read}
use Rattle.dag_core.proofs.HalvingLaws.{checked_in_turn}
use Rattle.dag_core.proofs.ListSteps.{list_any-more}
use Rattle.dag_core.proofs.MarkLaws.{marked_is}
use Rattle.dag_core.proofs.MemberLaws.{home_below}
use Rattle.dag_core.proofs.RangeLaws.{maker_below, sizes_of}
use Rattle.dag_core.proofs.TableLaws.{homes_length, unmarked}
use Rattle.dag_core.proofs.heads.Heads.uppers.Goals as goal

pub cluster-requires : goal.cluster-requires
cluster-requires c =
    let all = homes_length c.args.self.now c.in_ok-homes.homes.items c.in_ok-homes.ensures.homes in record
    { cluster = omega arith }

pub upper_by-requires-clause-home : goal.upper_by-requires-clause-home
upper_by-requires-clause-home c =
    let all = homes_length c.args.self.now c.in_ok-homes.homes.items c.in_ok-homes.ensures.homes in
    let below =
    home_below c.args.self.now c.loop-c.c (checked_in_turn c.args.self.now c.requires.checked) (omega arith) in
    let here =
    home_read c.args.self.now c.in_ok-homes.homes.items c.loop-c.c c.index.result.now c.in_ok-homes.ensures.homes
    (omega arith) c.index.ensures in
    omega arith

pub upper_by-requires-clause-maker : goal.upper_by-requires-clause-maker
upper_by-requires-clause-maker c = λ maker made.
    let all = homes_length c.args.self.now c.in_ok-homes.homes.items c.in_ok-homes.ensures.homes in
    maker_below c.args.self.now c.loop-c.c maker c.requires.range (omega arith)
    (ap (λ (k : ClusterHead). k.made) (sym c.cluster.ensures.cluster) ∙ made)

pub loop-c-init : goal.loop-c-init
loop-c-init c = record {
  count = ap length c.in_ok-marks.ensures.marks ∙ length-replicate _ _;
  marks = λ q. ap (λ xs. get_or xs q false) c.in_ok-marks.ensures.marks ∙ unmarked _ q;
}

pub mark-requires : goal.mark-requires
mark-requires c =
    let count = c.loop-c.invariant.count in
    record { place = λ q is. let below = c.upper_by.ensures.page_range q is in omega arith }

pub loop-c-preserved : goal.loop-c-preserved
loop-c-preserved c =
    let heads = c.args.self.now in
    let all = homes_length c.args.self.now c.in_ok-homes.homes.items c.in_ok-homes.ensures.homes in
    let here =
    home_read c.args.self.now c.in_ok-homes.homes.items c.loop-c.c c.index.result.now c.in_ok-homes.ensures.homes
    (omega arith) c.index.ensures in
    record {
      count = c.mark.ensures.count ∙ c.loop-c.invariant.count;
      marks = λ q.
          c.mark.ensures.marks q
          ∙ (ap (λ b. get_or c.loop-c.marks.items q false || b) (c.upper_by.ensures.page q)
          ∙ (ap (λ b. b || (not (q == c.args.p) &&
          (is_maker_on heads c.args.p c.cluster.result.made && (group_at heads c.index.result.now).page == q)))
          (c.loop-c.invariant.marks q)
          ∙ (ap (λ (k : ClusterHead). list_any (is_upper_by heads c.args.p q) (range_with_len 0 c.loop-c.c) ||
          (not (q == c.args.p) && (is_maker_on heads c.args.p k.made &&
          (group_at heads c.index.result.now).page == q))) c.cluster.ensures.cluster
          ∙ (ap (λ h. list_any (is_upper_by heads c.args.p q) (range_with_len 0 c.loop-c.c) ||
          (not (q == c.args.p) && (is_maker_on heads c.args.p (cluster_at heads c.loop-c.c).made &&
          (group_at heads h).page == q))) here
          ∙ sym (list_any-more (is_upper_by heads c.args.p q) c.loop-c.c)))));
    }

pub marked-requires : goal.marked-requires
marked-requires c =
    let sizes = sizes_of c.args.self.now c.requires.range in let count = c.loop-c.invariant.count in let pages =
    sizes.pages in record { count_limit = omega arith }

pub returns : goal.returns
returns c =
    let all = homes_length c.args.self.now c.in_ok-homes.homes.items c.in_ok-homes.ensures.homes in
    let end : c.loop-c.c ≡ length c.args.self.now.clusters = omega arith in
    let count : length c.deref.result.now ≡ c.args.self.now.pages =
    ap length c.deref.ensures.value ∙ c.loop-c.invariant.count in
    let marks : (q : ℕ) → get_or c.deref.result.now q false ≡ is_upper c.args.self.now c.args.p q =
    λ q. ap (λ xs. get_or xs q false) c.deref.ensures.value
    ∙ (c.loop-c.invariant.marks q
    ∙ (ap (λ n. list_any (is_upper_by c.args.self.now c.args.p q) (range_with_len 0 n)) end
    ∙ is_upper-by c.args.self.now c.args.p q)) in
    record {
      uppers =
          c.in_ok-uppers.ensures.marked ∙ marked_is
          (is_upper c.args.self.now c.args.p) c.deref.result.now c.args.self.now.pages count marks;
    }

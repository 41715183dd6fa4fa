use Rattle.std.proofs.Common.{◌≡◌, false, true, filter, length, ap, sym, ◌∙◌, arith}
use Rattle.std.specs.List.{range_with_len}
use Rattle.dag_core.specs.declared.cluster_heads.ClusterHead.{ClusterHead}
use Rattle.dag_core.specs.Cuts.{is_in_cut, is_open}
use Rattle.dag_core.proofs.CutSteps.{drawn_by, home_read}
use Rattle.dag_core.proofs.HalvingLaws.{checked_in_turn}
use Rattle.dag_core.proofs.MarkLaws.{filter_skip, filter_step}
use Rattle.dag_core.proofs.MemberLaws.{home_below}
use Rattle.dag_core.proofs.RangeLaws.{maker_below, sizes_of}
use Rattle.dag_core.proofs.TableLaws.{homes_length, table_length}
use Rattle.dag_core.proofs.heads.Heads.cut.Goals.{else-is_drawn, then-is_drawn+in_ok-push}
use Rattle.dag_core.proofs.heads.Heads.cut.Goals as goal

pub cluster-requires : goal.cluster-requires
cluster-requires c =
    let all = homes_length c.args.self.now c.in_ok-homes.homes.items c.in_ok-homes.ensures.homes in record
    { cluster = omega arith }

pub is_drawn-requires-clause-home : goal.is_drawn-requires-clause-home
is_drawn-requires-clause-home c =
    let count =
    table_length (is_open c.args.self.now c.args.lens.now c.args.resident.now)
    (length c.args.self.now.groups) c.deref.result.now (c.deref.ensures.value ∙ c.in_ok-open.ensures.marks) in
    let all = homes_length c.args.self.now c.in_ok-homes.homes.items c.in_ok-homes.ensures.homes in
    let below =
    home_below c.args.self.now c.loop-c.c (checked_in_turn c.args.self.now c.requires.checked) (omega arith) in
    let here =
    home_read c.args.self.now c.in_ok-homes.homes.items c.loop-c.c c.index.result.now c.in_ok-homes.ensures.homes
    (omega arith) c.index.ensures in
    omega arith

pub is_drawn-requires-clause-maker : goal.is_drawn-requires-clause-maker
is_drawn-requires-clause-maker c = λ maker made.
    let count =
    table_length (is_open c.args.self.now c.args.lens.now c.args.resident.now)
    (length c.args.self.now.groups) c.deref.result.now (c.deref.ensures.value ∙ c.in_ok-open.ensures.marks) in
    let all = homes_length c.args.self.now c.in_ok-homes.homes.items c.in_ok-homes.ensures.homes in
    let below =
    maker_below c.args.self.now c.loop-c.c maker c.requires.range (omega arith)
    (ap (λ (k : ClusterHead). k.made) (sym c.cluster.ensures.cluster) ∙ made) in
    omega arith

pub overflow_cast-c : goal.overflow_cast-c
overflow_cast-c c =
    let all = homes_length c.args.self.now c.in_ok-homes.homes.items c.in_ok-homes.ensures.homes in
    let sizes = sizes_of c.args.self.now c.requires.range in
    let clusters = sizes.clusters in
    omega arith

pub loop-c-preserved : goal.loop-c-preserved
loop-c-preserved c =
    let all = homes_length c.args.self.now c.in_ok-homes.homes.items c.in_ok-homes.ensures.homes in
    let here =
    home_read c.args.self.now c.in_ok-homes.homes.items c.loop-c.c c.index.result.now c.in_ok-homes.ensures.homes
    (omega arith) c.index.ensures in
    let test = is_in_cut c.args.self.now c.args.lens.now c.args.resident.now in
    elim c.if-is_drawn.branch [
      | then-is_drawn+in_ok-push w ↦
          let told =
          drawn_by c.args.self.now c.args.lens.now c.args.resident.now c.deref.result.now c.loop-c.c
          c.index.result.now c.cluster.result true
          c.requires.range (checked_in_turn c.args.self.now c.requires.checked)
          (c.deref.ensures.value ∙ c.in_ok-open.ensures.marks) here c.cluster.ensures.cluster
          (omega arith) w.if-is_drawn.ensures.drawn in
          ap (λ v. v.items) w.cut-is ∙ (w.in_ok-push.ensures.items ∙
          filter_step test c.loop-c.c c.loop-c.cut.items c.loop-c.invariant (sym told))
      | else-is_drawn w ↦
          let told =
          drawn_by c.args.self.now c.args.lens.now c.args.resident.now c.deref.result.now c.loop-c.c
          c.index.result.now c.cluster.result false
          c.requires.range (checked_in_turn c.args.self.now c.requires.checked)
          (c.deref.ensures.value ∙ c.in_ok-open.ensures.marks) here c.cluster.ensures.cluster
          (omega arith) w.if-is_drawn.ensures.drawn in
          ap (λ v. v.items) w.cut-is ∙ filter_skip test c.loop-c.c c.loop-c.cut.items c.loop-c.invariant (sym told)
    ]

pub returns : goal.returns
returns c =
    let all = homes_length c.args.self.now c.in_ok-homes.homes.items c.in_ok-homes.ensures.homes in
    let end : c.loop-c.c ≡ length c.args.self.now.clusters = omega arith in
    record {
      cut = c.of.ensures ∙ (c.loop-c.invariant
          ∙ ap (λ n. filter (is_in_cut c.args.self.now c.args.lens.now c.args.resident.now) (range_with_len 0 n)) end);
    }

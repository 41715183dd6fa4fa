use Rattle.std.proofs.Common.{◌<◌, take, drop, ap, ◌∙◌, arith}
use Rattle.page_codec.proofs.RecordLists.{left-more, breaks_in-step, none-first}
use Rattle.page_codec.proofs.record_rules.first_break.Goals as goal

pub records-preserved : goal.records-preserved
records-preserved g c =
    let size = g.R.RecordRules.size in
    let rules = g.R.RecordRules.broken c.args.rules.now in
    let below : c.records.k < c.args.count = omega arith in
    let left = left-more size c.args.count c.records.k below in
    record {
      room = omega (arith, left, c.split_at.ensures.back_len, c.size.ensures.size);
      place = omega (arith, left, c.size-in-records.ensures.size, c.records.invariant.place);
      first =
          rw c.size-in-records.ensures.size (breaks_in-step rules size c.records.offset c.args.count c.records.k
          c.records.rest.now c.split_at.result.0.now c.split_at.result.1.now _ below
          (c.split_at.ensures.front ∙ ap (λ n. take n c.records.rest.now) c.size.ensures.size)
          (c.split_at.ensures.back ∙ ap (λ n. drop n c.records.rest.now) c.size.ensures.size)
          (none-first (rules c.split_at.result.0.now) c.in_default.ensures.rule) c.records.invariant.first);
    }

use Rattle.std.proofs.Common.{◌<◌, take, drop, ap, ◌∙◌, arith}
use Rattle.page_codec.proofs.RecordLists.{left-more, records-step}
use Rattle.page_codec.proofs.tables.read_records.Goals as goal

pub records-preserved : goal.records-preserved
records-preserved g c =
    let size = g.R.Record.size in
    let below : c.records.k < c.args.count = omega arith in
    record {
      room =
          omega (
            arith,
            left-more size c.args.count c.records.k below,
            c.split_at.ensures.back_len,
            c.size.ensures.size,
          );
      all =
          records-step g.R.Record.reads size c.args.count c.records.k c.records.rest.now c.split_at.result.0.now
          c.split_at.result.1.now c.records.items.items c.push.new.self.items _ c.read.result below
          (c.split_at.ensures.front ∙ ap (λ n. take n c.records.rest.now) c.size.ensures.size)
          (c.split_at.ensures.back ∙ ap (λ n. drop n c.records.rest.now) c.size.ensures.size)
          c.read.ensures.item c.in_ok-push.ensures.items c.records.invariant.all;
    }

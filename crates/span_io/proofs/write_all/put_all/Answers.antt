use Rattle.std.proofs.Common.{◌∙◌, arith, length-drop}
use Rattle.std.proofs.lemmas.List.{take_rest}
use Rattle.span_io.proofs.Streams.{put_more}
use Rattle.span_io.proofs.write_all.put_all.Goals as goal

pub loop-at-preserved : goal.loop-at-preserved
loop-at-preserved g c =
    let at = c.loop-at.at in
    let bytes = c.args.bytes.now in
    let taken = c.in-Bytes.taken in
    let took = rw (take_rest bytes at) at c.in-Bytes.ensures.outcome in record {
      within = omega (arith, took.within, length-drop at bytes);
      appended = put_more _ _ _ _ _ _ _ _ bytes at taken c.loop-at.invariant.appended took;
      no_fault = took.no_fault ∙ c.loop-at.invariant.no_fault;
    }

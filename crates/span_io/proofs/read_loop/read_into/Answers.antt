use Rattle.std.proofs.Common.{◌≡◌, ◌≤◌, ◌+◌, ◌-◌, ◌++◌, ◌∙◌, ℕ, List, min, length-take, take, arith, ap, subst}
use Rattle.geom_core.specs.declared.limits.TheConstants.{READ_BYTES}
use Rattle.span_io.proofs.Feeding.{fed_more, fed_to_stop}
use Rattle.span_io.proofs.read_loop.read_into.Goals as goal

pub pieces-preserved : goal.pieces-preserved
pieces-preserved g c =
    let start = c.args.consumer.now in
    let into = c.read_some.new.into in
    let n = c.in-Bytes.more in
    let shown : take c.min.result into ≡ take (min n (c.args.limit - c.pieces.count)) into =
    ap (λ k. take k into) c.min.ensures in record {
      fed =
          fed_more (g.C.Consumer.has_fed start) c.args.limit _ _ _ _ _ c.pieces.count c.pieces.consumer c.feed.new.self
          into n c.pieces.invariant.fed (omega arith) c.in-Bytes.ensures.outcome
          (λ bytes fed. subst (λ (l : List ℕ). g.C.Consumer.has_fed start c.feed.new.self (bytes ++ l)) shown
          (c.in-Continue.ensures.outcome start bytes fed));
      no_fault = c.in-Bytes.ensures.outcome.no_fault ∙ c.pieces.invariant.no_fault;
      within =
          omega (
            arith,
            c.in-Bytes.ensures.outcome.fits,
            c.read_some.auto.into,
            length-take c.min-room.result c.deref_mut.result.now,
            c.min-room.ensures,
          );
      buffer_len = c.pieces.invariant.buffer_len;
    }

pub returns-in-Stop : goal.returns-in-Stop
returns-in-Stop g c =
    let start = c.args.consumer.now in
    let into = c.read_some.new.into in
    let n = c.in-Bytes.more in
    let shown : take c.min.result into ≡ take (min n (c.args.limit - c.pieces.count)) into =
    ap (λ k. take k into) c.min.ensures in
    let asked : n ≤ c.args.limit + 1 - c.pieces.count =
    omega (
      arith,
      c.in-Bytes.ensures.outcome.fits,
      c.read_some.auto.into,
      length-take c.min-room.result c.deref_mut.result.now,
      c.min-room.ensures,
    ) in
    let one_read : n ≤ READ_BYTES =
    omega (
      arith,
      c.in-Bytes.ensures.outcome.fits,
      c.read_some.auto.into,
      length-take c.min-room.result c.deref_mut.result.now,
      c.min-room.ensures,
    ) in record {
      outcome =
          fed_to_stop (g.C.Consumer.has_fed start)
          (g.C.Consumer.stops start) c.args.limit _ _ _ _ _ _ c.pieces.count c.pieces.consumer into n _
          c.pieces.invariant.fed (omega arith) asked one_read c.pieces.invariant.no_fault c.in-Bytes.ensures.outcome
          (λ bytes fed. subst (λ (l : List ℕ). g.C.Consumer.stops start (bytes ++ l) c.in-Stop.outcome) shown
          (c.in-Stop.ensures.outcome start bytes fed));
    }

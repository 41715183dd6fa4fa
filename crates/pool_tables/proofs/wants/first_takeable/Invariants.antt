use Rattle.std.proofs.Common.{◌≡◌, drop, find}
use Rattle.std.specs.Option.{option_map}
use Rattle.pool_tables.specs.WantQueue.{counts_in, is_takeable_in, standing}
use Rattle.pool_tables.specs.declared.frame_item.FrameId.{FrameId}
use Rattle.pool_tables.proofs.wants.first_takeable.Given as goal

abbrev pub invariant-loop-queued : goal.invariant-loop-queued
invariant-loop-queued l =
    let test = is_takeable_in l.layout l.pages.records (option_map (λ (f : FrameId). f.0) l.frame) in
    let counts = counts_in l.pages.records l.frames in
    find test (standing counts (drop l.queued-index l.wants)) ≡ find test (standing counts l.wants)

use Rattle.std.proofs.Common.{◌≡◌, drop, find}
use Rattle.pool_tables.specs.WantQueue.{counts_in, is_loading_in, standing}
use Rattle.pool_tables.proofs.wants.first_loading.Given as goal

abbrev pub invariant-loop-queued : goal.invariant-loop-queued
invariant-loop-queued l =
    let test = is_loading_in l.pages.records l.frame.0 in
    let counts = counts_in l.pages.records l.frames in
    find test (standing counts (drop l.queued-index l.wants)) ≡ find test (standing counts l.wants)

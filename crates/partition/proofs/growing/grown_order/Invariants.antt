use Rattle.std.proofs.Common.{◌≡◌, length}
use Rattle.partition.specs.Internal.Growths.{IsGrowth, IsReady}
use Rattle.partition.proofs.growing.grown_order.Given as goal

abbrev pub invariant-places : goal.invariant-places
invariant-places l = record {
  placed : length l.growth.placed.items ≡ l.count;
  counted : length l.growth.order.items ≡ l.counter;
  growth : IsGrowth l.shared l.size l.growth;
  ready : IsReady l.shared l.size l.growth;
}

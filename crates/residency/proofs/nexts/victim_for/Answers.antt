use Rattle.residency.proofs.TableQueries.{uppers-ascend, victim-told}
use Rattle.residency.proofs.nexts.victim_for.Goals as goal

pub first_evictable-requires : goal.first_evictable-requires
first_evictable-requires c =
    record { ascending = rw c.uppers_of.ensures (uppers-ascend c.args.layout.now c.args.page c.requires.layout_bounds) }

pub returns : goal.returns
returns c = λ journal past.
    victim-told c.args.layout.now journal c.args.tables.now c.args.page c.latest_snapshot.result
    c.first_evictable.result past c.latest_snapshot.ensures (rw c.uppers_of.ensures at c.first_evictable.ensures)

use Rattle.pool_tables.proofs.Links.{IsPath-from_ring}
use Rattle.pool_tables.proofs.page_list.PageList.iter.Goals as goal

pub invariant_of-result : goal.invariant_of-result
invariant_of-result c =
    let list = c.self.inside in
    rw c.deref.ensures.value (IsPath-from_ring list.next.items list.previous.items list.end _ c.self.invariant)

use Rattle.pool_tables.proofs.Apart.{among-from_lacks, Lacks-without_same}
use Rattle.pool_tables.proofs.page_list.PageList.move_to_end.Goals as goal

pub push-requires-clause-page_range : goal.push-requires-clause-page_range
push-requires-clause-page_range c = rw c.remove.ensures.left c.remove.ensures.page_range

pub push-requires-clause-absent : goal.push-requires-clause-absent
push-requires-clause-absent c =
    rw c.remove.ensures.left (among-from_lacks _ c.args.page (Lacks-without_same c.args.page c.args.self.now.pages))

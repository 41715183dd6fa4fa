use Rattle.std.proofs.Common.{sym, ◌∙◌}
use Rattle.pool_tables.proofs.Links.{IsStep-from_path}
use Rattle.pool_tables.proofs.page_list.PagesLeft.next.Goals as goal

pub invariant_of-self : goal.invariant_of-self
invariant_of-self c =
    let left = c.self.inside in
    (IsStep-from_path left.next.now left.end left.from _ c.self.invariant c.if-page-self.false).rest

pub returns-clause-first : goal.returns-clause-first
returns-clause-first c =
    let left = c.self.inside in
    sym c.self.view_is ∙ (IsStep-from_path left.next.now left.end left.from _ c.self.invariant
    c.if-page-self.false).first

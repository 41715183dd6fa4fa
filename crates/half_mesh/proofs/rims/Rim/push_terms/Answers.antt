use Rattle.std.proofs.Common.{sym}
use Rattle.half_mesh.proofs.TermLaws.{terms_in-small}
use Rattle.half_mesh.proofs.rims.Rim.push_terms.Goals as goal

pub returns-in_err-push_sums-clause-small : goal.returns-in_err-push_sums-clause-small
returns-in_err-push_sums-clause-small c =
    rw (sym c.self.view_is) (terms_in-small c.self.inside.edges.items c.self.inside.sums.items c.self.invariant.1)

pub returns-clause-small : goal.returns-clause-small
returns-clause-small c =
    rw (sym c.self.view_is) (terms_in-small c.self.inside.edges.items c.self.inside.sums.items c.self.invariant.1)

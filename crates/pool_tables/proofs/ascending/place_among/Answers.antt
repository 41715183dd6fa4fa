use Rattle.std.proofs.Common.{sym, ap, ◌∙◌}
use Rattle.std.specs.Option.{is_some}
use Rattle.pool_tables.proofs.AscendingNumbers.{among-searched}
use Rattle.pool_tables.proofs.ascending.place_among.Goals as goal

pub returns-clause-absent : goal.returns-clause-absent
returns-clause-absent c = λ none.
    sym (among-searched c.args.numbers.now c.args.number c.binary_search.result c.requires
    c.binary_search.ensures.position) ∙ (sym c.ok.ensures.variant ∙ ap is_some none)

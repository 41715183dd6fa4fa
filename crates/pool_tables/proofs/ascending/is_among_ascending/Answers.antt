use Rattle.std.proofs.Common.{◌∙◌}
use Rattle.pool_tables.proofs.AscendingNumbers.{among-searched}
use Rattle.pool_tables.proofs.ascending.is_among_ascending.Goals as goal

pub returns : goal.returns
returns c = c.is_ok.ensures.value ∙ among-searched c.args.numbers.now c.args.number c.binary_search.result c.requires
    c.binary_search.ensures.position

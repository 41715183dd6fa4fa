use Rattle.std.proofs.Common.{ap, sym, ◌∙◌}
use Rattle.journal.proofs.Cuts.{fields_of_cut}
use Rattle.journal.proofs.fields.Fields.split_first.Goals as goal
use Rattle.journal.specs.RestOfLine.{fields_left}

pub returns : goal.returns
returns c =
    sym c.self.view_is ∙ ap fields_left c.in_ok-self.was ∙
    fields_of_cut _ _ _ c.cut_at.ensures.apart c.cut_at.ensures.whole

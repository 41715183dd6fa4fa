use Rattle.std.proofs.Common.{ap, ◌∙◌}
use Rattle.journal.specs.Grammar.{is_empty}
use Rattle.journal.proofs.Cuts.{is_empty-fields_left}
use Rattle.journal.proofs.fields.Fields.is_empty.Goals as goal

pub returns : goal.returns
returns c = is_empty-fields_left _ _ c.is_none.ensures ∙ ap is_empty c.self.view_is

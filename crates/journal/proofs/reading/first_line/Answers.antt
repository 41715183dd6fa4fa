use Rattle.journal.proofs.Cuts.{lines_cut_none, lines_cut_some}
use Rattle.journal.proofs.reading.first_line.Goals as goal

pub returns-in-Some-clause-line : goal.returns-in-Some-clause-line
returns-in-Some-clause-line c =
    lines_cut_some c.args.text.now c.cut_at.result.0.now c.cut_at.result.1 c.in-Some.rest c.cut_at.ensures.apart
    c.cut_at.ensures.whole c.in-Some.is

pub returns-in-None-clause-line : goal.returns-in-None-clause-line
returns-in-None-clause-line c =
    lines_cut_none c.args.text.now c.cut_at.result.0.now c.cut_at.result.1 c.cut_at.ensures.apart c.cut_at.ensures.whole
    c.in-None.is c.if-is_empty.ensures

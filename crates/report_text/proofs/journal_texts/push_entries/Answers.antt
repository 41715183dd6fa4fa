use Rattle.report_text.proofs.JournalLines.{entries_more}
use Rattle.report_text.proofs.journal_texts.push_entries.Goals as goal

pub loop-entry-preserved : goal.loop-entry-preserved
loop-entry-preserved c =
    entries_more c.args.text.now.items c.loop-entry.text.items c.push_entry.new.text.items c.args.entries.now
    c.entry-item.result c.loop-entry.entry-index c.loop-entry-test.true c.entry-item.is c.loop-entry.invariant
    c.in_ok-push_entry.ensures

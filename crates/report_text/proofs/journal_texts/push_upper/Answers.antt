use Rattle.std.proofs.Common.{sym, ◌∙◌}
use Rattle.report_text.proofs.JournalLines.{upper_put}
use Rattle.report_text.proofs.journal_texts.push_upper.Goals as goal

pub returns : goal.returns
returns c =
    upper_put c.args.text.now.items c.extend_from_slice.new.self.items c.push_number.new.text.items
    c.push_numbers.new.text.items c.push.new.self.items c.args.listed.now c.args.page
    (sym c.is_empty.ensures ∙ c.if-is_empty.false) c.in_ok-extend_from_slice.ensures.items
    c.in_ok-push_number.ensures c.in_ok-push_numbers.ensures c.in_ok-push.ensures.items

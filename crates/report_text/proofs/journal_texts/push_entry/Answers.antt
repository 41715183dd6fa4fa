use Rattle.std.proofs.Common.{◌++◌, ◌∷◌, [], List, ℕ, ap, ◌∙◌}
use Rattle.std.specs.Fmt.{decimal}
use Rattle.journal.specs.Spelling.{event_fields}
use Rattle.report_text.proofs.SpacedFields.{line_put}
use Rattle.report_text.specs.Internal.Spaced.{spaced}
use Rattle.report_text.proofs.journal_texts.push_entry.Goals as goal

pub returns : goal.returns
returns c =
    let before : List ℕ = c.args.text.now.items in
    let fields : List (List ℕ) = event_fields c.args.entry.now.what in
    line_put before c.push.new.self.items (decimal c.args.entry.now.by) fields
    (c.in_ok-push.ensures.items
    ∙ ap (λ (l : List ℕ). l ++ 10 ∷ []) (c.in_ok-push_event.ensures ∙ ap (λ (l : List ℕ). l ++ spaced fields)
    (c.in_ok-push_decimal.ensures ∙ ap (λ (n : ℕ). before ++ decimal n) c.into.ensures)))

use Rattle.std.proofs.Common.{◌++◌, ◌∷◌, List, ℕ, ap, ◌∙◌}
use Rattle.std.specs.Fmt.{decimal}
use Rattle.std.specs.Prelude.{codes}
use Rattle.journal.specs.Spelling.{list_fields}
use Rattle.report_text.proofs.SpacedFields.{frame_line_put}
use Rattle.report_text.specs.Internal.Spaced.{spaced}
use Rattle.report_text.proofs.frame_texts.push_frame_line.Goals as goal

pub returns : goal.returns
returns c =
    let begun : List ℕ = c.extend_from_slice.new.self.items in
    let at : List ℕ = c.push_word_and_number.new.text.items in
    let present : List ℕ = c.push_word_and_list.new.text.items in
    frame_line_put c.args.text.now.items begun c.push_number.new.text.items at present
    c.push_word_and_list-2.new.text.items c.push_counts.new.text.items c.push.new.self.items c.args.shown.now
    c.in_ok-extend_from_slice.ensures.items
    (c.in_ok-push_number.ensures ∙ ap (λ (n : ℕ). begun ++ 32 ∷ decimal n) c.into.ensures)
    c.in_ok-push_word_and_number.ensures
    (c.in_ok-push_word_and_list.ensures
    ∙ ap (λ (l : List ℕ). at ++ spaced (codes "resident" ∷ list_fields l)) c.as_slice.ensures)
    (c.in_ok-push_word_and_list-2.ensures
    ∙ ap (λ (l : List ℕ). present ++ spaced (codes "missing" ∷ list_fields l)) c.as_slice-2.ensures)
    c.in_ok-push_counts.ensures c.in_ok-push.ensures.items

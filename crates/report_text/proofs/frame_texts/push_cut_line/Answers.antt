use Rattle.std.proofs.Common.{◌++◌, ◌∷◌, [], List, ℕ, ap, ◌∙◌}
use Rattle.std.specs.List.{join_with_byte}
use Rattle.std.specs.Prelude.{codes}
use Rattle.journal.specs.Spelling.{list_fields}
use Rattle.report_text.proofs.SpacedFields.{comment_put}
use Rattle.report_text.specs.FrameText.{comment_line}
use Rattle.report_text.specs.Internal.Spaced.{spaced}
use Rattle.report_text.proofs.frame_texts.push_cut_line.Goals as goal

pub returns : goal.returns
returns c =
    let before : List ℕ = c.args.text.now.items in
    let pages : List (List ℕ) = list_fields c.as_slice.result.now in
    comment_put before c.push.new.self.items (codes "cut") pages
    (c.in_ok-push.ensures.items
    ∙ ap (λ (l : List ℕ). l ++ 10 ∷ [])
    (c.in_ok-push_list.ensures ∙ ap (λ (l : List ℕ). l ++ spaced pages) c.in_ok-extend_from_slice.ensures.items))
    ∙ ap (λ (l : List ℕ). before ++ comment_line (join_with_byte 32 (codes "cut" ∷ list_fields l))) c.as_slice.ensures

use Rattle.std.proofs.Common.{◌≡◌, ℕ, List, ◌%◌, ◌∙◌, length, ap}
use Rattle.std.proofs.Math.Nat.{mul-mod_right}
use Rattle.geom_core.specs.Picture.{items_of, picture}
use Rattle.report_text.specs.PictureText.{picture_text_of}
use Rattle.geode_tool.specs.Draw.{requested_text}
use Rattle.geode_tool.proofs.DrawAnswers.{obj_refused}
use Rattle.geode_tool.proofs.draw_command.drawn_text.Goals as goal

pub picture_text-requires-clause-whole_rows : goal.picture_text-requires-clause-whole_rows
picture_text-requires-clause-whole_rows g c =
    let size = c.args.request.now.size in
    ap (λ (n : ℕ). n % size.width) (ap length c.deref-2.ensures.value ∙ c.in_ok-words.ensures.picture_size)
    ∙ mul-mod_right size.width size.height

pub returns-clause-picture : goal.returns-clause-picture
unfolding requested_text
returns-clause-picture g c =
    let request = c.args.request.now in
    let tris = c.in_ok-tris.tris.items in
    let words : c.deref-2.result.now ≡ picture request.camera request.size (items_of tris) =
    c.deref-2.ensures.value ∙ c.in_ok-words.ensures.picture ∙
    ap (λ l. picture request.camera request.size (items_of l)) c.deref.ensures.value in
    record {
      tris = tris;
      listed = c.in_ok-tris.ensures.listed;
      shown = c.in_ok-picture_text.ensures ∙ ap (λ (l : List ℕ). picture_text_of l request.size.width) words;
    }

pub returns-in_err-tris-clause-refused : goal.returns-in_err-tris-clause-refused
returns-in_err-tris-clause-refused g c =
    obj_refused _ c.args.request.now _ _ _ _ c.in_err-tris.field-0.0 c.from_residual.ensures
    c.in_err-tris.ensures.refused c.in_err-tris.ensures.read_up_to

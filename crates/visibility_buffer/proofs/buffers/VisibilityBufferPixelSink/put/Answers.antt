use Rattle.std.proofs.Common.{◌≡◌, ◌<◌, ◌∙◌, ℕ, List, max, set, get_or, length, sym, ap, subst}
use Rattle.std.proofs.lemmas.List.{get_or_read}
use Rattle.visibility_buffer.proofs.Greatest.{picture_of_words-push}
use Rattle.visibility_buffer.proofs.buffers.VisibilityBufferPixelSink.put.Goals as goal

pub returns-clause-shown : goal.returns-clause-shown
returns-clause-shown c = λ size before shown.
    let buffer = c.args.self.now in
    let words : List ℕ = buffer.words.items in
    let pixel : ℕ = c.args.pixel in
    let within : pixel < length words = subst (λ (n : ℕ). pixel < n) (sym buffer.whole) c.requires in
    let most : c.max.result ≡ max (get_or words pixel 0) c.args.word =
    c.max.ensures ∙ ap (λ (n : ℕ). max n c.args.word)
    (get_or_read words pixel c.index.result.now within c.index.ensures 0) in (
      shown.0,
      ap (set words pixel) most
          ∙ picture_of_words-push size words before pixel c.args.word shown.1 (rw shown.0 at c.requires),
    )

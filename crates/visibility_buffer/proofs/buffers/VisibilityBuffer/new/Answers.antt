use Rattle.std.proofs.Common.{◌≡◌, ◌*◌, ◌∙◌, ap, ℕ, List, get_or, replicate, length}
use Rattle.std.proofs.lemmas.List.{get_or-replicate, length-replicate}
use Rattle.visibility_buffer.proofs.Greatest.{picture_of_nothing}
use Rattle.visibility_buffer.proofs.buffers.VisibilityBuffer.new.Goals as goal

pub returns-clause-empty : goal.returns-clause-empty
returns-clause-empty c =
    let count : ℕ = c.args.size.width * c.args.size.height in
    let dark : c.in_ok-words.words.items ≡ replicate count 0 =
    c.in_ok-words.ensures.items_if_clones_equal (λ y same. same) in
    picture_of_nothing c.args.size c.in_ok-words.words.items
    (ap length dark ∙ length-replicate count 0)
    (λ k below. ap (λ (l : List ℕ). get_or l k 0) dark ∙ get_or-replicate count k 0 0 below)

use Rattle.std.proofs.Common.{◌≡◌, take, sym, ap, ◌∙◌, arith}
use Rattle.page_codec.specs.Spelling.{header_bytes, magic}
use Rattle.page_file.proofs.HeaderTexts.{header-spelt, is-magic}
use Rattle.page_file.proofs.headers.judge_header.Goals as goal

pub returns-in-None-clause-spelling : goal.returns-in-None-clause-spelling
returns-in-None-clause-spelling c =
    let text = c.args.text.now in
    let found = c.copy_from_slice.new.self in
    let begins : take 8 text ≡ magic = sym c.copy_from_slice.ensures.after ∙ is-magic found c.if-ne.ensures in
    ap header_bytes c.decode_header-header.ensures.header
    ∙ header-spelt text (omega (arith, c.fits-text)) (λ i. omega (arith, c.fits-text i)) begins

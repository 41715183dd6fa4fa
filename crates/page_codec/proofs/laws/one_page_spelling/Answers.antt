use Rattle.std.proofs.Common.{sym, ap, ◌∙◌}
use Rattle.page_codec.specs.Reading.{page_of}
use Rattle.page_codec.specs.Spelling.{page_bytes}
use Rattle.page_codec.proofs.PageLaws.{page_bytes-read}
use Rattle.page_codec.proofs.PageSpelt.{page_of-spelt}
use Rattle.page_codec.proofs.laws.one_page_spelling.Goals as goal

pub returns-clause-pages : goal.returns-clause-pages
returns-clause-pages c = λ heads some other most fits_some fits_other number same.
    sym (page_of-spelt heads some most fits_some) ∙ ap (λ n. page_of heads n (page_bytes some)) number
    ∙ ap (page_of heads other.number) same ∙ page_of-spelt heads other most fits_other

pub returns-clause-texts : goal.returns-clause-texts
returns-clause-texts c = λ heads p some other size_some size_other some_are other_are most some_kept other_kept same.
    sym (page_bytes-read heads p some size_some some_are most some_kept) ∙ ap page_bytes same
    ∙ page_bytes-read heads p other size_other other_are most other_kept

use Rattle.page_codec.proofs.PageSpelt.{first_page_break-spelt, page_of-spelt}
use Rattle.page_codec.proofs.laws.pages_read_back.Goals as goal

pub returns-clause-no_break : goal.returns-clause-no_break
returns-clause-no_break c = first_page_break-spelt

pub returns-clause-page : goal.returns-clause-page
returns-clause-page c = page_of-spelt

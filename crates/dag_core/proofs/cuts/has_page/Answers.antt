use Rattle.std.proofs.Common.{◌∙◌}
use Rattle.dag_core.proofs.MarkLaws.{has_page-searched}
use Rattle.dag_core.proofs.cuts.has_page.Goals as goal

pub returns : goal.returns
returns c = record {
  page =
      c.is_ok.ensures.value ∙ has_page-searched c.args.pages.now c.args.page c.binary_search.result c.requires.ascending
      c.binary_search.ensures.position;
}

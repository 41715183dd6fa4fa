use Rattle.std.proofs.Common.{◌∙◌, arith}
use Rattle.page_file.proofs.FileParts.{digests-more, digests-are}
use Rattle.page_file.proofs.writing.page_digests.Goals as goal

pub pages-preserved : goal.pages-preserved
pages-preserved c =
    digests-more c.args.dag.now c.pages.digests.items c.push.new.self.items c.pages.page c.page_digest.result
    c.pages.invariant c.page_digest.ensures.digest
    c.in_ok-push.ensures.items

pub returns : goal.returns
returns c =
    record {
      digests = c.of.ensures ∙ digests-are c.args.dag.now c.pages.digests.items c.pages.page c.pages.invariant
          (omega (arith, c.pages-test.false, c.pages.auto.page-end));
    }

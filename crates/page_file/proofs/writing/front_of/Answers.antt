use Rattle.std.proofs.Common.{◌∙◌, ap}
use Rattle.page_codec.specs.Spelling.{header_bytes}
use Rattle.page_file.proofs.FileParts.{directory_bytes-is, header-is}
use Rattle.page_file.proofs.writing.front_of.Goals as goal

pub returns-clause-directory : goal.returns-clause-directory
returns-clause-directory c =
    directory_bytes-is c.args.dag.now c.in_ok-copied.field-0 c.in_ok-page_digests.field-0 c.in_ok-bytes.bytes.items
    c.in_ok-copied.ensures.heads
    c.in_ok-page_digests.ensures.digests c.in_ok-bytes.ensures.directory

pub returns-clause-header : goal.returns-clause-header
returns-clause-header c =
    let dag = c.args.dag.now in
    let bytes =
    c.deref.ensures.value ∙ directory_bytes-is dag c.in_ok-copied.field-0 c.in_ok-page_digests.field-0
    c.in_ok-bytes.bytes.items c.in_ok-copied.ensures.heads
    c.in_ok-page_digests.ensures.digests c.in_ok-bytes.ensures.directory in
    c.encode_header.ensures.header ∙ ap header_bytes
    (header-is dag c.counts-counts.result c.directory_digest.result c.deref.result.now
    c.counts-counts.ensures.counts bytes c.directory_digest.ensures.digest)

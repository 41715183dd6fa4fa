use Rattle.std.proofs.Common.{◌++◌, ◌∙◌, subst}
use Rattle.page_codec.specs.Spelling.{directory_bytes, directory_in, header_bytes, header_in}
use Rattle.page_file.specs.Internal.PageTexts.{pages_bytes}
use Rattle.page_file.specs.Internal.Puts.{PutsText, StopsPutting}
use Rattle.page_file.proofs.FileParts.{file-is}
use Rattle.page_file.proofs.FileWrites.{on-false, on-true, puts-all, puts-more, stops-all, stops-early, stops-later}
use Rattle.page_file.proofs.writing.put_file.Goals as goal

pub returns-then-not-put_all-clause-stopped : goal.returns-then-not-put_all-clause-stopped
returns-then-not-put_all-clause-stopped g c =
    let dag = c.args.dag.now in
    let w = g.K.Sink.written c.args.out.now in
    let v = g.K.Sink.written c.put_all.new.out in
    let header = header_bytes (header_in dag) in
    let directory = directory_bytes (directory_in dag) in
    let here =
    stops-all w v _ _ (g.K.Sink.faults c.args.out.now)
    (g.K.Sink.faults c.put_all.new.out) c.args.front.now.header header c.requires.header
    c.if-not-put_all.ensures.prefix c.if-not-put_all.ensures.cause in
    subst (StopsPutting w v (g.K.Sink.faults c.args.out.now) (g.K.Sink.faults c.put_all.new.out)) (file-is dag)
    (stops-early w v _ _ (header ++ directory) (pages_bytes dag dag.heads.pages)
    (stops-early w v _ _ header directory here))

pub returns-then-not-put_all-2-clause-stopped : goal.returns-then-not-put_all-2-clause-stopped
returns-then-not-put_all-2-clause-stopped g c =
    let dag = c.args.dag.now in
    let w = g.K.Sink.written c.args.out.now in
    let v = g.K.Sink.written c.put_all.new.out in
    let u = g.K.Sink.written c.put_all-2.new.out in
    let header = header_bytes (header_in dag) in
    let directory = directory_bytes (directory_in dag) in
    let first =
    puts-all w v _ _ (g.K.Sink.faults c.args.out.now)
    (g.K.Sink.faults c.put_all.new.out) c.args.front.now.header header c.requires.header
    c.if-not-put_all.ensures.appended c.if-not-put_all.ensures.no_fault in
    let here =
    stops-all v u _ _ (g.K.Sink.faults c.put_all.new.out)
    (g.K.Sink.faults c.put_all-2.new.out) c.deref.result.now directory
    (c.deref.ensures.value ∙ c.requires.directory) c.if-not-put_all-2.ensures.prefix
    c.if-not-put_all-2.ensures.cause in
    subst (StopsPutting w u (g.K.Sink.faults c.args.out.now) (g.K.Sink.faults c.put_all-2.new.out)) (file-is dag)
    (stops-early w u _ _ (header ++ directory) (pages_bytes dag dag.heads.pages)
    (stops-later w v u _ _ _ header directory first here))

pub returns-clause-file : goal.returns-clause-file
returns-clause-file g c =
    let dag = c.args.dag.now in
    let w = g.K.Sink.written c.args.out.now in
    let v = g.K.Sink.written c.put_all.new.out in
    let u = g.K.Sink.written c.put_all-2.new.out in
    let t = g.K.Sink.written c.put_pages.new.out in
    let header = header_bytes (header_in dag) in
    let directory = directory_bytes (directory_in dag) in
    let first =
    puts-all w v _ _ (g.K.Sink.faults c.args.out.now)
    (g.K.Sink.faults c.put_all.new.out) c.args.front.now.header header c.requires.header
    c.if-not-put_all.ensures.appended c.if-not-put_all.ensures.no_fault in
    let second =
    puts-all v u _ _ (g.K.Sink.faults c.put_all.new.out)
    (g.K.Sink.faults c.put_all-2.new.out) c.deref.result.now directory
    (c.deref.ensures.value ∙ c.requires.directory) c.if-not-put_all-2.ensures.appended
    c.if-not-put_all-2.ensures.no_fault in
    on-true c.put_pages.result
    (λ (rest : PutsText u t (g.K.Sink.faults c.put_all-2.new.out) (g.K.Sink.faults c.put_pages.new.out)
    (pages_bytes dag dag.heads.pages)).
    subst (PutsText w t (g.K.Sink.faults c.args.out.now) (g.K.Sink.faults c.put_pages.new.out)) (file-is dag)
    (puts-more w u t _ _ _ (header ++ directory) (pages_bytes dag dag.heads.pages)
    (puts-more w v u _ _ _ header directory first second) rest))
    c.put_pages.ensures.pages

pub returns-clause-stopped : goal.returns-clause-stopped
returns-clause-stopped g c =
    let dag = c.args.dag.now in
    let w = g.K.Sink.written c.args.out.now in
    let v = g.K.Sink.written c.put_all.new.out in
    let u = g.K.Sink.written c.put_all-2.new.out in
    let t = g.K.Sink.written c.put_pages.new.out in
    let header = header_bytes (header_in dag) in
    let directory = directory_bytes (directory_in dag) in
    let first =
    puts-all w v _ _ (g.K.Sink.faults c.args.out.now)
    (g.K.Sink.faults c.put_all.new.out) c.args.front.now.header header c.requires.header
    c.if-not-put_all.ensures.appended c.if-not-put_all.ensures.no_fault in
    let second =
    puts-all v u _ _ (g.K.Sink.faults c.put_all.new.out)
    (g.K.Sink.faults c.put_all-2.new.out) c.deref.result.now directory
    (c.deref.ensures.value ∙ c.requires.directory) c.if-not-put_all-2.ensures.appended
    c.if-not-put_all-2.ensures.no_fault in
    on-false c.put_pages.result
    (λ (rest : StopsPutting u t (g.K.Sink.faults c.put_all-2.new.out) (g.K.Sink.faults c.put_pages.new.out)
    (pages_bytes dag dag.heads.pages)).
    subst (StopsPutting w t (g.K.Sink.faults c.args.out.now) (g.K.Sink.faults c.put_pages.new.out)) (file-is dag)
    (stops-later w u t _ _ _ (header ++ directory) (pages_bytes dag dag.heads.pages)
    (puts-more w v u _ _ _ header directory first second) rest))
    c.put_pages.ensures.stopped

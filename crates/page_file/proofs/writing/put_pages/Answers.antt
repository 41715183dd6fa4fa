use Rattle.std.proofs.Common.{◌+◌, ◌-◌, ◌++◌, subst}
use Rattle.std.specs.List.{flat_map, range_with_len}
use Rattle.page_codec.specs.Spelling.{page_bytes, page_in}
use Rattle.page_file.specs.Internal.PageTexts.{pages_bytes}
use Rattle.page_file.specs.Internal.Puts.{PutsText, StopsPutting}
use Rattle.page_file.proofs.FileParts.{pages-more, pages-rest}
use Rattle.page_file.proofs.FileWrites.{puts-all, puts-more, puts-nothing, stops-all, stops-early, stops-later}
use Rattle.page_file.proofs.writing.put_pages.Goals as goal

pub pages-init : goal.pages-init
pages-init g c = puts-nothing (g.K.Sink.written c.args.out.now) (g.K.Sink.faults c.args.out.now)

pub returns-then-not-put_all-clause-stopped : goal.returns-then-not-put_all-clause-stopped
returns-then-not-put_all-clause-stopped g c =
    let dag = c.args.dag.now in
    let p = c.pages.p in
    let w = g.K.Sink.written c.args.out.now in
    let v = g.K.Sink.written c.pages.out in
    let u = g.K.Sink.written c.put_all.new.out in
    let text = page_bytes (page_in dag p) in
    let rest = flat_map (λ q. page_bytes (page_in dag q)) (range_with_len (p + 1) (dag.heads.pages - (p + 1))) in
    let here =
    stops-all v u _ _ _ _ c.encode_page_by.new.into text c.encode_page_by.ensures.page
    c.if-not-put_all.ensures.prefix c.if-not-put_all.ensures.cause in
    let so_far = stops-later w v u _ _ _ (pages_bytes dag p) text c.pages.invariant here in
    subst (StopsPutting w u (g.K.Sink.faults c.args.out.now) (g.K.Sink.faults c.put_all.new.out))
    (pages-rest dag p dag.heads.pages c.pages-test.true)
    (stops-early w u _ _ (pages_bytes dag p ++ text) rest so_far)

pub pages-preserved : goal.pages-preserved
pages-preserved g c =
    let dag = c.args.dag.now in
    let p = c.pages.p in
    let w = g.K.Sink.written c.args.out.now in
    let v = g.K.Sink.written c.pages.out in
    let u = g.K.Sink.written c.put_all.new.out in
    let text = page_bytes (page_in dag p) in
    let here =
    puts-all v u _ _ _ _ c.encode_page_by.new.into text c.encode_page_by.ensures.page
    c.if-not-put_all.ensures.appended c.if-not-put_all.ensures.no_fault in
    subst (PutsText w u (g.K.Sink.faults c.args.out.now) (g.K.Sink.faults c.put_all.new.out)) (pages-more dag p)
    (puts-more w v u _ _ _ (pages_bytes dag p) text c.pages.invariant here)

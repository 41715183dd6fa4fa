use Rattle.page_file.specs.Internal.PageTexts.{pages_bytes}
use Rattle.page_file.specs.Internal.Puts.{PutsText}
use Rattle.page_file.proofs.writing.put_pages.Given as goal

-- the pages before this one were put
abbrev pub invariant-pages : goal.invariant-pages
invariant-pages g l =
    PutsText (g.K.Sink.written l.fn.out) (g.K.Sink.written l.out) (g.K.Sink.faults l.fn.out) (g.K.Sink.faults l.out)
    (pages_bytes l.dag l.p)

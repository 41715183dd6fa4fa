use Rattle.std.proofs.Common.{◌*◌, ◌==◌, length, drop, slice_index, sym, ap, ◌∙◌}
use Rattle.std.proofs.lemmas.List.{take_rest}
use Rattle.page_codec.specs.Breaks.{first_of, unless, breaks_in, page_breaks, tail_breaks}
use Rattle.page_codec.proofs.RecordLists.{first-append, first-append-none}
use Rattle.page_codec.proofs.first_breaks.first_page_break.Goals as goal

pub returns-in-Some : goal.returns-in-Some
unfolding page_breaks tail_breaks
returns-in-Some c = record { first = first-append c.in-Some.found _ _ c.in-Some.ensures.first }

pub returns : goal.returns
unfolding page_breaks tail_breaks
returns c =
    let bytes = c.args.bytes.now in
    let end = 40 * c.args.count in
    record {
      first = c.first_break-2.ensures.first
          ∙ ap (λ tail. first_of (breaks_in (λ byte. unless (slice_index byte 0 == 0) 4) 1 end (length tail) tail))
          (take_rest bytes end)
          ∙ sym (first-append-none _ (tail_breaks end (drop end bytes)) c.in_default.ensures.first);
    }

use Rattle.std.proofs.Common.{◌*◌, drop, sym, ap, ◌∙◌}
use Rattle.std.proofs.lemmas.List.{take_rest}
use Rattle.page_codec.specs.Breaks.{first_of, breaks_in, head_rules, directory_breaks}
use Rattle.page_codec.specs.Records.{head_of}
use Rattle.page_codec.proofs.RecordLists.{first-append, first-append-none}
use Rattle.page_codec.proofs.first_breaks.first_directory_break.Goals as goal

pub returns-in-Some : goal.returns-in-Some
unfolding directory_breaks
returns-in-Some c = record { first = first-append c.in-Some.found _ _ c.in-Some.ensures.first }

pub returns : goal.returns
unfolding directory_breaks
returns c =
    let bytes = c.args.bytes.now in
    let counts = c.args.counts.now in
    let end = 44 * counts.groups in
    record {
      first = c.first_break-2.ensures.first
          ∙ ap (λ rest. first_of (breaks_in (λ bytes. head_rules counts (head_of bytes)) 8 end counts.clusters rest))
          (take_rest bytes end)
          ∙ sym (first-append-none _ (breaks_in (λ bytes. head_rules counts (head_of bytes)) 8 end counts.clusters
          (drop end bytes)) c.in_default.ensures.first);
    }

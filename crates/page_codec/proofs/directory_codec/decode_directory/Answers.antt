use Rattle.std.proofs.Common.{List, sym, ap, ◌∙◌, subst, arith}
use Rattle.geom_core.specs.declared.digests.Digest32.{Digest32}
use Rattle.dag_core.specs.declared.heads.Heads.{Heads}
use Rattle.dag_core.specs.Ranges.{counts_of}
use Rattle.page_codec.specs.declared.directories.Directory.{Directory}
use Rattle.page_codec.specs.Fits.{FitsDirectory}
use Rattle.page_codec.specs.Reading.{heads_of, directory_of}
use Rattle.page_codec.specs.Spelling.{directory_bytes}
use Rattle.page_codec.proofs.DirectoryLaws.{directory_bytes-read}
use Rattle.page_codec.proofs.FitsLaws.{counts_of-read, FitsDirectory-read}
use Rattle.page_codec.proofs.directory_codec.decode_directory.Goals as goal

pub returns-in_ok-digests-in-None-clause-spelling : goal.returns-in_ok-digests-in-None-clause-spelling
unfolding directory_of
returns-in_ok-digests-in-None-clause-spelling c =
    let bytes = c.args.bytes.now in
    let counts = c.args.counts.now in
    ap (λ heads. directory_bytes (record { heads = heads; digests = c.in_ok-digests-in-None.digests }))
    c.in_ok-heads-in-None.ensures.heads
    ∙ ap (λ digests. directory_bytes (record { heads = heads_of counts bytes; digests = digests }))
    c.in_ok-digests-in-None.ensures.digests
    ∙ directory_bytes-read counts bytes c.requires.length (λ i. omega (arith, c.type_inv.bytes i))
    (sym c.in-None.ensures.first)

pub returns-in_ok-digests-in-None-clause-counts : goal.returns-in_ok-digests-in-None-clause-counts
returns-in_ok-digests-in-None-clause-counts c =
    ap counts_of c.in_ok-heads-in-None.ensures.heads ∙ counts_of-read c.args.counts.now c.args.bytes.now

pub returns-in_ok-digests-in-None-clause-fits : goal.returns-in_ok-digests-in-None-clause-fits
unfolding directory_of
returns-in_ok-digests-in-None-clause-fits c =
    let bytes = c.args.bytes.now in
    let counts = c.args.counts.now in
    let with_heads : Heads → Directory = λ heads. record { heads = heads; digests = c.in_ok-digests-in-None.digests } in
    let with_digests : List Digest32 → Directory =
    λ digests. record { heads = heads_of counts bytes; digests = digests } in
    let same =
    ap with_heads c.in_ok-heads-in-None.ensures.heads ∙ ap with_digests c.in_ok-digests-in-None.ensures.digests in
    let P : Directory → Type 0 = λ found. FitsDirectory found in
    subst P (sym same) (FitsDirectory-read counts bytes c.requires.counts c.requires.length
    (sym c.in-None.ensures.first))

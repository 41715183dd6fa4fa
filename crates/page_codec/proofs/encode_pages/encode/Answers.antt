use Rattle.std.proofs.Common.{◌≡◌, ℕ, length, replicate, ap, ◌∙◌, arith, rules}
use Rattle.std.proofs.lemmas.List.{length-drop, length-take}
use Rattle.page_codec.specs.Spelling.{clusters_bytes, tail_bytes, page_bytes, page_in}
use Rattle.page_codec.proofs.PageBytes.{page-filled}
use Rattle.page_codec.proofs.encode_pages.encode.Goals as goal

pub returns : goal.returns
unfolding page_bytes tail_bytes
returns c =
    let new = c.write_page-end.new.into in
    let end = c.write_page-end.result in
    let size : length new ≡ 65536 = omega (arith, c.write_page-end.auto.into, c.requires.room) in
    let fill = c.fill.ensures.after (search rules) in
    record {
      page =
          page-filled (clusters_bytes (page_in c.args.dag.now c.args.page).clusters) new c.fill.new.self end 65536 size
          c.write_page-end.ensures.room
          c.write_page-end.ensures.written c.write_page-end.ensures.end
          (fill ∙ ap (λ n. replicate n 0) (omega (arith, size, length-take {A = ℕ}, length-drop {A = ℕ})));
    }

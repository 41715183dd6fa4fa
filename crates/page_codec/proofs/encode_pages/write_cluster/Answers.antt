use Rattle.std.proofs.Common.{◌≡◌, ◌+◌, ◌-◌, ◌<◌, ◌≤◌, ◌++◌, length, take, sym, ap, ◌∙◌, arith}
use Rattle.std.proofs.lemmas.List.{append-nil}
use Rattle.page_codec.specs.Spelling.{cluster_bytes}
use Rattle.page_codec.proofs.ClusterBytes.{length-triangle_bytes, length-cluster_bytes, cluster_bytes-more}
use Rattle.page_codec.proofs.ClusterBytes.{written-more, length-put_mid}
use Rattle.page_codec.proofs.encode_pages.write_cluster.Goals as goal

pub triangles-init : goal.triangles-init
unfolding cluster_bytes
triangles-init c = record {
  place = omega arith;
  room = omega (arith, length-cluster_bytes c.args.tris.now, c.requires.room);
  written = sym (append-nil (take c.args.at c.args.into.now));
}

pub triangles-preserved : goal.triangles-preserved
triangles-preserved c =
    let into = c.triangles.into in
    let end = c.triangles.end in
    let i = c.triangles.t-index in
    let tris = c.args.tris.now in
    let part = c.copy_from_slice.new.self in
    let below : i < length tris = c.triangles-test.true in
    let is = c.copy_from_slice.ensures.after ∙ c.triangle_record.ensures.spelling in
    let len : length part ≡ end + 40 - end = ap length is ∙ length-triangle_bytes _ ∙ omega arith in
    let within : end + (end + 40 - end) ≤ length into =
    omega (arith, c.triangles.invariant.place, c.triangles.invariant.room) in
    record {
      place = omega (arith, c.triangles.invariant.place);
      room = omega (arith, c.triangles.invariant.room, length-put_mid end (end + 40 - end) into part within len);
      written =
          written-more (take c.args.at c.args.into.now) (cluster_bytes (take i tris)) part into end (end + 40 - end)
          (end + 40) (omega arith) len (omega arith) c.triangles.invariant.written
          ∙ ap (λ xs. take c.args.at c.args.into.now ++ (cluster_bytes (take i tris) ++ xs)) is
          ∙ ap (λ xs. take c.args.at c.args.into.now ++ xs) (sym (cluster_bytes-more tris i _ below));
    }

pub returns-clause-end : goal.returns-clause-end
returns-clause-end c = omega (arith, length-cluster_bytes c.args.tris.now, c.triangles.invariant.place)

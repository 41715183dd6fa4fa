use Rattle.std.proofs.Common.{◌≡◌, [], ◌++◌, drop, map, refl, sym, ap, ◌∙◌}
use Rattle.std.proofs.lemmas.List.{take-append-drop}
use Rattle.geode_bench.proofs.JoinLaws.{are_none, piece_joined, all_referred, small_joined}
use Rattle.geode_bench.proofs.rims.rim_of_pieces.Goals as goal

pub loop-rest-init : goal.loop-rest-init
loop-rest-init c = rw c.new-rims.ensures.items ([], are_none, refl)

pub loop-rest-preserved : goal.loop-rest-preserved
loop-rest-preserved c =
    piece_joined c.args.tris.now c.loop-rest.rest.now c.split_at.result.0.now c.split_at.result.1.now
    c.loop-rest.rims.items
    c.push.new.self.items c.in_ok-of.field-0 c.loop-rest.invariant
    (sym (take-append-drop c.min.result c.loop-rest.rest.now) ∙
    ap (λ l. l ++ drop c.min.result c.loop-rest.rest.now) (sym c.split_at.ensures.front) ∙
    ap (λ l. c.split_at.result.0.now ++ l) (sym c.split_at.ensures.back)) c.in_ok-of.ensures.rim
    c.in_ok-push.ensures.items

pub joined-requires : goal.joined-requires
joined-requires c =
    let all : map (λ part. part.now) c.deref.result.now ≡ c.loop-rest.rims.items =
    all_referred (λ part. part.now) c.loop-rim.parts.items c.deref.result.now c.loop-rest.rims.items
    c.deref-rim-items.result.now
    c.loop-rim.rim-index c.deref.ensures.value c.loop-rim.invariant c.loop-rim-test.false
    c.deref-rim-items.ensures.value in
    record {
      sum_range = rw all (small_joined c.args.tris.now c.loop-rest.rest.now c.loop-rest.rims.items
          c.loop-rest.invariant c.requires.triangle_limit);
    }

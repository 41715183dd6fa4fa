use Rattle.std.proofs.Common.{pos}
use Rattle.std.proofs.lemmas.List.Elements.{All-replicate}
use Rattle.visibility_buffer.specs.declared.vertex_caches.CachedPoint.{CachedPoint}
use Rattle.visibility_buffer.proofs.CachedPoints.{IsRight}
use Rattle.visibility_buffer.proofs.vertex_caches.VertexCache.new.Goals as goal

pub invariant_of-result : goal.invariant_of-result
invariant_of-result c =
    let origin : CachedPoint = record { point = record { x = pos 0; y = pos 0; z = pos 0 }; at = c.to_view.result } in
    record {
      right = All-replicate (IsRight c.args.camera.now) 256 origin
          (c.to_view.ensures.beyond_near, c.to_view.ensures.spot);
    }

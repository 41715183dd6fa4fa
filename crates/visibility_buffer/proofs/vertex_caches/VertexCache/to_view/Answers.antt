use Rattle.std.proofs.Common.{◌≡◌, ◌<◌, ◌&&◌, ℕ, pos, true, int_eq, List, All, None, option_map, get_or, length}
use Rattle.std.proofs.Common.{sym, ◌∙◌, subst, rules}
use Rattle.std.proofs.Math.Bool.{and_assoc}
use Rattle.std.proofs.lemmas.List.Elements.{All-set}
use Rattle.geom_core.specs.declared.points.Pt.{Pt}
use Rattle.geom_core.specs.declared.screens.Size.{Size}
use Rattle.geom_core.specs.Camera.{View, spot_of}
use Rattle.geom_core.specs.EdgeSum.{same_point}
use Rattle.geom_core.proofs.PointLaws.{same_point-from}
use Rattle.view_camera.specs.ViewPoints.{spot_at}
use Rattle.visibility_buffer.specs.declared.vertex_caches.CachedPoint.{CachedPoint}
use Rattle.visibility_buffer.proofs.CachedPoints.{IsRight}
use Rattle.visibility_buffer.proofs.vertex_caches.VertexCache.to_view.Goals as goal

-- what `==` answers for one point
equal_points : (p q : Pt) → (int_eq p.x q.x && (int_eq p.y q.y && int_eq p.z q.z)) ≡ true → p ≡ q
unfolding same_point
equal_points p q e = same_point-from p q (and_assoc (int_eq p.x q.x) (int_eq p.y q.y) (int_eq p.z q.z) ∙ e)

-- what the code reads after the end of the array
abbrev blank : CachedPoint
blank = record { point = record { x = pos 0; y = pos 0; z = pos 0 }; at = None }

spot_of-cached : (view : View) (entries : List CachedPoint) (k : ℕ) (p : Pt) → k < length entries →
    (get_or entries k blank).point ≡ p → All (IsRight view) entries → (size : Size) →
    spot_of view size p ≡ option_map (spot_at view size) (get_or entries k blank).at
spot_of-cached view entries k p below same right size =
    subst (λ (q : Pt). spot_of view size q ≡ option_map (spot_at view size) (get_or entries k blank).at) same
    ((right k blank below).1 size)

pub returns-then-eq-clause-spot : goal.returns-then-eq-clause-spot
returns-then-eq-clause-spot c =
    let cache = c.args.self.now in
    let below : c.index_of-index.result < length cache.entries = search rules in
    spot_of-cached cache.camera cache.entries c.index_of-index.result c.args.p below
    (equal_points _ c.args.p (sym c.eq.ensures ∙ c.if-eq.true)) cache.right

pub invariant_of-self : goal.invariant_of-self
invariant_of-self c =
    let cache = c.args.self.now in
    record {
      right = All-set (IsRight cache.camera) cache.entries c.index_of-index.result
          (record { point = c.args.p; at = c.to_view-at.result })
          (c.to_view-at.ensures.beyond_near, c.to_view-at.ensures.spot) cache.right;
    }

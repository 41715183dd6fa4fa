-- The points on the rim of a group, in a set.
use Rattle.std.proofs.Common.{◌≡◌, ◌↔◌, true, List, Contains, sym, ◌∙◌, subst}
use Rattle.geom_core.specs.declared.points.Pt.{Pt}
use Rattle.geom_core.specs.declared.triangles.Tri.{Tri}
use Rattle.geom_core.specs.EdgeSum.{OnRim, same_point}
use Rattle.geom_core.proofs.PointLaws.{same_point-from, same_point-itself}
use Rattle.rim_collapse.specs.Legal.{is_among}
use Rattle.partition.proofs.Members.{Passes, list_any-from, list_any-true}
use Rattle.dag_build.specs.Outcomes.{AreRimPoints}

among-from : (points : List Pt) (p : Pt) → Contains points p → is_among points p ≡ true
among-from points p there = list_any-from (λ q. same_point q p) points p there (same_point-itself p)

pub among-to : (points : List Pt) (p : Pt) → is_among points p ≡ true → Contains points p
among-to points p among =
    let found : Passes (λ q. same_point q p) points = list_any-true (λ q. same_point q p) points among in
    subst (Contains points) (same_point-from found.item p found.passes) found.among

pub rim_points-from : (tris : List Tri) (points keys : List Pt) → ((p : Pt) → Contains points p ↔ OnRim tris p) →
    ((p : Pt) → is_among keys p ≡ is_among points p) → AreRimPoints tris keys
rim_points-from tris points keys on_rim same = λ p. (
  (λ among. (on_rim p).0 (among-to points p (sym (same p) ∙ among))),
  (λ on. same p ∙ among-from points p ((on_rim p).1 on)),
)

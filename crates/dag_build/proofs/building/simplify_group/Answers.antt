use Rattle.std.proofs.Common.{◌≡◌, ◌++◌, [], List, ap, sym, subst, refl}
use Rattle.std.proofs.lemmas.List.{append-nil}
use Rattle.geom_core.specs.declared.limits.TheConstants.{TRIANGLES_PER_CLUSTER}
use Rattle.geom_core.specs.declared.triangles.Tagged.{Tagged}
use Rattle.dag_build.specs.declared.level_clusters.LevelCluster.{LevelCluster}
use Rattle.dag_build.specs.Grouping.{AreCut}
use Rattle.dag_build.specs.Levels.{LevelGroup, clusters_of}
use Rattle.dag_build.specs.Outcomes.{AreMade, IsOutcome}
use Rattle.dag_build.specs.Internal.Groups.{group_of}
use Rattle.dag_build.proofs.building.simplify_group.Goals.{then-not-outcome+in_ok-push_made, else-not-outcome}
use Rattle.dag_build.proofs.building.simplify_group.Goals as goal

pub returns : goal.returns
returns c =
    let o = c.in_ok-outcome.outcome in
    let size = TRIANGLES_PER_CLUSTER in
    let group : List (List Tagged) → LevelGroup =
    λ made. group_of c.args.members.items o.error o.terminal o.cube made in
    let outcome : (made : List (List Tagged)) → AreMade size o.terminal o.left made →
    IsOutcome size c.args.level_clusters (group made) =
    λ made makes. subst (λ (xs : List LevelCluster). IsOutcome size c.args.level_clusters
    (group_of xs o.error o.terminal o.cube made))
    c.deref.ensures.value (c.in_ok-outcome.ensures.outcome made makes) in
    let done = ap (λ (xs : List LevelCluster). group_of xs o.error o.terminal o.cube [])
    c.in_ok-members.ensures.clusters in
    elim c.if-not-outcome.branch [
      | then-not-outcome+in_ok-push_made w ↦
          let made = w.in_ok-push_made.ensures.clusters in
          let cut : AreCut size o.left made.0 = subst (λ xs. AreCut size xs made.0) w.as_slice.ensures made.1 in
          let makes : AreMade size o.terminal o.left made.0 =
          subst (λ b. AreMade size b o.left made.0) (sym w.if-not-outcome.true) cut in
          record {
            group = (
              group made.0,
              outcome made.0 makes,
              refl,
              done,
              subst (λ v. v.items ≡ c.args.made.now.items ++ clusters_of c.args.place (group made.0)) (sym w.made-is)
                  made.2,
            );
          }
      | else-not-outcome w ↦
          let makes : AreMade size o.terminal o.left [] =
          subst (λ b. AreMade size b o.left []) (sym w.if-not-outcome.false) refl in
          record {
            group = (
              group [],
              outcome [] makes,
              refl,
              done,
              subst (λ v. v.items ≡ c.args.made.now.items ++ []) (sym w.made-is) (sym
                  (append-nil c.args.made.now.items)),
            );
          }
    ]

use Rattle.std.proofs.Common.{take, List, ◌++◌, ◌∙◌, ap, sym, subst, All, length, arith}
use Rattle.std.proofs.lemmas.List.{length-append}
use Rattle.geom_core.specs.declared.triangles.Tagged.{Tagged}
use Rattle.geom_core.specs.Limits.{IsGridTriangle}
use Rattle.geom_core.specs.TaggedLists.{tris_of}
use Rattle.dag_build.specs.declared.level_clusters.LevelCluster.{LevelCluster}
use Rattle.dag_build.specs.Levels.{tris_in}
use Rattle.dag_build.proofs.MemberLaws.{range-more, tris_in-more}
use Rattle.dag_build.proofs.outcomes.list_tris.Goals as goal

pub loop-member-preserved : goal.loop-member-preserved
loop-member-preserved c =
    let old = c.loop-member.tris.items in
    let grown = c.in_ok-extend_from_slice.ensures.items in
    let len = length-append old c.tris.result.now in
    let total = ap length grown in
    record {
      triangles = grown ∙ (ap (λ (xs : List Tagged). xs ++ c.tris.result.now) c.loop-member.invariant.triangles ∙
          (ap (λ (xs : List Tagged). tris_in (take c.loop-member.member-index c.args.members.now) ++ xs)
          (c.tris.ensures.triangles ∙ ap (λ (m : LevelCluster). m.tris) c.member-item.is) ∙
          sym (tris_in-more c.args.members.now c.loop-member.member-index c.member-item.result
          c.loop-member-test.true)));
      limit = omega (arith, c.tris.ensures.triangle_limit, c.loop-member.invariant.limit);
      range = subst (λ tris. All IsGridTriangle (tris_of tris)) (sym grown)
          (range-more old c.tris.result.now c.loop-member.invariant.range c.tris.ensures.triangle_range);
    }

use Rattle.std.proofs.Common.{◌≡◌, map, length, All, ap, sym, subst, ◌∙◌, arith}
use Rattle.std.proofs.lemmas.Result.{IfOk-weaker}
use Rattle.dag_build.specs.Built.{AreLevels, IsBuilt}
use Rattle.dag_build.specs.Grouping.{full_sizes}
use Rattle.dag_build.specs.Levels.{numbered, tris_in}
use Rattle.dag_build.specs.Numbers.{dag_of}
use Rattle.dag_build.specs.Internal.DoneLevels.{IsProper}
use Rattle.dag_build.proofs.LeadLaws.{leaves-proper, leaves-total}
use Rattle.dag_build.proofs.NumberLaws.{dag-unmade}
use Rattle.dag_build.proofs.building.build_dag.Goals as goal

pub build_levels-requires-clause-clusters : goal.build_levels-requires-clause-clusters
build_levels-requires-clause-clusters c =
    let h = c.in_ok-leaves.ensures.clusters in
    subst (All IsProper) (sym h.2) (leaves-proper (numbered 0 c.args.tris.items) h.0 h.1)

pub build_levels-requires-clause-triangle_limit : goal.build_levels-requires-clause-triangle_limit
build_levels-requires-clause-triangle_limit c =
    let h = c.in_ok-leaves.ensures.clusters in
    let total = leaves-total c.args.tris.items h.0 h.1 in
    let same = ap (λ xs. length (tris_in xs)) h.2 in
    omega (arith, c.requires.triangles.triangle_limit)

pub returns : goal.returns
returns c =
    let h = c.in_ok-leaves.ensures.clusters in
    let tris = c.args.tris.items in
    let done = c.in_ok-levels.ensures.levels in
    let held = map (λ level. level.items) c.in_ok-levels.levels.items in
    let count = c.len-sources.ensures ∙ c.args.tris.ok.0 in
    let grown = subst (λ first. AreLevels full_sizes first done.levels) h.2 done.grown in
    record {
      built = IfOk-weaker c.number_levels.result (λ dag. dag ≡ dag_of c.len-sources.result held)
          (λ dag. IsBuilt tris dag)
          (λ dag is. record {
            levels = done.levels;
            of_mesh = record { leaves = h.0; cut = h.1; grown = grown };
            numbered = is ∙ (ap (λ n. dag_of n held) count ∙ (ap (dag_of (length tris)) done.unmade_of ∙ dag-unmade
                (length tris) done.levels));
          })
          c.number_levels.ensures.dag;
    }

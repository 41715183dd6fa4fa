use Rattle.std.proofs.Common.{rules, sym, ◌∙◌}
use Rattle.geode_bench.proofs.ListedTriangles.{range-more, count-more}
use Rattle.geode_bench.proofs.first_level.gathered.Goals as goal
use Rattle.geode_bench.proofs.first_level.gathered.Goals.{then-len+then-is_grid_triangle+in_ok-push, else-len}

pub loop-number-preserved : goal.loop-number-preserved
loop-number-preserved c =
    elim c.if-len.branch [
      | then-len+then-is_grid_triangle+in_ok-push w ↦
          rw (w.listed-is, w.in_ok-push.ensures.items) record {
            count = count-more c.loop-number.listed.items _ (search rules);
            range = range-more c.loop-number.listed.items _ c.loop-number.invariant.range
                (sym w.is_grid_triangle.ensures ∙ w.if-is_grid_triangle.true);
          }
      | else-len w ↦ rw w.listed-is c.loop-number.invariant
    ]

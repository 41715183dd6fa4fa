use Rattle.std.proofs.Common.{◌≡◌, ◌∙◌, sym, refl, true, int_le, rules, w32, FitsSigned}
use Rattle.std.proofs.lemmas.Int.{to_z-of_z}
use Rattle.geom_core.specs.Boxes.{is_under}
use Rattle.dag_core.proofs.ranges.is_under.Goals as goal
use Rattle.dag_core.proofs.ranges.is_under.Goals.{then-p-q, else-p-q}

pub returns-then-p-q-2 : goal.returns-then-p-q-2
unfolding is_under
returns-then-p-q-2 c =
    let p = c.args.p in
    let q = c.args.q in
    let px : FitsSigned w32 p.x = search rules in
    let py : FitsSigned w32 p.y = search rules in
    let pz : FitsSigned w32 p.z = search rules in
    let qx : FitsSigned w32 q.x = search rules in
    let qy : FitsSigned w32 q.y = search rules in
    let qz : FitsSigned w32 q.z = search rules in
    elim c.if-p-q.branch [
      | then-p-q w ↦
          (let by_x : int_le p.x q.x ≡ true = simp to_z-of_z at w.if-p-q.true in
          let value : c.if-p-q.value ≡ int_le p.y q.y = simp to_z-of_z at w.value-is in
          let by_y : int_le p.y q.y ≡ true = sym value ∙ c.if-p-q-2.true in
          rw (by_x, by_y) (simp to_z-of_z refl))
      | else-p-q w ↦ absurd cc
    ]

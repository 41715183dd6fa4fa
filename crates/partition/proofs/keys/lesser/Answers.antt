use Rattle.std.proofs.Common.{rules, ◌∙◌, w32, FitsSigned}
use Rattle.std.proofs.lemmas.Int.{to_z-of_z}
use Rattle.partition.proofs.keys.lesser.Goals as goal

pub returns-clause-lesser : goal.returns-clause-lesser
returns-clause-lesser c =
    let m : FitsSigned w32 c.args.m = search rules in
    let n : FitsSigned w32 c.args.n = search rules in
    to_z-of_z w32 c.min.result (search rules) ∙ (simp to_z-of_z at c.min.ensures.value)

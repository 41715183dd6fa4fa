use Rattle.std.proofs.Common.{◌-◌, ◌||◌, not, sym, ap, ◌∙◌}
use Rattle.std.proofs.lemmas.Bool.{ne_eqb}
use Rattle.partition.specs.Internal.EdgeUses.{on_one_edge, use_at}
use Rattle.partition.proofs.edge_uses.begins_edge.Goals as goal

pub returns-else-place-eq0 : goal.returns-else-place-eq0
returns-else-place-eq0 c =
    let begins = not (on_one_edge (use_at c.args.uses.now (c.args.place - 1)) (use_at c.args.uses.now c.args.place)) in
    ap not c.are_on_one_edge.ensures ∙ sym (ap (λ b. b || begins) (ne_eqb c.args.place 0 c.if-place-eq0.false))

use Rattle.std.proofs.Common.{◌∷◌, ◌++◌, [], ◌∙◌, ap, sym, map, zero-add}
use Rattle.std.specs.List.{range_with_len}
use Rattle.std.proofs.lemmas.List.FromFn.{map-range_with_len_more}
use Rattle.dag_core.specs.Cuts.{is_open}
use Rattle.dag_core.proofs.heads.Heads.open_groups.Goals as goal

pub loop-g-preserved : goal.loop-g-preserved
loop-g-preserved c =
    c.in_ok-push.ensures.items
    ∙ (ap (λ xs. xs ++ c.is_open.result ∷ []) c.loop-g.invariant
    ∙ (ap (λ b. map (is_open c.args.self.now c.args.lens.now c.args.resident.now)
    (range_with_len 0 c.loop-g.g) ++ b ∷ []) c.is_open.ensures.group
    ∙ sym (map-range_with_len_more (is_open c.args.self.now c.args.lens.now c.args.resident.now) 0 c.loop-g.g c.loop-g.g
    (zero-add c.loop-g.g))))

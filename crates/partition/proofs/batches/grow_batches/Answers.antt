use Rattle.std.proofs.Common.{◌≡◌, ◌<◌, List, ℕ, All, length, slice_index, subst, sym, ap, ◌∙◌, arith}
use Rattle.std.proofs.lemmas.List.{length-map}
use Rattle.partition.proofs.Renumbering.{All-of_grown, grown_from}
use Rattle.partition.proofs.batches.grow_batches.Goals as goal

pub numbers_at-requires : goal.numbers_at-requires
numbers_at-requires c =
    let P : List ℕ → Type 0 = λ xs. All (λ r. r < length c.args.order.now) xs in
    subst P (sym c.deref.ensures.value) (All-of_grown _ _ _ _ _ c.in_ok-ranks.ensures)

pub split_into_batches-requires-clause-item_limit : goal.split_into_batches-requires-clause-item_limit
split_into_batches-requires-clause-item_limit c =
    let ranks : length c.in_ok-ranks.ranks.items ≡ length c.args.order.now =
    (grown_from _ _ _ _ _ c.in_ok-ranks.ensures).all in
    let numbers : length c.in_ok-numbers.numbers.items ≡ length c.deref.result.now =
    ap length c.in_ok-numbers.ensures ∙ length-map c.deref.result.now (slice_index c.args.order.now) in
    let renumbered : length c.deref.result.now ≡ length c.in_ok-ranks.ranks.items = ap length c.deref.ensures.value in
    let same : length c.deref-2.result.now ≡ length c.in_ok-numbers.numbers.items = ap length c.deref-2.ensures.value in
    omega arith

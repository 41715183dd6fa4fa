use Rattle.std.proofs.Common.{◌≡◌, IsPermutation, List, map, subst, sym, ◌∙◌, ap}
use Rattle.std.proofs.lemmas.Result.{IfOk-weaker}
use Rattle.partition.specs.declared.ranking.Keyed.{Keyed}
use Rattle.partition.specs.Internal.Ranking.{IsRanking}
use Rattle.partition.proofs.RankedItems.{ranking_from_sorted}
use Rattle.partition.proofs.ranking.ranking.Goals as goal

pub returns : goal.returns
returns c =
    let sorted : List Keyed = c.sort_unstable.new.self.items in
    let P : List Keyed → Type 0 = λ xs. IsPermutation xs c.sort_unstable.new.self.items in
    let ranked =
    ranking_from_sorted c.args.keys.now c.sort_unstable.new.self.items
    (subst P c.in_ok-items.ensures c.sort_unstable.ensures.permutation) c.sort_unstable.ensures.sorted in
    IfOk-weaker c.numbers.result (λ order. order.items ≡ map (λ (x : Keyed). x.number) c.deref.result.now)
    (λ order. IsRanking c.args.keys.now order.items)
    (λ order e. subst (IsRanking c.args.keys.now)
    (sym (e ∙ ap (map (λ (x : Keyed). x.number)) c.deref.ensures.value)) ranked) c.numbers.ensures

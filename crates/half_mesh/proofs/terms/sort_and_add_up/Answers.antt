use Rattle.std.proofs.Common.{rules}
use Rattle.std.proofs.lemmas.Fn.{always_returns_same}
use Rattle.std.proofs.lemmas.List.Sorted.{All-permutation}
use Rattle.std.proofs.Common.{FitsSigned, w32}
use Rattle.half_mesh.specs.declared.terms.EdgeTerm.{EdgeTerm}
use Rattle.half_mesh.proofs.TermLaws.{IsSumOf-IsPermutation}
use Rattle.half_mesh.proofs.terms.sort_and_add_up.Goals as goal

pub add_up-requires-clause-sorted : goal.add_up-requires-clause-sorted
add_up-requires-clause-sorted c =
    rw c.deref.ensures.value
    (c.in_ok-sort_by_key.ensures.sorted (λ (t : EdgeTerm). t.edge)
    (always_returns_same _ _ _ (λ a r f' k. search rules)))

pub add_up-requires-clause-small : goal.add_up-requires-clause-small
add_up-requires-clause-small c =
    rw c.deref.ensures.value
    (All-permutation (λ (t : EdgeTerm). FitsSigned w32 t.sum) _ _ c.sort_by_key.ensures.permutation c.requires.small)

pub returns : goal.returns
returns c =
    IsSumOf-IsPermutation c.args.terms.now.items c.deref.result.now c.add_up.new.sums.items
    (rw c.deref.ensures.value c.sort_by_key.ensures.permutation) c.in_ok-add_up.ensures

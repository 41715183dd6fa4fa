use Rattle.std.proofs.Common.{◌≡◌, ◌++◌, ◌∷◌, [], map, ap, sym, ◌∙◌, zero-add, arith}
use Rattle.std.specs.Fork.{slice_chunk}
use Rattle.std.specs.List.{range_with_len}
use Rattle.std.proofs.lemmas.List.FromFn.{map-range_with_len_more}
use Rattle.partition.specs.Growing.{batch_count, batches_of}
use Rattle.partition.proofs.batches.split_into_batches.Goals as goal

pub loop-number-preserved : goal.loop-number-preserved
loop-number-preserved c =
    let chunk = slice_chunk c.args.numbers.now c.args.size in
    c.in_ok-push.ensures.items
    ∙ (ap (λ xs. xs ++ c.in_ok-batch.batch ∷ []) c.loop-number.invariant
    ∙ (ap (λ b. map (slice_chunk c.args.numbers.now c.args.size) (range_with_len 0 c.loop-number.number) ++ b ∷ [])
    c.in_ok-batch.ensures
    ∙ sym (map-range_with_len_more (slice_chunk c.args.numbers.now c.args.size) 0 c.loop-number.number
    c.loop-number.number (zero-add c.loop-number.number))))

pub returns : goal.returns
unfolding batches_of
returns c =
    let all : c.loop-number.number ≡ batch_count c.args.size c.args.numbers.now = omega arith in
    c.loop-number.invariant ∙ ap (λ n. map (slice_chunk c.args.numbers.now c.args.size) (range_with_len 0 n)) all

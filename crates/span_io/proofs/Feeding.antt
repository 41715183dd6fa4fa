-- The loop of reads: what the consumer was fed so far, and what each end of the loop makes of it.
use Rattle.std.proofs.Common.{◌≡◌, ℕ, ◌+◌, ◌-◌, ◌<◌, ◌≤◌, min, List, ◌++◌, length, take, Option, sym, ◌∙◌, ap, subst}
use Rattle.std.proofs.Common.{inl, inr, arith, length-append}
use Rattle.std.proofs.Math.Seq.{take-append-add}
use Rattle.std.proofs.lemmas.Bool.{cases_lt}
use Rattle.std.proofs.lemmas.List.{take_all, take-take, length-take}
use Rattle.geom_core.specs.declared.limits.TheConstants.{READ_BYTES}
use Rattle.span_io.specs.Consumers.{FedAll, FedToStop}
use Rattle.span_io.specs.Reads.{Consumed, GotBytes}
use Rattle.span_io.proofs.Streams.{consumed-append, consumed_got}

-- so many bytes were read, and the consumer was fed those within the limit
pub record FedSoFar {C : Type 0} (HasFed : C → List ℕ → Type 0) (limit : ℕ) (left new_left : Option (List ℕ))
    (count : ℕ) (consumer : C) : Type 0 where
  pub bytes : List ℕ
  pub consumed : Consumed left new_left bytes
  pub counted : length bytes ≡ count
  pub fed : HasFed consumer (take limit bytes)

-- while the limit is not passed, all bytes were fed
pub fed_all : {C : Type 0} (HasFed : C → List ℕ → Type 0) (limit : ℕ) (left new_left : Option (List ℕ)) (count : ℕ)
    (consumer : C) → FedSoFar HasFed limit left new_left count consumer → count ≤ limit →
    FedAll HasFed limit left new_left consumer
fed_all HasFed limit left new_left count consumer so_far short =
    let within : length so_far.bytes ≤ limit = omega (arith, so_far.counted) in record {
      bytes = so_far.bytes;
      consumed = so_far.consumed;
      limited = within;
      fed = subst (HasFed consumer) (take_all limit so_far.bytes within) so_far.fed;
    }

-- the first n of two lists, of which the first is no longer
pub take_over : (n : ℕ) (front rest : List ℕ) → length front ≤ n →
    take n (front ++ rest) ≡ front ++ take (n - length front) rest
take_over n front rest short =
    let e : n ≡ length front + (n - length front) = omega arith in
    ap (λ m. take m (front ++ rest)) e ∙ take-append-add front rest (n - length front)

take_less : (m n : ℕ) (buffer : List ℕ) → take m (take n buffer) ≡ take (min n m) buffer
take_less m n buffer = elim (cases_lt n m) [
  | inl few ↦ take_all m (take n buffer) (omega (arith, length-take n buffer)) ∙
      ap (λ k. take k buffer) (least_left n m few)
  | inr many ↦ take-take m n buffer many ∙ ap (λ k. take k buffer) (least_right n m many)
]
  where
    least_left : (n m : ℕ) → n < m → n ≡ min n m
    least_left n m few = omega arith

    least_right : (n m : ℕ) → m ≤ n → m ≡ min n m
    least_right n m many = omega arith

-- of the bytes of a piece those within the limit
pub take_piece : (limit count : ℕ) (bytes buffer : List ℕ) (n : ℕ) → length bytes ≡ count → count ≤ limit →
    take limit (bytes ++ take n buffer) ≡ bytes ++ take (min n (limit - count)) buffer
take_piece limit count bytes buffer n counted short =
    take_over limit bytes (take n buffer) (omega arith)
    ∙ ap (λ l. bytes ++ l) (take_less (limit - length bytes) n buffer ∙
    ap (λ c. take (min n (limit - c)) buffer) counted)

-- a piece more
pub fed_more : {C : Type 0} (HasFed : C → List ℕ → Type 0) (limit : ℕ) (left mid new_left : Option (List ℕ))
    (faults new_faults count : ℕ) (old new : C) (buffer : List ℕ) (n : ℕ) → FedSoFar HasFed limit left mid count old →
    count ≤ limit → GotBytes mid new_left faults new_faults buffer n →
    ((bytes : List ℕ) → HasFed old bytes → HasFed new (bytes ++ take (min n (limit - count)) buffer)) →
    FedSoFar HasFed limit left new_left (count + n) new
unfolding fed_all
fed_more HasFed limit left mid new_left faults new_faults count old new buffer n so_far short got feeds =
    let all = fed_all HasFed limit left mid count old so_far short in record {
      bytes = so_far.bytes ++ take n buffer;
      consumed =
          consumed-append left mid new_left so_far.bytes (take n buffer) so_far.consumed
          (consumed_got mid new_left faults new_faults buffer n got);
      counted =
          omega (arith, length-append so_far.bytes (take n buffer), length-take n buffer, so_far.counted, got.fits);
      fed =
          subst (HasFed new) (sym (take_piece limit count so_far.bytes buffer n so_far.counted short))
          (feeds so_far.bytes all.fed);
    }

-- the consumer stopped at a piece
pub fed_to_stop : {C T : Type 0} (HasFed : C → List ℕ → Type 0) (Stops : List ℕ → T → Type 0) (limit : ℕ)
    (left mid new_left : Option (List ℕ)) (first_faults faults new_faults count : ℕ) (old : C) (buffer : List ℕ) (n : ℕ)
    (outcome : T) → FedSoFar HasFed limit left mid count old → count ≤ limit → n ≤ limit + 1 - count → n ≤ READ_BYTES →
    faults ≡ first_faults → GotBytes mid new_left faults new_faults buffer n →
    ((bytes : List ℕ) → HasFed old bytes → Stops (bytes ++ take (min n (limit - count)) buffer) outcome) →
    FedToStop HasFed Stops limit left new_left first_faults new_faults outcome
unfolding fed_all
fed_to_stop HasFed Stops limit left mid new_left first_faults faults new_faults count old buffer n outcome so_far short
    within one_read no_fault got stops =
    let all = fed_all HasFed limit left mid count old so_far short in record {
      before = so_far.bytes;
      piece = take n buffer;
      consumed =
          consumed-append left mid new_left so_far.bytes (take n buffer) so_far.consumed
          (consumed_got mid new_left faults new_faults buffer n got);
      limited = omega (arith, so_far.counted);
      within = omega (arith, so_far.counted, length-take n buffer);
      one_read = omega (arith, length-take n buffer);
      state = old;
      went_on = all.fed;
      stopped =
          subst (λ l. Stops l outcome) (sym (take_piece limit count so_far.bytes buffer n so_far.counted short))
          (stops so_far.bytes all.fed);
      no_fault = got.no_fault ∙ no_fault;
    }

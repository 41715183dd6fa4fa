-- The definitions at small values.
use Rattle.std.proofs.Common.{◌≡◌, ℕ, ◌-◌, ◌^◌, List, [], ◌∷◌, Bool, true, false, None, Some, Ok, Err, inl, inr, refl}
use Rattle.std.proofs.Common.{arith, lit<, lit≤}
use Rattle.span_io.specs.declared.sources.Got.TheVariants as got
use Rattle.span_io.specs.declared.sinks.Took.TheVariants as took
use Rattle.span_io.specs.Consumers.{FeedDoes, FedToEnd, FedToFailure, FedToLimit, FedToStop}
use Rattle.span_io.specs.declared.consumers.Fed.TheVariants as fed
use Rattle.span_io.specs.Faults.{raised, Rose}
use Rattle.span_io.specs.Plans.{Plan}
use Rattle.span_io.specs.Puts.{Appended, flushed_after}
use Rattle.span_io.specs.Reads.{Consumed, ReadToEnd}
use Rattle.span_io.specs.StdForms.{got_from, took_from}
use Rattle.span_io.specs.Texts.{IsText, IsLonger, FailsWithin}
use Rattle.span_io.specs.MemorySources.{SourceState, read_answer, after_read}
use Rattle.span_io.specs.MemorySinks.{SinkState, write_answer, after_write, after_finish}

-- a count stays at the top
pub raised_4 : raised 4 ≡ 5
raised_4 = refl

pub raised_top : raised (2 ^ 64 - 1) ≡ 2 ^ 64 - 1
raised_top = refl

-- a fault from 4 to 5, a fault at the top, and none
pub rose_from_4 : Rose 4 5
rose_from_4 = record { rose = inl (lit< tt); never_falls = lit≤ tt; range = lit≤ tt }

pub rose_at_the_top : Rose (2 ^ 64 - 1) (2 ^ 64 - 1)
rose_at_the_top = record { rose = inr refl; never_falls = lit≤ tt; range = lit≤ tt }

pub rose_never_in_place : Rose 4 4 → ⊥
rose_never_in_place risen = elim risen.rose [ inl above ↦ omega arith | inr top ↦ omega arith ]

pub rose_never_beyond : Rose 4 (2 ^ 64) → ⊥
rose_never_beyond risen = omega (arith, risen.range)

pub rose_never_down : Rose (2 ^ 64 - 1) 4 → ⊥
rose_never_down risen = omega (arith, risen.never_falls)

-- 1, 2, 3, then 4: where bytes are told, and where they aren't
pub consumed_1_2 : Consumed (Some (1 ∷ 2 ∷ 3 ∷ [])) (Some (3 ∷ [])) (1 ∷ 2 ∷ [])
consumed_1_2 = refl

pub appended_3 : Appended (Some (1 ∷ 2 ∷ [])) (Some (1 ∷ 2 ∷ 3 ∷ [])) (3 ∷ [])
appended_3 = refl

pub appended_untold : Appended None None (3 ∷ [])
appended_untold = refl

pub read_to_end_known : ReadToEnd (Some (1 ∷ 2 ∷ [])) (Some [])
read_to_end_known = refl

pub read_to_end_untold : ReadToEnd None None
read_to_end_untold = refl

pub flushed_after_none : flushed_after true [] ≡ true
flushed_after_none = refl

pub flushed_after_one : flushed_after true (7 ∷ []) ≡ false
flushed_after_one = refl

-- calls of which the second alone is to fail
abbrev plan_after : ℕ → ℕ → Plan
plan_after made faults = record { failing = 2 ∷ []; made = made; faults = faults }

-- a source of three bytes gives two at most, then fails, then gives the last, and is at its end
abbrev source : List ℕ → ℕ → ℕ → SourceState
source left made faults = record { left = left; most = 2; plan = plan_after made faults }

pub first_read : read_answer (source (5 ∷ 6 ∷ 7 ∷ []) 0 0) 9 ≡ got.Bytes 2
first_read = refl

pub after_first_read : after_read (source (5 ∷ 6 ∷ 7 ∷ []) 0 0) 9 ≡ source (7 ∷ []) 1 0
after_first_read = refl

pub second_read : read_answer (source (7 ∷ []) 1 0) 9 ≡ got.Failed
second_read = refl

pub after_second_read : after_read (source (7 ∷ []) 1 0) 9 ≡ source (7 ∷ []) 2 1
after_second_read = refl

pub third_read : read_answer (source (7 ∷ []) 2 1) 9 ≡ got.Bytes 1
third_read = refl

pub fourth_read : read_answer (source [] 3 1) 9 ≡ got.End
fourth_read = refl

-- a sink with room for three bytes takes two at most, then fails to finish, then takes one, and is full
abbrev sink : List ℕ → Bool → ℕ → ℕ → ℕ → SinkState
sink written flushed room made faults =
    record { written = written; flushed = flushed; room = room; most = 2; plan = plan_after made faults }

pub first_write : write_answer (sink [] false 3 0 0) (5 ∷ 6 ∷ 7 ∷ []) ≡ took.Bytes 2
first_write = refl

pub after_first_write : after_write (sink [] false 3 0 0) (5 ∷ 6 ∷ 7 ∷ []) ≡ sink (5 ∷ 6 ∷ []) false 1 1 0
after_first_write = refl

pub after_finish_2 : after_finish (sink (5 ∷ 6 ∷ []) false 1 1 0) ≡ sink (5 ∷ 6 ∷ []) false 1 2 1
after_finish_2 = refl

pub after_third : after_write (sink (5 ∷ 6 ∷ []) false 1 2 1) (7 ∷ 8 ∷ []) ≡ sink (5 ∷ 6 ∷ 7 ∷ []) false 0 3 1
after_third = refl

pub after_finish_4 : after_finish (sink (5 ∷ 6 ∷ 7 ∷ []) false 0 3 1) ≡ sink (5 ∷ 6 ∷ 7 ∷ []) true 0 4 1
after_finish_4 = refl

pub full_write : write_answer (sink (5 ∷ 6 ∷ 7 ∷ []) true 0 4 1) (8 ∷ []) ≡ took.Failed
full_write = refl

pub after_full_write : after_write (sink (5 ∷ 6 ∷ 7 ∷ []) true 0 4 1) (8 ∷ []) ≡ sink (5 ∷ 6 ∷ 7 ∷ []) true 0 5 2
after_full_write = refl

-- no bytes are a reader's end and a writer's failure
pub got_from_0 : got_from {E = ℕ} (Ok 0) ≡ got.End
got_from_0 = refl

pub got_from_3 : got_from {E = ℕ} (Ok 3) ≡ got.Bytes 3
got_from_3 = refl

pub got_from_error : got_from {E = ℕ} (Err 9) ≡ got.Failed
got_from_error = refl

pub took_from_0 : took_from {E = ℕ} (Ok 0) ≡ took.Failed
took_from_0 = refl

pub took_from_3 : took_from {E = ℕ} (Ok 3) ≡ took.Bytes 3
took_from_3 = refl

pub took_from_error : took_from {E = ℕ} (Err 9) ≡ took.Failed
took_from_error = refl

-- A consumer that is the list of its bytes, fed from 1, 2, 3, 4 with a limit of 2 bytes.
abbrev HasFed : List ℕ → List ℕ → Type 0
HasFed state bytes = state ≡ bytes

abbrev Stops : List ℕ → ℕ → Type 0
Stops bytes outcome = (bytes ≡ 1 ∷ 2 ∷ []) × (outcome ≡ 7)

pub feed_continues : FeedDoes {T = ℕ} (Unit {0}) (λ outcome. ⊥) fed.Continue
feed_continues = tt

pub feed_stops : FeedDoes {T = ℕ} ⊥ (λ outcome. outcome ≡ 7) (fed.Stop 7)
feed_stops = refl

-- a source of one byte ends
pub fed_to_end_1 : FedToEnd HasFed 2 (Some (1 ∷ [])) (Some []) 5 5 (1 ∷ [])
fed_to_end_1 = record {
  all = record { bytes = 1 ∷ []; consumed = refl; limited = lit≤ tt; fed = refl };
  none_left = refl;
  no_fault = refl;
}

-- the read of the byte too many fails
pub fed_to_failure_2 : FedToFailure HasFed 2 (Some (1 ∷ 2 ∷ 3 ∷ 4 ∷ [])) (Some (3 ∷ 4 ∷ [])) 4 5 (1 ∷ 2 ∷ [])
fed_to_failure_2 = record {
  all = record { bytes = 1 ∷ 2 ∷ []; consumed = refl; limited = lit≤ tt; fed = refl };
  rose = rose_from_4;
}

-- that byte is read, and not fed
pub fed_to_limit_2 : FedToLimit HasFed 2 (Some (1 ∷ 2 ∷ 3 ∷ 4 ∷ [])) (Some (4 ∷ [])) 5 5 (1 ∷ 2 ∷ [])
fed_to_limit_2 = record { bytes = 1 ∷ 2 ∷ 3 ∷ []; consumed = refl; too_long = refl; fed = refl; no_fault = refl }

-- the consumer stops at the second piece, of which it was fed one byte
pub fed_to_stop_2 : FedToStop HasFed Stops 2 (Some (1 ∷ 2 ∷ 3 ∷ 4 ∷ [])) (Some (4 ∷ [])) 5 5 7
fed_to_stop_2 = record {
  before = 1 ∷ [];
  piece = 2 ∷ 3 ∷ [];
  consumed = refl;
  limited = lit≤ tt;
  within = lit≤ tt;
  one_read = lit≤ tt;
  state = 1 ∷ [];
  went_on = refl;
  stopped = (refl, refl);
  no_fault = refl;
}

-- gathered texts
pub is_text_known : IsText (Some (1 ∷ 2 ∷ [])) (1 ∷ 2 ∷ [])
is_text_known = refl

pub is_text_other : IsText (Some (1 ∷ 2 ∷ [])) (1 ∷ []) → ⊥
is_text_other same = cc

pub is_longer_3 : IsLonger 2 (Some (1 ∷ 2 ∷ 3 ∷ 4 ∷ [])) (Some (4 ∷ [])) 5 5
is_longer_3 = record { longer = lit< tt; read = refl; no_fault = refl }

-- a text of exactly the limit is not longer
pub is_longer_not_2 : IsLonger 2 (Some (1 ∷ 2 ∷ [])) (Some []) 5 5 → ⊥
is_longer_not_2 long = omega (arith, long.longer)

-- the read after the limit's bytes fails, but none after the byte too many
pub fails_within_2 : FailsWithin 2 (Some (1 ∷ 2 ∷ 3 ∷ [])) (Some (3 ∷ [])) 4 5
fails_within_2 = record { bytes = 1 ∷ 2 ∷ []; consumed = refl; limited = lit≤ tt; rose = rose_from_4 }

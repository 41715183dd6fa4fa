-- What one feed of a consumer does, and what reading a source into a consumer does, for each of its ends.
use Rattle.std.specs.Prelude.{◌≡◌, ◌≤◌, ℕ, ◌+◌, List, [], ◌++◌, length, take, Option, IfSome}
use Rattle.geom_core.specs.declared.limits.TheConstants.{READ_BYTES}
use Rattle.span_io.specs.declared.consumers.Fed.{Fed}
use Rattle.span_io.specs.declared.consumers.Fed.TheVariants as fed
use Rattle.span_io.specs.declared.read_loop.ReadEnd.{ReadEnd}
use Rattle.span_io.specs.declared.read_loop.ReadEnd.TheVariants as ends
use Rattle.span_io.specs.Faults.{Rose}
use Rattle.span_io.specs.Reads.{Consumed}

-- P, if the consumer takes more, and Q of the outcome, if it stopped
abbrev pub FeedDoes : {T : Type 0} → Type 0 → (T → Type 0) → Fed T → Type 0
FeedDoes P Q fed.Continue = P
FeedDoes P Q (fed.Stop outcome) = Q outcome

-- Below, `HasFed consumer bytes` says that the consumer is in this state after it was fed these bytes, and
-- `Stops bytes outcome` that it stopped with this outcome after these bytes.

-- these bytes were read, at most so many, and the consumer was fed all of them
pub record FedAll {C : Type 0} (HasFed : C → List ℕ → Type 0) (limit : ℕ) (left new_left : Option (List ℕ))
    (consumer : C) : Type 0 where
  pub bytes : List ℕ
  pub consumed : Consumed left new_left bytes
  pub limited : length bytes ≤ limit
  pub fed : HasFed consumer bytes

-- the source came to its end
pub record FedToEnd {C : Type 0} (HasFed : C → List ℕ → Type 0) (limit : ℕ) (left new_left : Option (List ℕ))
    (faults new_faults : ℕ) (consumer : C) : Type 0 where
  pub all : FedAll HasFed limit left new_left consumer
  pub none_left : IfSome new_left (λ bytes. bytes ≡ [])
  pub no_fault : new_faults ≡ faults

-- a read failed
pub record FedToFailure {C : Type 0} (HasFed : C → List ℕ → Type 0) (limit : ℕ) (left new_left : Option (List ℕ))
    (faults new_faults : ℕ) (consumer : C) : Type 0 where
  pub all : FedAll HasFed limit left new_left consumer
  pub rose : Rose faults new_faults

-- one byte more than the limit was read, and the consumer was fed those before it
pub record FedToLimit {C : Type 0} (HasFed : C → List ℕ → Type 0) (limit : ℕ) (left new_left : Option (List ℕ))
    (faults new_faults : ℕ) (consumer : C) : Type 0 where
  pub bytes : List ℕ
  pub consumed : Consumed left new_left bytes
  pub too_long : length bytes ≡ limit + 1
  pub fed : HasFed consumer (take limit bytes)
  pub no_fault : new_faults ≡ faults

-- The consumer took the bytes of all pieces but the last, and stopped at this one, of which it was fed those
-- within the limit. No byte was read after this piece, which came of one read.
pub record FedToStop {C T : Type 0} (HasFed : C → List ℕ → Type 0) (Stops : List ℕ → T → Type 0) (limit : ℕ)
    (left new_left : Option (List ℕ)) (faults new_faults : ℕ) (outcome : T) : Type 0 where
  pub before : List ℕ
  pub piece : List ℕ
  pub consumed : Consumed left new_left (before ++ piece)
  pub limited : length before ≤ limit
  pub within : length before + length piece ≤ limit + 1
  pub one_read : length piece ≤ READ_BYTES
  pub state : C
  pub went_on : HasFed state before
  pub stopped : Stops (take limit (before ++ piece)) outcome
  pub no_fault : new_faults ≡ faults

-- nothing was read or fed
pub record FedNothing {C : Type 0} (left new_left : Option (List ℕ)) (faults new_faults : ℕ)
    (consumer new_consumer : C) : Type 0 where
  pub stays : new_left ≡ left
  pub no_fault : new_faults ≡ faults
  pub unfed : new_consumer ≡ consumer

-- what a reading did to the bytes left, to the count of faults and to the consumer, for each of its ends
abbrev pub ReadsInto : {C T : Type 0} → (C → List ℕ → Type 0) → (List ℕ → T → Type 0) → ℕ → Option (List ℕ) →
    Option (List ℕ) → ℕ → ℕ → C → C → ReadEnd T → Type 0
ReadsInto HasFed Stops limit left new_left faults new_faults consumer new_consumer ends.End =
    FedToEnd HasFed limit left new_left faults new_faults new_consumer
ReadsInto HasFed Stops limit left new_left faults new_faults consumer new_consumer (ends.Stopped outcome) =
    FedToStop HasFed Stops limit left new_left faults new_faults outcome
ReadsInto HasFed Stops limit left new_left faults new_faults consumer new_consumer ends.TooLong =
    FedToLimit HasFed limit left new_left faults new_faults new_consumer
ReadsInto HasFed Stops limit left new_left faults new_faults consumer new_consumer ends.Failed =
    FedToFailure HasFed limit left new_left faults new_faults new_consumer
ReadsInto HasFed Stops limit left new_left faults new_faults consumer new_consumer ends.Memory =
    FedNothing left new_left faults new_faults consumer new_consumer

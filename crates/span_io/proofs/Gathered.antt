-- The text that was gathered: all of what a source had left, or more than the limit.
use Rattle.std.proofs.Common.{◌≡◌, ℕ, ◌+◌, List, [], ◌++◌, length, Option, None, Some, refl, sym, ◌∙◌, ap}
use Rattle.std.proofs.Common.{length-append, arith}
use Rattle.std.proofs.lemmas.List.{append-nil, drop_at}
use Rattle.span_io.specs.Reads.{Consumed, ReadToEnd}
use Rattle.span_io.specs.Texts.{IsText, IsLonger}
use Rattle.std.specs.Option.{IfSome}

-- the bytes up to the end are the whole text
pub consumed-text : (left new_left : Option (List ℕ)) (bytes : List ℕ) → Consumed left new_left bytes →
    IfSome new_left (λ rest. rest ≡ []) → IsText left bytes
consumed-text left None bytes consumed none_left = rw consumed tt
consumed-text left (Some rest) bytes consumed none_left =
    rw consumed (sym (ap (λ l. bytes ++ l) none_left ∙ append-nil bytes))

pub consumed-read_to_end : (left new_left : Option (List ℕ)) (bytes : List ℕ) → Consumed left new_left bytes →
    IfSome new_left (λ rest. rest ≡ []) → ReadToEnd left new_left
consumed-read_to_end left None bytes consumed none_left = rw consumed refl
consumed-read_to_end left (Some rest) bytes consumed none_left =
    rw consumed (ap (λ (l : List ℕ). Some l) none_left)

-- the bytes up to the first one too many
pub consumed-longer : (limit : ℕ) (left new_left : Option (List ℕ)) (faults new_faults : ℕ) (bytes : List ℕ) →
    Consumed left new_left bytes → length bytes ≡ limit + 1 → new_faults ≡ faults →
    IsLonger limit left new_left faults new_faults
consumed-longer limit left None faults new_faults bytes consumed too_long no_fault =
    record { longer = rw consumed tt; read = rw consumed refl; no_fault = no_fault }
consumed-longer limit left (Some rest) faults new_faults bytes consumed too_long no_fault = record {
  longer = rw consumed (omega (arith, length-append bytes rest));
  read = rw consumed (ap (λ (l : List ℕ). Some l) (sym (drop_at bytes rest (limit + 1) too_long)));
  no_fault = no_fault;
}

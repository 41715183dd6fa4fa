-- A printed digest reads back.
use Rattle.std.proofs.Common.{◌≡◌, ◌&&◌, ℕ, ◌/◌, ◌%◌, ◌<◌, List, [], ◌∷◌, Bool, true, Option, None, Some, length, arith}
use Rattle.std.proofs.Common.{inl, inr, refl, ap, ◌∙◌}
use Rattle.std.specs.Prelude.{if◌then◌else◌, slice_index}
use Rattle.std.specs.List.{All, list_all}
use Rattle.std.specs.Option.{option_map}
use Rattle.std.specs.Result.{result_ok}
use Rattle.std.proofs.lemmas.Bool.{cases_lt}
use Rattle.std.proofs.lemmas.List.{get_or_past}
use Rattle.std.proofs.lemmas.List.Elements.{All-get_or, All-head, All-tail}
use Rattle.std.proofs.lemmas.List.Sums.{AllPass-from_list_all}
use Rattle.hex.proofs.HexLemmas.{decode_sized-encode_lower}
use Rattle.hex.specs.Hex.{IsBytes, decode_sized, encode_lower, encode_with, lower_digits}
use Rattle.geom_core.specs.declared.digests.Digest32.{Digest32}
use Rattle.journal.specs.Grammar.{digest_of, is_digest_digit}
use Rattle.journal.specs.Typed.{IsDigest}

-- each of the sixteen digits is one of a digest
nibble : (k : ℕ) → k < 16 → is_digest_digit (slice_index lower_digits k) ≡ true
nibble k lt = AllPass-from_list_all is_digest_digit lower_digits refl k 0 lt

both_pass : (a b c : Bool) → a ≡ true → b ≡ true → c ≡ true → (a && (b && c)) ≡ true
both_pass a b c d e f = grind (arith, d, e, f)

pub digits_encode : (bytes : List ℕ) → All (λ byte. byte < 256) bytes →
    list_all is_digest_digit (encode_lower bytes) ≡ true
unfolding encode_with
digits_encode [] h = refl
digits_encode (byte ∷ rest) h =
    let lt = All-head (λ byte. byte < 256) byte rest h in
    both_pass _ _ _ (nibble (byte / 16) (omega (arith, lt))) (nibble (byte % 16) (omega arith))
    (digits_encode rest (All-tail (λ byte. byte < 256) byte rest h))

are_bytes : (bytes : List ℕ) → All (λ byte. byte < 256) bytes → IsBytes bytes
are_bytes bytes h i =
    elim (cases_lt i (length bytes)) [
      | inl lt ↦ All-get_or (λ byte. byte < 256) bytes i 0 lt h
      | inr le ↦ let past = get_or_past bytes i 0 le in omega (arith, past)
    ]

abbrev digest_from : Bool → Option (List ℕ) → Option Digest32
digest_from digits decoded = if digits then option_map (λ bytes. record { bytes = bytes }) decoded else None

-- the printed digest is the one that its digits spell
pub digest_encode : (digest : Digest32) → IsDigest digest → digest_of (encode_lower digest.bytes) ≡ Some digest
unfolding digest_of
digest_encode digest h =
    ap (λ digits. digest_from digits (result_ok (decode_sized (encode_lower digest.bytes) 32)))
    (digits_encode digest.bytes h.1)
    ∙ ap (λ decoded. digest_from true (result_ok decoded))
    (decode_sized-encode_lower digest.bytes 32 h.0 (are_bytes digest.bytes h.1))

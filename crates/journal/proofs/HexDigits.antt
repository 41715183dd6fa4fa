-- What a field spells as a digest, from what `hex` decodes of it.
use Rattle.std.proofs.Common.{◌≡◌, ℕ, List, Bool, true, false, Option, None, Some, Result, Ok, Err, refl, sym, ap, ◌∙◌}
use Rattle.std.specs.Prelude.{if◌then◌else◌, MatchResult}
use Rattle.std.specs.List.{list_all}
use Rattle.std.specs.Option.{option_map}
use Rattle.std.specs.Result.{result_ok, is_ok}
use Rattle.hex.specs.Hex.{decode_sized}
use Rattle.hex.specs.declared.error.FromHexError.{FromHexError}
use Rattle.geom_core.specs.declared.digests.Digest32.{Digest32}
use Rattle.journal.specs.Grammar.{digest_of, is_digest_digit}

abbrev digest_from : Bool → Result (List ℕ) FromHexError → Option Digest32
digest_from digits decoded = if digits then option_map (λ bytes. record { bytes = bytes }) (result_ok decoded) else None

digest_some : (d : Result (List ℕ) FromHexError) (r : Result Unit FromHexError) (out : List ℕ) → is_ok r ≡ true →
    MatchResult d (λ bytes. (r ≡ Ok tt) × (out ≡ bytes)) (λ e. r ≡ Err e) →
    Some (record { bytes = out }) ≡ digest_from true d
digest_some (Ok bytes) r out ok h = ap (λ b. Some (record { bytes = b })) h.1
digest_some (Err e) r out ok h = let no = ap is_ok h in cc

digest_none : (d : Result (List ℕ) FromHexError) (r : Result Unit FromHexError) (out : List ℕ) → is_ok r ≡ false →
    MatchResult d (λ bytes. (r ≡ Ok tt) × (out ≡ bytes)) (λ e. r ≡ Err e) → None ≡ digest_from true d
digest_none (Ok bytes) r out ok h = let yes = ap is_ok h.0 in cc
digest_none (Err e) r out ok h = refl

-- the digits are those of a digest, and `hex` decodes them
pub digest_read : (field : List ℕ) (r : Result Unit FromHexError) (out : List ℕ) →
    list_all is_digest_digit field ≡ true → is_ok r ≡ true →
    MatchResult (decode_sized field 32) (λ bytes. (r ≡ Ok tt) × (out ≡ bytes)) (λ e. r ≡ Err e) →
    Some (record { bytes = out }) ≡ digest_of field
unfolding digest_of
digest_read field r out digits ok h =
    digest_some _ r out ok h ∙ sym (ap (λ b. digest_from b (decode_sized field 32)) digits)

-- `hex` decodes them not
pub digest_unread : (field : List ℕ) (r : Result Unit FromHexError) (out : List ℕ) →
    list_all is_digest_digit field ≡ true → is_ok r ≡ false →
    MatchResult (decode_sized field 32) (λ bytes. (r ≡ Ok tt) × (out ≡ bytes)) (λ e. r ≡ Err e) → None ≡ digest_of field
unfolding digest_of
digest_unread field r out digits ok h =
    digest_none _ r out ok h ∙ sym (ap (λ b. digest_from b (decode_sized field 32)) digits)

-- a byte is no digit of a digest
pub digest_not : (field : List ℕ) → list_all is_digest_digit field ≡ false → None ≡ digest_of field
unfolding digest_of
digest_not field digits = sym (ap (λ b. digest_from b (decode_sized field 32)) digits)

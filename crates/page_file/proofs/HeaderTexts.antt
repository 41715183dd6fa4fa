-- The 64 bytes of a header that begin with the magic are those of the header that they read as.
use Rattle.std.proofs.Common.{◌≡◌, ℕ, ◌+◌, List, ◌++◌, length, take, drop, refl, sym, ap, ◌∙◌, arith}
use Rattle.std.proofs.Common.{Bool, true, false, not, append_assoc, length-drop, length-take-le, take-append-drop}
use Rattle.std.proofs.lemmas.List.{drop-drop, take_all}
use Rattle.std.proofs.lemmas.Slice.Eq.{bytes_eq-Decides}
use Rattle.std.specs.List.{slice_range}
use Rattle.std.specs.Str.{bytes_eq}
use Rattle.page_codec.specs.Numbers.{IsBytes, numbers_bytes, numbers_of}
use Rattle.page_codec.specs.Reading.{header_of}
use Rattle.page_codec.specs.Spelling.{counts_bytes, header_bytes, magic}
use Rattle.page_codec.proofs.NumberLaws.{numbers_bytes-read}
use Rattle.page_codec.proofs.RecordLaws.{IsBytes-drop, IsBytes-take}

-- the version and the counts are the six numbers that the bytes read as
numbers-spelt : (text : List ℕ) → counts_bytes (header_of text).version (header_of text).counts
    ≡ numbers_bytes (numbers_of 6 (slice_range text 8 32))
unfolding header_of counts_bytes numbers_of
numbers-spelt text = refl

counts-spelt : (text : List ℕ) → length text ≡ 64 → IsBytes text →
    counts_bytes (header_of text).version (header_of text).counts ≡ take 24 (drop 8 text)
counts-spelt text size are =
    numbers-spelt text
    ∙ numbers_bytes-read 6 (take 24 (drop 8 text))
    (length-take-le 24 (drop 8 text) (omega (arith, size, length-drop 8 text)))
    (IsBytes-take 24 (drop 8 text) (IsBytes-drop 8 text are))

digest-spelt : (text : List ℕ) → length text ≡ 64 → (header_of text).digest.bytes ≡ drop 32 text
unfolding header_of
digest-spelt text size = take_all 32 (drop 32 text) (omega (arith, size, length-drop 32 text))

pub header-spelt : (text : List ℕ) → length text ≡ 64 → IsBytes text → take 8 text ≡ magic →
    header_bytes (header_of text) ≡ text
header-spelt text size are begins =
    let counts = counts_bytes (header_of text).version (header_of text).counts in
    let rest : (header_of text).digest.bytes ≡ drop 24 (drop 8 text) =
    digest-spelt text size ∙ sym (drop-drop 24 8 text) in
    ap (λ (front : List ℕ). front ++ counts ++ (header_of text).digest.bytes) (sym begins)
    ∙ append_assoc (take 8 text) counts (header_of text).digest.bytes
    ∙ ap (λ (found : List ℕ). take 8 text ++ (found ++ (header_of text).digest.bytes)) (counts-spelt text size are)
    ∙ ap (λ (found : List ℕ). take 8 text ++ (take 24 (drop 8 text) ++ found)) rest
    ∙ ap (λ (found : List ℕ). take 8 text ++ found) (take-append-drop 24 (drop 8 text))
    ∙ take-append-drop 8 text

-- text that isn't other than the magic
pub is-magic : (found : List ℕ) → false ≡ not (bytes_eq found magic) → found ≡ magic
is-magic found same = (bytes_eq-Decides found magic).0 (not-other (bytes_eq found magic) same)
  where
    not-other : (b : Bool) → false ≡ not b → b ≡ true
    not-other true is = refl
    not-other false is = is

-- The header and the directory that were read are what the directory spells with its header.
use Rattle.std.proofs.Common.{◌≡◌, ℕ, ◌+◌, List, ◌++◌, length, Option, IfSome, Result, Ok, Err, IfOk, OnOk, sym, ap}
use Rattle.std.proofs.Common.{◌∙◌, subst, arith, length-append}
use Rattle.sha2.proofs.Facts256.{length-sha256}
use Rattle.dag_core.specs.declared.counts.Counts.{Counts}
use Rattle.dag_core.specs.Ranges.{counts_of}
use Rattle.page_codec.specs.declared.sizes.TheConstants.{VERSION}
use Rattle.page_codec.specs.declared.directories.Directory.{Directory}
use Rattle.page_codec.specs.declared.headers.Header.{Header}
use Rattle.page_codec.specs.Fits.{FitsDirectory}
use Rattle.page_codec.specs.Numbers.{numbers_bytes}
use Rattle.page_codec.specs.Spelling.{counts_bytes, counts_numbers, directory_bytes, directory_digest, header_bytes}
use Rattle.page_codec.specs.Spelling.{page_at}
use Rattle.page_codec.proofs.FileLaws.{length-directory_bytes}
use Rattle.page_codec.proofs.NumberLaws.{length-numbers_bytes}
use Rattle.page_file.specs.declared.open_faults.OpenFault.{OpenFault}
use Rattle.page_file.specs.Internal.Fronts.{front_bytes, header_by}
use Rattle.page_file.specs.Internal.Seen.{StandsAt}
use Rattle.page_file.proofs.Texts.{if_both, stands-join}

-- a header with this version, these counts and the digest of this text
header_with : ℕ → Counts → List ℕ → Header
header_with version counts text =
    record { version = version; counts = counts; digest = record { bytes = directory_digest version counts text } }

-- the header of a file that has this directory
header-by-is : (header : Header) (directory : Directory) (text : List ℕ) → header.version ≡ VERSION →
    counts_of directory.heads ≡ header.counts → directory_bytes directory ≡ text →
    header.digest.bytes ≡ directory_digest header.version header.counts text → header_by directory ≡ header
unfolding header_by header_with
header-by-is header directory text version counts spelt digest =
    ap (λ (n : ℕ). header_with n (counts_of directory.heads) (directory_bytes directory)) (sym version)
    ∙ ap (λ (cs : Counts). header_with header.version cs (directory_bytes directory)) counts
    ∙ ap (header_with header.version header.counts) spelt
    ∙ ap (λ (bytes : List ℕ).
    record { version = header.version; counts = header.counts; digest = record { bytes = bytes } }) (sym digest)

front-told : (known : Option (List ℕ)) (header : Header) (directory : Directory) (head text : List ℕ) →
    length head ≡ 64 → IfSome known (StandsAt 0 head) → IfSome known (StandsAt 64 text) →
    header_bytes header ≡ head → header_by directory ≡ header → directory_bytes directory ≡ text →
    IfSome known (StandsAt 0 (front_bytes directory))
front-told known header directory head text size told told_text begins is spelt =
    let place : 64 ≡ 0 + length head = omega (arith, size) in
    let front : front_bytes directory ≡ head ++ text =
    ap (λ (header : Header). header_bytes header ++ directory_bytes directory) is
    ∙ ap (λ (found : List ℕ). found ++ directory_bytes directory) begins
    ∙ ap (λ (found : List ℕ). head ++ found) spelt in
    if_both known (StandsAt 0 head) (StandsAt 64 text) (StandsAt 0 (front_bytes directory))
    (λ bytes one two. subst (λ (found : List ℕ). StandsAt 0 found bytes) (sym front)
    (stands-join 0 head text bytes one (subst (λ (n : ℕ). StandsAt n text bytes) place two))) told told_text

-- of the directory that was judged
pub judged-told : (known : Option (List ℕ)) (r : Result Directory OpenFault) (header : Header) (head text : List ℕ) →
    length head ≡ 64 → IfSome known (StandsAt 0 head) → IfSome known (StandsAt 64 text) →
    header_bytes header ≡ head → header.version ≡ VERSION →
    IfOk r (λ found. counts_of found.heads ≡ header.counts) → IfOk r (λ found. directory_bytes found ≡ text) →
    OnOk r (header.digest.bytes ≡ directory_digest header.version header.counts text) →
    IfOk r (λ found. IfSome known (StandsAt 0 (front_bytes found)))
judged-told known (Err fault) header head text size told told_text begins version counts spelt digest = tt
judged-told known (Ok found) header head text size told told_text begins version counts spelt digest =
    front-told known header found head text size told told_text begins
    (header-by-is header found text version counts spelt digest) spelt

-- ---- its length

header-length : (directory : Directory) → length (header_bytes (header_by directory)) ≡ 64
unfolding header_by counts_bytes
header-length directory =
    let counts = counts_of directory.heads in
    let numbers = numbers_bytes (counts_numbers 1 counts) in
    let digest = directory_digest 1 counts (directory_bytes directory) in
    omega (
      arith,
      length-append numbers digest,
      length-numbers_bytes (counts_numbers 1 counts),
      length-sha256 (counts_bytes 1 counts ++ directory_bytes directory),
    )

-- the pages begin where the directory ends
pub front-length : (directory : Directory) → FitsDirectory directory →
    length (front_bytes directory) ≡ page_at (counts_of directory.heads) 0
front-length directory fits =
    omega (
      arith,
      length-append (header_bytes (header_by directory)) (directory_bytes directory),
      header-length directory,
      length-directory_bytes directory fits,
    )

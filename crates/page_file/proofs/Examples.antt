-- Openings of short texts.
use Rattle.std.proofs.Common.{◌≡◌, ℕ, List, [], ◌++◌, replicate, Err, refl}
use Rattle.std.specs.Prelude.{codes}
use Rattle.dag_core.specs.declared.counts.Counts.{Counts}
use Rattle.page_codec.specs.Numbers.{numbers_bytes, numbers_of}
use Rattle.page_codec.specs.Reading.{header_of}
use Rattle.page_codec.specs.Spelling.{magic, counts_bytes}
use Rattle.page_file.specs.declared.open_faults.OpenFault.TheVariants.{Magic, Version, Truncated, Rule}
use Rattle.page_file.specs.Judging.{first_bad_count, header_fault}
use Rattle.page_file.specs.Opening.{cut, header_opened, directory_opened, opening, root_pages}

-- a header of these counts, whose digest is zeros
abbrev pub header_text : ℕ → Counts → List ℕ
header_text version counts = magic ++ counts_bytes version counts ++ replicate 32 0

abbrev pub counts_with : ℕ → ℕ → ℕ → ℕ → ℕ → Counts
counts_with groups clusters pages roots sources =
    record { groups = groups; clusters = clusters; pages = pages; roots = roots; sources = sources }

-- an empty file, and one that ends a byte before the header does, whatever it begins with
pub opening_empty : opening root_pages [] ≡ Err (Truncated 0)
unfolding opening directory_opened header_opened cut
opening_empty = refl

pub opening_63 : opening root_pages (replicate 63 71) ≡ Err (Truncated 63)
unfolding opening directory_opened header_opened cut
opening_63 = refl

-- 64 bytes that begin otherwise
pub opening_other_magic : opening root_pages (codes "GEOPAGEZ" ++ replicate 56 0) ≡ Err (Magic (codes "GEOPAGEZ"))
unfolding opening directory_opened header_opened cut header_fault counts_bytes numbers_bytes header_of numbers_of
opening_other_magic = refl

-- the magic is judged before the version, the version before the counts
pub opening_version_2 : opening root_pages (header_text 2 (counts_with 0 0 0 0 0)) ≡ Err (Version 2)
unfolding opening directory_opened header_opened cut header_fault counts_bytes numbers_bytes header_of numbers_of
opening_version_2 = refl

-- each count in turn
pub opening_groups : opening root_pages (header_text 1 (counts_with 0 0 0 0 0)) ≡ Err (Rule 0 0)
unfolding opening directory_opened header_opened cut header_fault first_bad_count counts_bytes numbers_bytes header_of
    numbers_of
opening_groups = refl

pub opening_clusters : opening root_pages (header_text 1 (counts_with 1 8388609 0 0 0)) ≡ Err (Rule 0 1)
unfolding opening directory_opened header_opened cut header_fault first_bad_count counts_bytes numbers_bytes header_of
    numbers_of
opening_clusters = refl

pub opening_pages : opening root_pages (header_text 1 (counts_with 1 1 0 0 0)) ≡ Err (Rule 0 2)
unfolding opening directory_opened header_opened cut header_fault first_bad_count counts_bytes numbers_bytes header_of
    numbers_of
opening_pages = refl

pub opening_roots : opening root_pages (header_text 1 (counts_with 1 1 2 3 0)) ≡ Err (Rule 0 3)
unfolding opening directory_opened header_opened cut header_fault first_bad_count counts_bytes numbers_bytes header_of
    numbers_of
opening_roots = refl

pub opening_sources : opening root_pages (header_text 1 (counts_with 1 1 2 2 1048577)) ≡ Err (Rule 0 4)
unfolding opening directory_opened header_opened cut header_fault first_bad_count counts_bytes numbers_bytes header_of
    numbers_of
opening_sources = refl

-- a directory of 84 bytes, of which 83 are there
pub opening_short_directory : opening root_pages (header_text 1 (counts_with 1 1 1 1 1) ++ replicate 83 0) ≡ Err
    (Truncated 147)
unfolding opening directory_opened header_opened cut header_fault first_bad_count counts_bytes numbers_bytes header_of
    numbers_of
opening_short_directory = refl

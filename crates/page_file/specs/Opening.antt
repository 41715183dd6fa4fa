-- The opening of a page file, over its bytes: they are cut at the places of its parts, and each part is judged before
-- the next one is cut. The answer is the first fault, or what the parts spell.
use Rattle.std.specs.Prelude.{nat_le, ℕ, zero, suc, ◌+◌, List, [], ◌∷◌, ◌++◌, length, take, drop, Result, Ok, Err}
use Rattle.std.specs.Prelude.{if◌then◌else◌}
use Rattle.geom_core.specs.declared.limits.TheConstants.{PAGE_BYTES}
use Rattle.dag_core.specs.declared.counts.Counts.{Counts}
use Rattle.dag_core.specs.Ranges.{counts_of}
use Rattle.page_codec.specs.declared.sizes.TheConstants.{HEADER_BYTES}
use Rattle.page_codec.specs.declared.headers.Header.{Header}
use Rattle.page_codec.specs.declared.directories.Directory.{Directory}
use Rattle.page_codec.specs.declared.pages.Page.{Page}
use Rattle.page_codec.specs.Spelling.{directory_length, page_at}
use Rattle.page_file.specs.declared.open_faults.OpenFault.{OpenFault}
use Rattle.page_file.specs.declared.open_faults.OpenFault.TheVariants.{Truncated}
use Rattle.page_file.specs.declared.opened.Opened.{Opened}
use Rattle.page_file.specs.Judging.{header_judged, directory_judged, page_judged}

-- the next step, unless a step before it found a fault
abbrev pub followed_by : {A B : Type 0} → Result A OpenFault → (A → Result B OpenFault) → Result B OpenFault
followed_by (Ok found) next = next found
followed_by (Err fault) next = Err fault

-- the `len` bytes from a place on; the file is truncated if they aren't all there
unfoldable pub cut : ℕ → ℕ → List ℕ → Result (List ℕ) OpenFault
cut at len bytes =
    if nat_le (at + len) (length bytes) then Ok (take len (drop at bytes)) else Err (Truncated (length bytes))

-- the header
unfoldable pub header_opened : List ℕ → Result Header OpenFault
header_opened bytes = followed_by (cut 0 HEADER_BYTES bytes) header_judged

-- the header, then the directory
unfoldable pub directory_opened : List ℕ → Result Directory OpenFault
directory_opened bytes = followed_by (header_opened bytes)
    (λ header. followed_by (cut HEADER_BYTES (directory_length header.counts) bytes) (directory_judged header))

-- page p
unfoldable pub page_opened : Directory → ℕ → List ℕ → Result Page OpenFault
page_opened directory p bytes =
    followed_by (cut (page_at (counts_of directory.heads) p) PAGE_BYTES bytes) (page_judged directory p)

-- the first n pages, ascending
abbrev pub pages_opened : Directory → ℕ → List ℕ → Result (List Page) OpenFault
pages_opened directory zero bytes = Ok []
pages_opened directory (suc n) bytes = followed_by (pages_opened directory n bytes)
    (λ pages. followed_by (page_opened directory n bytes) (λ page. Ok (pages ++ page ∷ [])))

-- which pages are judged: the root pages
abbrev pub root_pages : Counts → ℕ
root_pages counts = counts.roots

-- the header, the directory, and then as many pages as `which` says of the counts
unfoldable pub opening : (Counts → ℕ) → List ℕ → Result Opened OpenFault
opening which bytes = followed_by (directory_opened bytes)
    (λ directory. followed_by (pages_opened directory (which (counts_of directory.heads)) bytes)
    (λ pages. Ok (record { directory = directory; roots = pages })))

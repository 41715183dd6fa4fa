-- How each part of a page file is judged: the first fault of the header, of the directory and of a page.
use Rattle.std.specs.Prelude.{Bool, true, false, not, ◌==◌, ℕ, ◌+◌, List, [], length, take, Option, Some, None, Result}
use Rattle.std.specs.Prelude.{Ok, Err, slice_index_or}
use Rattle.std.specs.List.{find, range_with_len}
use Rattle.std.specs.Option.{option_or, option_map}
use Rattle.std.specs.Str.{bytes_eq}
use Rattle.sha2.specs.Sha256.{sha256}
use Rattle.geom_core.specs.declared.digests.Digest32.{Digest32}
use Rattle.dag_core.specs.declared.counts.Counts.{Counts}
use Rattle.dag_core.specs.declared.heads.Heads.{Heads}
use Rattle.dag_core.specs.Ranges.{is_count_in_range}
use Rattle.dag_core.specs.Rules.{breaks}
use Rattle.page_codec.specs.declared.sizes.TheConstants.{VERSION}
use Rattle.page_codec.specs.declared.headers.Header.{Header}
use Rattle.page_codec.specs.declared.directories.Directory.{Directory}
use Rattle.page_codec.specs.declared.pages.Page.{Page}
use Rattle.page_codec.specs.declared.breaks.Break.{Break}
use Rattle.page_codec.specs.Breaks.{first_directory_break, first_page_break}
use Rattle.page_codec.specs.Reading.{header_of, directory_of, page_of}
use Rattle.page_codec.specs.Spelling.{magic, directory_digest}
use Rattle.page_file.specs.declared.open_faults.OpenFault.{OpenFault}
use Rattle.page_file.specs.declared.open_faults.OpenFault.TheVariants.{Magic, Version, DirectoryDigest, DirectoryBad}
use Rattle.page_file.specs.declared.open_faults.OpenFault.TheVariants.{Rule, PageDigest, PageBad}

-- this fault, unless that holds
abbrev pub fault_unless : Bool → OpenFault → Option OpenFault
fault_unless true fault = None
fault_unless false fault = Some fault

-- what was judged, or its first fault
abbrev pub judged : {X : Type 0} → Option OpenFault → X → Result X OpenFault
judged None found = Ok found
judged (Some fault) found = Err fault

-- ---- the header

-- the first count that is out of its range: 0 groups, 1 clusters, 2 pages, 3 root pages, 4 source triangles
unfoldable pub first_bad_count : Counts → Option ℕ
first_bad_count counts = find (λ part. not (is_count_in_range counts part)) (range_with_len 0 5)

-- rule 0
abbrev pub counts_fault : Counts → Option OpenFault
counts_fault counts = option_map (λ part. Rule 0 part) (first_bad_count counts)

-- the faults of a header's 64 bytes, in order: the magic, the version, rule 0
unfoldable pub header_fault : List ℕ → Option OpenFault
header_fault text = option_or (fault_unless (bytes_eq (take 8 text) magic) (Magic (take 8 text)))
    (option_or (fault_unless ((header_of text).version == VERSION) (Version (header_of text).version))
    (counts_fault (header_of text).counts))

abbrev pub header_judged : List ℕ → Result Header OpenFault
header_judged text = judged (header_fault text) (header_of text)

-- ---- the directory

-- the digest of a directory's bytes, as it has to be in the header
unfoldable pub digest_found : Header → List ℕ → Digest32
digest_found header text = record { bytes = directory_digest header.version header.counts text }

abbrev pub directory_digest_fault : Digest32 → Digest32 → Option OpenFault
directory_digest_fault stated found = fault_unless (bytes_eq stated.bytes found.bytes) (DirectoryDigest stated found)

-- the first break of the grammar
abbrev pub directory_grammar_fault : Option Break → Option OpenFault
directory_grammar_fault found = option_map (λ (break : Break). DirectoryBad break.rule break.offset) found

-- any rule is kept from this index on
abbrev pub places : Heads → ℕ
places heads = length heads.groups + length heads.clusters + heads.pages + 1

-- the first index at which the rule is broken
unfoldable pub rule_fault : Heads → ℕ → Option OpenFault
rule_fault heads rule =
    option_map (λ index. Rule rule index) (find (breaks rule heads) (range_with_len 0 (places heads)))

-- the first of rules 1 to 5 that is broken, at its first index
unfoldable pub rules_fault : Heads → Option OpenFault
rules_fault heads = option_or (rule_fault heads 1) (option_or (rule_fault heads 2)
    (option_or (rule_fault heads 3) (option_or (rule_fault heads 4) (rule_fault heads 5))))

-- the faults of the directory of a file with this header, in order: the digest, the grammar, rules 1 to 5
unfoldable pub directory_fault : Header → List ℕ → Option OpenFault
directory_fault header text = option_or (directory_digest_fault header.digest (digest_found header text))
    (option_or (directory_grammar_fault (first_directory_break header.counts text))
    (rules_fault (directory_of header.counts text).heads))

abbrev pub directory_judged : Header → List ℕ → Result Directory OpenFault
directory_judged header text = judged (directory_fault header text) (directory_of header.counts text)

-- ---- a page

-- the digest that the directory states for page p
abbrev pub stated_digest : Directory → ℕ → Digest32
stated_digest directory p = slice_index_or directory.digests p (record { bytes = [] })

-- the digest of a page's bytes
unfoldable pub page_digest_found : List ℕ → Digest32
page_digest_found text = record { bytes = sha256 text }

abbrev pub page_digest_fault : ℕ → Digest32 → Digest32 → Option OpenFault
page_digest_fault p stated found = fault_unless (bytes_eq stated.bytes found.bytes) (PageDigest p stated found)

-- the first break of the grammar
abbrev pub page_grammar_fault : ℕ → Option Break → Option OpenFault
page_grammar_fault p found = option_map (λ (break : Break). PageBad p break.rule break.offset) found

-- the faults of page p, in order: the digest, the grammar
unfoldable pub page_fault : Directory → ℕ → List ℕ → Option OpenFault
page_fault directory p text = option_or (page_digest_fault p (stated_digest directory p) (page_digest_found text))
    (page_grammar_fault p (first_page_break directory.heads p text))

abbrev pub page_judged : Directory → ℕ → List ℕ → Result Page OpenFault
page_judged directory p text = judged (page_fault directory p text) (page_of directory.heads p text)

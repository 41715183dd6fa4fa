-- The printed text of a journal: first the layout's lines, then one line for each entry.
use Rattle.std.specs.Prelude.{ℕ, ◌+◌, List, [], ◌∷◌, ◌++◌, Option, None, Some, map, codes}
use Rattle.std.specs.List.{join_with_byte, concat}
use Rattle.std.specs.Fmt.{decimal}
use Rattle.hex.specs.Hex.{encode_lower}
use Rattle.journal.specs.declared.entries.Entry.{Entry}
use Rattle.journal.specs.declared.entries.Spoilt.{Spoilt}
use Rattle.journal.specs.declared.entries.Spoilt.TheVariants.{Digest, Grammar, Short}
use Rattle.journal.specs.declared.entries.What.{What}
use Rattle.journal.specs.declared.entries.What.TheVariants.{Pin, Settle, Ask, Narrow, Unpin, Take, Install, Fail, Spoil}
use Rattle.journal.specs.declared.entries.What.TheVariants.{Starve, Full, Stop}
use Rattle.journal.specs.declared.layouts.Layout.{Layout}

-- the fields of a list of pages: the pages' numbers, or `-` where there is none
abbrev pub list_fields : List ℕ → List (List ℕ)
list_fields [] = codes "-" ∷ []
list_fields (page ∷ pages) = decimal page ∷ map decimal pages

-- a number that may be missing: then it is `-`
abbrev pub number_or_dash : Option ℕ → List ℕ
number_or_dash None = codes "-"
number_or_dash (Some number) = decimal number

-- what was wrong with a page's bytes
abbrev pub spoilt_fields : Spoilt → List (List ℕ)
spoilt_fields (Digest stated found) = codes "digest" ∷ encode_lower stated.bytes ∷ encode_lower found.bytes ∷ []
spoilt_fields (Grammar rule offset) = codes "grammar" ∷ decimal rule ∷ decimal offset ∷ []
spoilt_fields (Short got) = codes "short" ∷ decimal got ∷ []

-- what a maker did: a word, and its numbers
abbrev pub event_fields : What → List (List ℕ)
event_fields (Pin frame) = codes "pin" ∷ decimal frame ∷ []
event_fields (Settle frame pages missing) =
    codes "settle" ∷ decimal frame ∷ codes "pages" ∷ (list_fields pages ++ codes "missing" ∷ list_fields missing)
event_fields (Ask frame pages) = codes "ask" ∷ decimal frame ∷ codes "pages" ∷ list_fields pages
event_fields (Narrow frame pages) = codes "narrow" ∷ decimal frame ∷ codes "pages" ∷ list_fields pages
event_fields (Unpin frame) = codes "unpin" ∷ decimal frame ∷ []
event_fields (Take frame page victim) =
    codes "take" ∷ number_or_dash frame ∷ decimal page ∷ number_or_dash victim ∷ []
event_fields (Install page digest) = codes "install" ∷ decimal page ∷ encode_lower digest.bytes ∷ []
event_fields (Fail page before after) =
    codes "fail" ∷ decimal page ∷ decimal before ∷ decimal after ∷ []
event_fields (Spoil page why) = codes "spoil" ∷ decimal page ∷ spoilt_fields why
event_fields (Starve page) = codes "starve" ∷ decimal page ∷ []
event_fields (Full frame) = codes "full" ∷ decimal frame ∷ []
event_fields Stop = codes "stop" ∷ []

-- an entry: its maker's number first
abbrev pub entry_fields : Entry → List (List ℕ)
entry_fields entry = decimal entry.by ∷ event_fields entry.what

-- the numbers of pages, root pages and slots
abbrev pub layout_fields : Layout → List (List ℕ)
layout_fields layout =
    codes "layout" ∷ decimal layout.pages ∷ decimal layout.roots ∷ decimal layout.slots ∷ []

-- the lines of uppers, of page `page` and those after it; a page without uppers has none
abbrev pub upper_lines : ℕ → List (List ℕ) → List (List (List ℕ))
upper_lines page [] = []
upper_lines page ([] ∷ rest) = upper_lines (page + 1) rest
upper_lines page ((upper ∷ uppers) ∷ rest) =
    (codes "upper" ∷ decimal page ∷ decimal upper ∷ map decimal uppers) ∷ upper_lines (page + 1) rest

-- the fields of each line of a journal
abbrev pub journal_lines : Layout → List Entry → List (List (List ℕ))
journal_lines layout entries =
    layout_fields layout ∷ (upper_lines 0 layout.uppers ++ map entry_fields entries)

-- a line's text: its fields with a space between each two, and an LF
abbrev pub line_text : List (List ℕ) → List ℕ
line_text fields = join_with_byte 32 fields ++ 10 ∷ []

-- the text of a journal
abbrev pub journal_bytes : Layout → List Entry → List ℕ
journal_bytes layout entries = concat (map line_text (journal_lines layout entries))

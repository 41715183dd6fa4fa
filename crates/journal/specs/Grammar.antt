-- The texts that spell a journal, and the first line outside the grammar of another text.
use Rattle.std.specs.Prelude.{ℕ, ◌+◌, ◌-◌, ◌^◌, ◌==◌, ◌&&◌, ◌||◌, not, nat_le, nat_lt, Bool, true, false, if◌then◌else◌}
use Rattle.std.specs.Prelude.{List, [], ◌∷◌, ◌++◌, Option, None, Some, Result, Ok, Err, length, replicate, slice_index}
use Rattle.std.specs.Prelude.{codes}
use Rattle.std.specs.List.{slice_split, onto_first, list_all}
use Rattle.std.specs.Option.{option_map, option_map_or}
use Rattle.std.specs.Result.{result_ok}
use Rattle.std.specs.Char.{is_ascii_digit}
use Rattle.std.specs.Str.{bytes_eq}
use Rattle.std.specs.Str.Parse.{digits_value}
use Rattle.hex.specs.Hex.{decode_sized}
use Rattle.geom_core.specs.declared.digests.Digest32.{Digest32}
use Rattle.geom_core.specs.declared.limits.TheConstants.{MAX_PAGES}
use Rattle.journal.specs.declared.entries.Entry.{Entry}
use Rattle.journal.specs.declared.entries.Spoilt.{Spoilt}
use Rattle.journal.specs.declared.entries.Spoilt.TheVariants.{Digest, Grammar, Short}
use Rattle.journal.specs.declared.entries.What.{What}
use Rattle.journal.specs.declared.entries.What.TheVariants.{Pin, Settle, Ask, Narrow, Unpin, Take, Install, Fail, Spoil}
use Rattle.journal.specs.declared.entries.What.TheVariants.{Starve, Full, Stop}
use Rattle.journal.specs.declared.journals.Journal.{Journal}
use Rattle.journal.specs.declared.layouts.Layout.{Layout}
use Rattle.journal.specs.Layout.{ascends}

-- the second reading, of what the first one gave; none where the first one gave none
infixl 10 ◌>>=◌
abbrev pub ◌>>=◌ : {A B : Type 0} → Option A → (A → Option B) → Option B
None >>= next = None
Some found >>= next = next found

-- whether a list has nothing
abbrev pub is_empty : {A : Type 0} → List A → Bool
is_empty [] = true
is_empty (first ∷ rest) = false

-- the lines of a text: each LF ends one, and the bytes after the last LF, if any, are one too
abbrev pub lines_of : List ℕ → List (List ℕ)
lines_of [] = []
lines_of (byte ∷ rest) = if byte == 10 then [] ∷ lines_of rest else onto_first byte (lines_of rest)

-- a line that begins with `#` is a comment
abbrev pub is_comment : List ℕ → Bool
is_comment [] = false
is_comment (byte ∷ rest) = byte == 35

-- the fields of a line: the bytes between its spaces
abbrev pub fields_of : List ℕ → List (List ℕ)
fields_of line = slice_split (λ byte. byte == 32) line

-- a numeral: digits, at least one, and no zero before another digit
abbrev pub is_numeral : List ℕ → Bool
is_numeral field =
    list_all is_ascii_digit field && nat_lt 0 (length field) && not
    (slice_index field 0 == 48 && nat_lt 1 (length field))

-- the number if it is below `limit`, else none
abbrev pub below : ℕ → ℕ → Option ℕ
below limit number = if nat_lt number limit then Some number else None

-- the number below `limit` that a field spells
unfoldable pub number_of : ℕ → List ℕ → Option ℕ
number_of limit field = if is_numeral field then below limit (digits_value 10 field) else None

-- a number of 32 bits, or `-` for none
abbrev pub number_or_dash_of : List ℕ → Option (Option ℕ)
number_or_dash_of field = if bytes_eq field (codes "-") then Some None else option_map Some (number_of (2 ^ 32) field)

-- a digit of a digest: 0 to 9, or a to f
abbrev pub is_digest_digit : ℕ → Bool
is_digest_digit byte = (nat_le 48 byte && nat_le byte 57) || (nat_le 97 byte && nat_le byte 102)

-- the digest that 64 such digits spell
unfoldable pub digest_of : List ℕ → Option Digest32
digest_of field =
    if list_all is_digest_digit field
    then option_map (λ bytes. record { bytes = bytes }) (result_ok (decode_sized field 32))
    else None

-- the numbers below `limit` that the fields spell, each one
abbrev pub numbers_of : ℕ → List (List ℕ) → Option (List ℕ)
numbers_of limit [] = Some []
numbers_of limit (field ∷ rest) = do
  number ← number_of limit field
  numbers ← numbers_of limit rest
  Some (number ∷ numbers)

-- the numbers below `limit` that at least one field spells
abbrev pub some_numbers_of : ℕ → List (List ℕ) → Option (List ℕ)
some_numbers_of limit [] = None
some_numbers_of limit (field ∷ rest) = numbers_of limit (field ∷ rest)

-- whether there is one field, which is `-`
abbrev pub is_dash : List (List ℕ) → Bool
is_dash [] = false
is_dash (field ∷ []) = bytes_eq field (codes "-")
is_dash (field ∷ next ∷ rest) = false

-- a list of pages: at least one number, or `-` for none
abbrev pub pages_of : List (List ℕ) → Option (List ℕ)
pages_of fields = if is_dash fields then Some [] else some_numbers_of (2 ^ 32) fields

-- the fields if there is exactly one, or two, or three
abbrev pub single : {A : Type 0} → List A → Option A
single (first ∷ []) = Some first
single _ = None

abbrev pub pair : {A : Type 0} → List A → Option (A × A)
pair (first ∷ second ∷ []) = Some (first, second)
pair _ = None

abbrev pub triple : {A : Type 0} → List A → Option (A × A × A)
triple (first ∷ second ∷ third ∷ []) = Some (first, second, third)
triple _ = None

-- the first field and those after it
abbrev pub split_first : {A : Type 0} → List A → Option (A × List A)
split_first [] = None
split_first (first ∷ rest) = Some (first, rest)

-- the fields after the first if the first is the word
abbrev pub after_word : List ℕ → List (List ℕ) → Option (List (List ℕ))
after_word word [] = None
after_word word (field ∷ rest) = if bytes_eq field word then Some rest else None

-- the fields before the first `word`, and those after it
abbrev pub around_word : List ℕ → List (List ℕ) → Option (List (List ℕ) × List (List ℕ))
around_word word [] = None
around_word word (field ∷ rest) =
    if bytes_eq field word then Some ([], rest)
    else option_map (λ found. (field ∷ found.0, found.1)) (around_word word rest)

-- one number: `F` or `P`
unfoldable pub single_number_of : List (List ℕ) → Option ℕ
single_number_of fields = do
  field ← single fields
  number_of (2 ^ 32) field

-- `F pages L`
unfoldable pub frame_and_pages_of : List (List ℕ) → Option (ℕ × List ℕ)
frame_and_pages_of fields = do
  (field, rest) ← split_first fields
  frame ← number_of (2 ^ 32) field
  listed ← after_word (codes "pages") rest
  pages ← pages_of listed
  Some (frame, pages)

-- `L missing`, and the fields after it
unfoldable pub pages_until_missing_of : List (List ℕ) → Option (List ℕ × List (List ℕ))
pages_until_missing_of fields = do
  (needed, rest) ← around_word (codes "missing") fields
  pages ← pages_of needed
  Some (pages, rest)

-- `F pages L missing L`
unfoldable pub settle_of : List (List ℕ) → Option What
settle_of fields = do
  (field, rest) ← split_first fields
  frame ← number_of (2 ^ 32) field
  listed ← after_word (codes "pages") rest
  (pages, awaited) ← pages_until_missing_of listed
  missing ← pages_of awaited
  Some (Settle frame pages missing)

-- `F P V`
unfoldable pub take_of : List (List ℕ) → Option What
take_of fields = do
  (first, second, third) ← triple fields
  frame ← number_or_dash_of first
  page ← number_of (2 ^ 32) second
  victim ← number_or_dash_of third
  Some (Take frame page victim)

-- `P DIGEST`
unfoldable pub install_of : List (List ℕ) → Option What
install_of fields = do
  (first, second) ← pair fields
  page ← number_of (2 ^ 32) first
  digest ← digest_of second
  Some (Install page digest)

-- `P BEFORE AFTER`
unfoldable pub fail_of : List (List ℕ) → Option What
fail_of fields = do
  (first, second, third) ← triple fields
  page ← number_of (2 ^ 32) first
  before ← number_of (2 ^ 64) second
  after ← number_of (2 ^ 64) third
  Some (Fail page before after)

-- `STATED FOUND` of a digest
unfoldable pub spoilt_digest_of : List (List ℕ) → Option Spoilt
spoilt_digest_of fields = do
  (first, second) ← pair fields
  stated ← digest_of first
  found ← digest_of second
  Some (Digest stated found)

-- `RULE OFFSET` of the grammar of pages
unfoldable pub spoilt_grammar_of : List (List ℕ) → Option Spoilt
spoilt_grammar_of fields = do
  (first, second) ← pair fields
  rule ← number_of (2 ^ 8) first
  offset ← number_of (2 ^ 32) second
  Some (Grammar rule offset)

-- `GOT` of a short file
unfoldable pub spoilt_short_of : List (List ℕ) → Option Spoilt
spoilt_short_of fields = do
  field ← single fields
  got ← number_of (2 ^ 32) field
  Some (Short got)

-- what was wrong, by its word
unfoldable pub spoilt_of : List ℕ → List (List ℕ) → Option Spoilt
spoilt_of word fields =
    if bytes_eq word (codes "digest") then spoilt_digest_of fields
    else if bytes_eq word (codes "grammar") then spoilt_grammar_of fields
    else if bytes_eq word (codes "short") then spoilt_short_of fields
    else None

-- `P` and what was wrong
unfoldable pub spoil_of : List (List ℕ) → Option What
spoil_of fields = do
  (field, rest) ← split_first fields
  page ← number_of (2 ^ 32) field
  (word, more) ← split_first rest
  why ← spoilt_of word more
  Some (Spoil page why)

-- no field: the entry is its word alone
abbrev pub stop_of : List (List ℕ) → Option What
stop_of [] = Some Stop
stop_of (field ∷ rest) = None

-- the event of a word that no list of pages follows
unfoldable pub event_without_list_of : List ℕ → List (List ℕ) → Option What
event_without_list_of word fields =
    if bytes_eq word (codes "pin") then option_map Pin (single_number_of fields)
    else if bytes_eq word (codes "unpin") then option_map Unpin (single_number_of fields)
    else if bytes_eq word (codes "take") then take_of fields
    else if bytes_eq word (codes "install") then install_of fields
    else if bytes_eq word (codes "fail") then fail_of fields
    else if bytes_eq word (codes "spoil") then spoil_of fields
    else if bytes_eq word (codes "starve") then option_map Starve (single_number_of fields)
    else if bytes_eq word (codes "full") then option_map Full (single_number_of fields)
    else if bytes_eq word (codes "stop") then stop_of fields
    else None

-- the event of a word and the fields after it
unfoldable pub event_of : List ℕ → List (List ℕ) → Option What
event_of word fields =
    if bytes_eq word (codes "settle") then settle_of fields
    else if bytes_eq word (codes "ask") then option_map (λ found. Ask found.0 found.1) (frame_and_pages_of fields)
    else if bytes_eq word (codes "narrow") then option_map (λ found. Narrow found.0 found.1) (frame_and_pages_of fields)
    else event_without_list_of word fields

-- an entry: its maker's number and its event
unfoldable pub entry_of : List (List ℕ) → Option Entry
entry_of fields = do
  (field, rest) ← split_first fields
  by ← number_of (2 ^ 32) field
  (word, more) ← split_first rest
  what ← event_of word more
  Some (record { by = by; what = what })

-- `layout PAGES ROOTS SLOTS`: 1 to MAX_PAGES pages, 1 to `pages` root pages, `roots` to MAX_PAGES slots;
-- no page has uppers yet
unfoldable pub layout_of : List (List ℕ) → Option Layout
layout_of fields = do
  rest ← after_word (codes "layout") fields
  (first, second, third) ← triple rest
  pages ← number_of (MAX_PAGES + 1) first
  roots ← number_of (pages + 1) second
  slots ← number_of (MAX_PAGES + 1) third
  if nat_le 1 roots && nat_le roots slots
      then Some (record { pages = pages; roots = roots; slots = slots; uppers = [] })
      else None

-- the lists of uppers up to that of `page`; the pages between have none
abbrev pub up_to : List (List ℕ) → ℕ → List (List ℕ)
up_to uppers page = uppers ++ replicate (page - length uppers) []

-- a journal with the uppers of an `upper` line, `P L`: the line is before all entries, P is greater than in
-- the `upper` lines before it, and L ascends and is below P
unfoldable pub with_upper : Journal → List (List ℕ) → Option Journal
with_upper journal fields = do
  (field, rest) ← split_first fields
  page ← number_of journal.layout.pages field
  listed ← some_numbers_of page rest
  if is_empty journal.entries && nat_le (length journal.layout.uppers) page && ascends listed
      then Some
      (record journal {
        layout = record journal.layout
            { uppers = up_to journal.layout.uppers page ++ listed ∷ [] };
      })
      else None

-- a journal with the entry of a line
unfoldable pub with_entry : Journal → List (List ℕ) → Option Journal
with_entry journal fields =
    option_map (λ entry. record journal { entries = journal.entries ++ entry ∷ [] }) (entry_of fields)

-- the journal so far with one more line: first the line of the layout, then those of uppers, then those of
-- entries
unfoldable pub with_line : Option Journal → List (List ℕ) → Option Journal
with_line None fields = option_map (λ layout. record { layout = layout; entries = [] }) (layout_of fields)
with_line (Some journal) fields =
    option_map_or (with_upper journal) (after_word (codes "upper") fields) (with_entry journal fields)

-- a journal where each page has its list
unfoldable pub with_all_uppers : Journal → Journal
with_all_uppers journal =
    record journal { layout = record journal.layout { uppers = up_to journal.layout.uppers journal.layout.pages } }

-- the journal at the end of the text, or the number of the line after the last if there was no layout
abbrev pub at_end : Option Journal → ℕ → Result Journal ℕ
at_end None line = Err line
at_end (Some journal) line = Ok (with_all_uppers journal)

-- the journal that the lines before number `line` and the lines left spell, or the number of the first
-- line that is outside the grammar; a line that begins with `#` changes nothing
abbrev pub read_from : Option Journal → ℕ → List (List ℕ) → Result Journal ℕ
read_from so_far line [] = at_end so_far line
read_from so_far line (text ∷ rest) =
    if is_comment text then read_from so_far (line + 1) rest
    else option_map_or (λ journal. read_from (Some journal) (line + 1) rest) (with_line so_far (fields_of text))
    (Err line)

-- the journal that a text spells, or the number, from 1, of its first line outside the grammar
abbrev pub journal_of : List ℕ → Result Journal ℕ
journal_of text = read_from None 1 (lines_of text)

-- The printed lines have plain fields alone.
use Rattle.std.proofs.Common.{◌≡◌, ℕ, ◌<◌, ◌^◌, List, [], ◌∷◌, ◌++◌, true, Option, None, Some, codes, map, arith, refl}
use Rattle.std.specs.Prelude.{IfSome, nat_le}
use Rattle.std.specs.Fmt.{decimal}
use Rattle.std.specs.List.{All, list_all}
use Rattle.std.proofs.lemmas.Fmt.{decimal_is_IsNumeral}
use Rattle.std.proofs.lemmas.List.Elements.{All-cons, All-from_get_or, All-head, All-nil, All-tail, All-weaker}
use Rattle.std.proofs.lemmas.List.Sums.{AllPass-from_list_all}
use Rattle.std.proofs.lemmas.Str.Parse.{digit_at}
use Rattle.hex.specs.Hex.{encode_lower}
use Rattle.geom_core.specs.declared.digests.Digest32.{Digest32}
use Rattle.journal.proofs.PrintedDigests.{digits_encode}
use Rattle.journal.proofs.PrintedFields.{IsPlain, IsPlainLine}
use Rattle.journal.specs.Grammar.{is_digest_digit}
use Rattle.journal.specs.Spelling.{entry_fields, layout_fields, list_fields, number_or_dash, spoilt_fields}
use Rattle.journal.specs.Spelling.{event_fields}
use Rattle.journal.specs.Typed.{Is32, IsDigest, IsTyped, IsTypedSpoilt, IsTypedWhat}
use Rattle.journal.specs.declared.entries.Entry.{Entry}
use Rattle.journal.specs.declared.entries.Spoilt.{Spoilt}
use Rattle.journal.specs.declared.entries.Spoilt.TheVariants.{Digest, Grammar, Short}
use Rattle.journal.specs.declared.entries.What.{What}
use Rattle.journal.specs.declared.entries.What.TheVariants.{Pin, Settle, Ask, Narrow, Unpin, Take, Install, Fail, Spoil}
use Rattle.journal.specs.declared.entries.What.TheVariants.{Starve, Full, Stop}
use Rattle.journal.specs.declared.layouts.Layout.{Layout}

-- a field, and several
abbrev Plain : List ℕ → Type 0
Plain field = All IsPlain field

abbrev Plains : List (List ℕ) → Type 0
Plains [] = Unit {0}
Plains (field ∷ rest) = Plain field × Plains rest

all_plain : (fields : List (List ℕ)) → Plains fields → All Plain fields
all_plain [] h = All-nil Plain
all_plain (field ∷ rest) h = All-cons Plain field rest h.0 (all_plain rest h.1)

plains_append : (fields more : List (List ℕ)) → Plains fields → Plains more → Plains (fields ++ more)
plains_append [] more h g = g
plains_append (field ∷ rest) more h g = (h.0, plains_append rest more h.1 g)

passes : (byte : ℕ) → nat_le 36 byte ≡ true → IsPlain byte
passes byte e = grind arith

word : (bytes : List ℕ) → list_all (nat_le 36) bytes ≡ true → Plain bytes
word bytes e =
    All-weaker (λ byte. nat_le 36 byte ≡ true) IsPlain passes bytes (AllPass-from_list_all (nat_le 36) bytes e)

digit : (byte : ℕ) → is_digest_digit byte ≡ true → IsPlain byte
digit byte e = grind arith

hex : (digest : Digest32) → IsDigest digest → Plain (encode_lower digest.bytes)
hex digest h =
    All-weaker (λ byte. is_digest_digit byte ≡ true) IsPlain digit (encode_lower digest.bytes)
    (AllPass-from_list_all is_digest_digit (encode_lower digest.bytes) (digits_encode digest.bytes h.1))

number : (n : ℕ) → n < 2 ^ 64 → Plain (decimal n)
number n fits =
    All-from_get_or IsPlain (decimal n) 0 (λ i lt. let range =
    digit_at (decimal n) i (decimal_is_IsNumeral n fits).0.1 lt in omega (arith, range))

number_32 : (n : ℕ) → Is32 n → Plain (decimal n)
number_32 n h = number n (omega (arith, h))

numbers : (ns : List ℕ) → All Is32 ns → Plains (map decimal ns)
numbers [] h = tt
numbers (n ∷ ns) h = (number_32 n (All-head Is32 n ns h), numbers ns (All-tail Is32 n ns h))

list : (pages : List ℕ) → All Is32 pages → Plains (list_fields pages)
list [] h = (word (codes "-") refl, tt)
list (page ∷ pages) h = numbers (page ∷ pages) h

optional : (n : Option ℕ) → IfSome n Is32 → Plain (number_or_dash n)
optional None h = word (codes "-") refl
optional (Some n) h = number_32 n h

spoilt : (why : Spoilt) → IsTypedSpoilt why → Plains (spoilt_fields why)
spoilt (Digest stated found) h = (word (codes "digest") refl, (hex stated h.0, (hex found h.1, tt)))
spoilt (Grammar rule offset) h =
    let lt = h.0 in (word (codes "grammar") refl, (number rule (omega (arith, lt)), (number_32 offset h.1, tt)))
spoilt (Short got) h = (word (codes "short") refl, (number_32 got h, tt))

what : (what : What) → IsTypedWhat what → Plains (event_fields what)
what (Pin frame) h = (word (codes "pin") refl, (number_32 frame h, tt))
what (Settle frame pages missing) h = (
  word (codes "settle") refl,
  (
    number_32 frame h.0,
    (
      word (codes "pages") refl,
      plains_append (list_fields pages) (codes "missing" ∷ list_fields missing) (list pages h.1)
          (word (codes "missing") refl, list missing h.2),
    ),
  ),
)
what (Ask frame pages) h = (word (codes "ask") refl, (number_32 frame h.0, (word (codes "pages") refl, list pages h.1)))
what (Narrow frame pages) h =
    (word (codes "narrow") refl, (number_32 frame h.0, (word (codes "pages") refl, list pages h.1)))
what (Unpin frame) h = (word (codes "unpin") refl, (number_32 frame h, tt))
what (Take frame page victim) h =
    (word (codes "take") refl, (optional frame h.0, (number_32 page h.1, (optional victim h.2, tt))))
what (Install page digest) h = (word (codes "install") refl, (number_32 page h.0, (hex digest h.1, tt)))
what (Fail page before after) h =
    (word (codes "fail") refl, (number_32 page h.0, (number before h.1, (number after h.2, tt))))
what (Spoil page why) h = (word (codes "spoil") refl, (number_32 page h.0, spoilt why h.1))
what (Starve page) h = (word (codes "starve") refl, (number_32 page h, tt))
what (Full frame) h = (word (codes "full") refl, (number_32 frame h, tt))
what Stop h = (word (codes "stop") refl, tt)

-- the line of an entry
pub entry_plain : (entry : Entry) → IsTyped entry → IsPlainLine (entry_fields entry)
entry_plain entry h = all_plain (entry_fields entry) (number_32 entry.by h.0, what entry.what h.1)

-- the line of a layout
pub layout_plain : (layout : Layout) → Is32 layout.pages → Is32 layout.roots → Is32 layout.slots →
    IsPlainLine (layout_fields layout)
layout_plain layout p r s =
    all_plain (layout_fields layout)
    (word (codes "layout") refl, (number_32 layout.pages p, (number_32 layout.roots r, (number_32 layout.slots s, tt))))

-- the line of a page's uppers
pub upper_plain : (page upper : ℕ) (uppers : List ℕ) → Is32 page → All Is32 (upper ∷ uppers) →
    IsPlainLine (codes "upper" ∷ decimal page ∷ decimal upper ∷ map decimal uppers)
upper_plain page upper uppers p h =
    all_plain (codes "upper" ∷ decimal page ∷ decimal upper ∷ map decimal uppers)
    (word (codes "upper") refl, (number_32 page p, numbers (upper ∷ uppers) h))

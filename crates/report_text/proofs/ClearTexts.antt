-- No line of a frame has a line feed in it.
use Rattle.std.proofs.Common.{◌≡◌, ◌==◌, ◌+◌, ◌≤◌, ℕ, zero, suc, ◌/◌, ◌%◌, List, [], ◌∷◌, ◌++◌, Bool, true, false}
use Rattle.std.proofs.Common.{Option, None, Some, not, codes, length, map, get_or, arith, inl, inr, refl, ap}
use Rattle.std.specs.Prelude.{if◌then◌else◌, nat_lt}
use Rattle.std.specs.Fmt.{decimal, digits, digits_onto, digit_glyph}
use Rattle.std.specs.Int.{w64, to_be_bytes}
use Rattle.std.specs.List.{All, list_all, join_with_byte, range_with_len}
use Rattle.std.proofs.lemmas.Bool.{cases_lt}
use Rattle.std.proofs.lemmas.List.{get_or_past}
use Rattle.std.proofs.lemmas.List.Elements.{All-append, All-cons, All-get_or, All-nil, All-weaker}
use Rattle.std.proofs.lemmas.List.Sums.{AllPass-from_list_all}
use Rattle.hex.specs.Hex.{encode_lower, encode_with, lower_digits}
use Rattle.journal.proofs.Cuts.{no_lf}
use Rattle.journal.specs.Spelling.{list_fields}
use Rattle.report_text.specs.FrameText.{count_fields, frame_fields, frame_lines, row_texts}
use Rattle.report_text.specs.PictureText.{row_of, row_text, word_text}
use Rattle.report_text.specs.declared.frame_records.FrameRecord.{FrameRecord}
use Rattle.report_text.specs.declared.frame_records.PictureRows.{PictureRows}

-- a text in one line
abbrev pub IsClear : List ℕ → Type 0
IsClear text = All no_lf text

-- each text is in one line
abbrev pub AreClear : List (List ℕ) → Type 0
AreClear [] = Unit {0}
AreClear (text ∷ rest) = IsClear text × AreClear rest

not_true : (b : Bool) → not b ≡ true → b ≡ false
not_true true e = cc
not_true false e = refl

-- a text that is written out
word : (text : List ℕ) → list_all (λ byte. not (byte == 10)) text ≡ true → IsClear text
word text e =
    All-weaker (λ byte. not (byte == 10) ≡ true) no_lf (λ byte is. not_true (byte == 10) is) text
    (AllPass-from_list_all (λ byte. not (byte == 10)) text e)

above : (byte : ℕ) → 11 ≤ byte → no_lf byte
above byte h = grind arith

either_glyph : (b : Bool) (d : ℕ) → no_lf (if b then 48 + d else 87 + d)
either_glyph true d = above (48 + d) (omega arith)
either_glyph false d = above (87 + d) (omega arith)

either : (b : Bool) (some more : List ℕ) → IsClear some → IsClear more → IsClear (if b then some else more)
either true some more h g = h
either false some more h g = g

digits_onto-clear : (k n : ℕ) (last : List ℕ) → IsClear last → IsClear (digits_onto k 10 false n last)
digits_onto-clear zero n last h = h
digits_onto-clear (suc k) n last h =
    let glyph : List ℕ = digit_glyph false (n % 10) ∷ last in
    let more : IsClear glyph = All-cons no_lf (digit_glyph false (n % 10)) last (either_glyph (nat_lt (n % 10) 10)
    (n % 10)) h in
    either (n / 10 == 0) glyph (digits_onto k 10 false (n / 10) glyph) more (digits_onto-clear k (n / 10) glyph more)

number : (n : ℕ) → IsClear (decimal n)
unfolding digits
number n = digits_onto-clear 64 n [] (All-nil no_lf)

get_or-clear : (text : List ℕ) (k : ℕ) → IsClear text → no_lf (get_or text k 0)
get_or-clear text k h =
    elim (cases_lt k (length text)) [
      | inl lt ↦ All-get_or no_lf text k 0 lt h
      | inr le ↦ ap (λ (byte : ℕ). byte == 10) (get_or_past text k 0 le)
    ]

hex : (bytes : List ℕ) → IsClear (encode_lower bytes)
unfolding encode_with
hex [] = All-nil no_lf
hex (byte ∷ rest) =
    let glyphs : IsClear lower_digits = word lower_digits refl in
    All-cons no_lf (get_or lower_digits (byte / 16) 0) (get_or lower_digits (byte % 16) 0 ∷ encode_lower rest)
    (get_or-clear lower_digits (byte / 16) glyphs)
    (All-cons no_lf (get_or lower_digits (byte % 16) 0) (encode_lower rest) (get_or-clear lower_digits
    (byte % 16) glyphs) (hex rest))

append-clear : (some more : List (List ℕ)) → AreClear some → AreClear more → AreClear (some ++ more)
append-clear [] more h g = g
append-clear (text ∷ some) more h g = (h.0, append-clear some more h.1 g)

join-clear : (fields : List (List ℕ)) → AreClear fields → IsClear (join_with_byte 32 fields)
join-clear [] h = All-nil no_lf
join-clear (field ∷ []) h = h.0
join-clear (field ∷ next ∷ rest) h =
    All-append no_lf field (32 ∷ join_with_byte 32 (next ∷ rest)) h.0
    (All-cons no_lf 32 (join_with_byte 32 (next ∷ rest)) refl (join-clear (next ∷ rest) h.1))

numbers : (ns : List ℕ) → AreClear (map decimal ns)
numbers [] = tt
numbers (n ∷ ns) = (number n, numbers ns)

list : (ns : List ℕ) → AreClear (list_fields ns)
list [] = (word (codes "-") refl, tt)
list (n ∷ ns) = numbers (n ∷ ns)

frame_fields-clear : (shown : FrameRecord) → AreClear (frame_fields shown)
frame_fields-clear shown =
    let ending : AreClear (codes "sha256" ∷ encode_lower shown.digest.bytes ∷ []) =
    (word (codes "sha256") refl, (hex shown.digest.bytes, tt)) in
    let counted : AreClear (count_fields shown) =
    (word (codes "nodes") refl, (number shown.nodes, (word (codes "lit") refl, (number shown.lit, ending)))) in
    let lacking : AreClear (codes "missing" ∷ (list_fields shown.missing ++ count_fields shown)) = (
      word (codes "missing") refl,
      append-clear (list_fields shown.missing) (count_fields shown)
          (list shown.missing) counted,
    ) in (
      word (codes "frame") refl,
      (
        number shown.frame,
        (
          word (codes "at") refl,
          (
            number shown.at,
            (
              word (codes "resident") refl,
              append-clear (list_fields shown.resident) (codes "missing" ∷
                  (list_fields shown.missing ++ count_fields shown))
                  (list shown.resident) lacking,
            ),
          ),
        ),
      ),
    )

words : (ws : List ℕ) → AreClear (map word_text ws)
unfolding word_text
words [] = tt
words (w ∷ ws) = (hex (to_be_bytes w64 w), words ws)

row-clear : (ws : List ℕ) → IsClear (row_text ws)
unfolding row_text
row-clear ws = join-clear (map word_text ws) (words ws)

each_row : (rows : PictureRows) (js : List ℕ) → AreClear (map (λ j. row_text (row_of rows.words rows.width j)) js)
each_row rows [] = tt
each_row rows (j ∷ js) = (row-clear (row_of rows.words rows.width j), each_row rows js)

rows-clear : (rows : Option PictureRows) → AreClear (row_texts rows)
rows-clear None = tt
rows-clear (Some rows) = each_row rows (range_with_len 0 (length rows.words / rows.width))

-- the lines of a frame
pub frame_lines-clear : (shown : FrameRecord) → AreClear (frame_lines shown)
unfolding frame_lines
frame_lines-clear shown = (
  join-clear (frame_fields shown) (frame_fields-clear shown),
  (join-clear (codes "cut" ∷ list_fields shown.cut) (word (codes "cut") refl, list shown.cut), rows-clear shown.rows),
)

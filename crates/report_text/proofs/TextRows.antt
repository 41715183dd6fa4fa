-- The text of a picture, one word and one row further.
use Rattle.std.proofs.Common.{◌≡◌, ℕ, ◌+◌, ◌-◌, ◌*◌, ◌/◌, ◌<◌, ◌≤◌, List, [], ◌∷◌, ◌++◌, zero, suc, length, take}
use Rattle.std.proofs.Common.{drop, map, get_or, refl, sym, ◌∙◌, ap, arith, append_assoc}
use Rattle.std.specs.Prelude.{flat_map}
use Rattle.std.specs.List.{join_with_byte, range_with_len}
use Rattle.std.proofs.lemmas.List.{append-nil, length-map, length-take, map_more, map-id, flat_map_more}
use Rattle.std.proofs.lemmas.List.FromFn.{map-range_with_len_more}
use Rattle.report_text.specs.FrameText.{comment_line}
use Rattle.report_text.specs.PictureText.{word_text, row_text, row_of, picture_text_of}

-- the text of the rows above row n
abbrev pub rows_above : List ℕ → ℕ → ℕ → List ℕ
rows_above words width n = flat_map (λ j. row_text (row_of words width j) ++ 10 ∷ []) (range_with_len 0 n)

pub picture_text_of-rows : (words : List ℕ) (width : ℕ) →
    rows_above words width (length words / width) ≡ picture_text_of words width
unfolding picture_text_of
picture_text_of-rows words width = refl

range_more : (n : ℕ) → range_with_len 0 (n + 1) ≡ range_with_len 0 n ++ n ∷ []
range_more n =
    sym (map-id (range_with_len 0 (n + 1))) ∙ map-range_with_len_more (λ (k : ℕ). k) 0 n n (omega arith)
    ∙ ap (λ (l : List ℕ). l ++ n ∷ []) (map-id (range_with_len 0 n))

-- one row more
pub rows_above-more : (words : List ℕ) (width n : ℕ) →
    rows_above words width n ++ (row_text (row_of words width n) ++ 10 ∷ []) ≡ rows_above words width (n + 1)
rows_above-more words width n =
    let line : ℕ → List ℕ = λ j. row_text (row_of words width j) ++ 10 ∷ [] in
    flat_map_more line [] (range_with_len 0 n) n ∙ ap (flat_map line) (sym (range_more n))

join_more : (piece : List ℕ) (next : List (List ℕ)) (last : List ℕ) →
    join_with_byte 32 ((piece ∷ next) ++ last ∷ []) ≡ join_with_byte 32 (piece ∷ next) ++ 32 ∷ last
join_more piece [] last = refl
join_more piece (second ∷ next) last =
    ap (λ (l : List ℕ). piece ++ 32 ∷ l) (join_more second next last)
    ∙ sym (append_assoc piece (32 ∷ join_with_byte 32 (second ∷ next)) (32 ∷ last))

-- the first word of a row has no space before it
pub row_text-first : (words : List ℕ) → 0 < length words → row_text (take 1 words) ≡ word_text (get_or words 0 0)
unfolding row_text
row_text-first [] some = absurd (omega arith)
row_text-first (word ∷ words) some = refl

joined_more : (pieces : List (List ℕ)) (last : List ℕ) → 0 < length pieces →
    join_with_byte 32 (pieces ++ last ∷ []) ≡ join_with_byte 32 pieces ++ 32 ∷ last
joined_more [] last some = absurd (omega arith)
joined_more (piece ∷ next) last some = join_more piece next last

-- each further word has one
pub row_text-more : (words : List ℕ) (i : ℕ) → 0 < i → i < length words →
    row_text (take (i + 1) words) ≡ row_text (take i words) ++ 32 ∷ word_text (get_or words i 0)
unfolding row_text
row_text-more words i later within =
    let some : 0 < length (map word_text (take i words)) = simp (length-map, length-take) (omega arith) in
    ap (join_with_byte 32) (map_more word_text words i 0 within)
    ∙ joined_more (map word_text (take i words)) (word_text (get_or words i 0)) some

pub row_text-none : row_text [] ≡ []
unfolding row_text
row_text-none = refl

-- the first word of a row, put after what was there
pub word_put_first : (before so_far mid after words : List ℕ) (i : ℕ) → i ≤ 0 → i < length words →
    so_far ≡ before ++ row_text (take i words) → mid ≡ so_far → after ≡ mid ++ word_text (get_or words i 0) →
    after ≡ before ++ row_text (take (i + 1) words)
word_put_first before so_far mid after words zero early within kept gap put =
    put ∙ ap (λ (l : List ℕ). l ++ word_text (get_or words 0 0)) (gap ∙ kept
    ∙ ap (λ (l : List ℕ). before ++ l) row_text-none ∙ append-nil before)
    ∙ ap (λ (l : List ℕ). before ++ l) (sym (row_text-first words within))
word_put_first before so_far mid after words (suc i) early within kept gap put = absurd (omega arith)

-- a later word of a row, put behind a space
pub word_put_later : (before so_far mid after words : List ℕ) (i : ℕ) → 0 < i → i < length words →
    so_far ≡ before ++ row_text (take i words) → mid ≡ so_far ++ 32 ∷ [] → after ≡ mid ++ word_text (get_or words i 0) →
    after ≡ before ++ row_text (take (i + 1) words)
word_put_later before so_far mid after words i late within kept gap put =
    let row : List ℕ = row_text (take i words) in
    let word : List ℕ = word_text (get_or words i 0) in
    put ∙ ap (λ (l : List ℕ). l ++ word) (gap ∙ ap (λ (l : List ℕ). l ++ 32 ∷ []) kept)
    ∙ append_assoc (before ++ row) (32 ∷ []) word ∙ append_assoc before row (32 ∷ word)
    ∙ ap (λ (l : List ℕ). before ++ l) (sym (row_text-more words i late within))

-- a row put below those above it
pub row_put : (before mid after words : List ℕ) (width j : ℕ) → before ≡ rows_above words width j →
    mid ≡ before ++ row_text (take ((j + 1) * width - j * width) (drop (j * width) words)) → after ≡ mid ++ 10 ∷ [] →
    after ≡ rows_above words width (j + 1)
row_put before mid after words width j above row put =
    let row_is : List ℕ → List ℕ = λ (l : List ℕ). (rows_above words width j ++ l) ++ 10 ∷ [] in
    let wide : (j + 1) * width - j * width ≡ width = omega arith in
    put ∙ ap (λ (l : List ℕ). l ++ 10 ∷ []) (row
    ∙ ap (λ (l : List ℕ). l ++ row_text (take ((j + 1) * width - j * width) (drop (j * width) words))) above)
    ∙ ap (λ (n : ℕ). row_is (row_text (take n (drop (j * width) words)))) wide
    ∙ append_assoc (rows_above words width j) (row_text (row_of words width j)) (10 ∷ [])
    ∙ rows_above-more words width j

-- the comment lines of the rows above row n
abbrev pub comments_above : List ℕ → ℕ → ℕ → List ℕ
comments_above words width n = flat_map comment_line (map (λ j. row_text (row_of words width j)) (range_with_len 0 n))

-- the line of a row, below those above it
pub comment_row_put : (before so_far after words : List ℕ) (width j : ℕ) →
    so_far ≡ before ++ comments_above words width j →
    after ≡ so_far ++ comment_line (row_text (take ((j + 1) * width - j * width) (drop (j * width) words))) →
    after ≡ before ++ comments_above words width (j + 1)
comment_row_put before so_far after words width j above put =
    let text : ℕ → List ℕ = λ (i : ℕ). row_text (row_of words width i) in
    let wide : (j + 1) * width - j * width ≡ width = omega arith in
    put ∙ ap (λ (n : ℕ). so_far ++ comment_line (row_text (take n (drop (j * width) words)))) wide
    ∙ ap (λ (l : List ℕ). l ++ comment_line (text j)) above
    ∙ flat_map_more comment_line before (map text (range_with_len 0 j)) (text j)
    ∙ ap (λ (l : List (List ℕ)). before ++ flat_map comment_line l)
    (sym (map-range_with_len_more text 0 j j (omega arith)))

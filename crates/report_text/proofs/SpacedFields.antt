-- The fields of a line, one field further, and a line by its fields.
use Rattle.std.proofs.Common.{◌≡◌, ℕ, ◌+◌, ◌<◌, List, [], ◌∷◌, ◌++◌, length, take, map, get_or, sym, ◌∙◌, ap}
use Rattle.std.proofs.Common.{append_assoc}
use Rattle.std.specs.Fmt.{decimal}
use Rattle.std.specs.List.{join_with_byte}
use Rattle.std.proofs.lemmas.Grind.{flat_map-append}
use Rattle.std.proofs.lemmas.List.{append-nil, flat_map_more, map_more}
use Rattle.std.specs.Prelude.{codes}
use Rattle.journal.specs.Spelling.{line_text, list_fields}
use Rattle.report_text.specs.FrameText.{comment_line, count_fields, frame_fields}
use Rattle.report_text.specs.Internal.Spaced.{spaced}
use Rattle.report_text.specs.declared.frame_records.FrameRecord.{FrameRecord}

-- fields joined by a space are the first, and then each other after a space
pub join-spaced : (first : List ℕ) (rest : List (List ℕ)) → join_with_byte 32 (first ∷ rest) ≡ first ++ spaced rest
join-spaced first [] = sym (append-nil first)
join-spaced first (next ∷ rest) = ap (λ (l : List ℕ). first ++ 32 ∷ l) (join-spaced next rest)

pub spaced-append : (some more : List (List ℕ)) → spaced (some ++ more) ≡ spaced some ++ spaced more
spaced-append some more = flat_map-append (λ field. 32 ∷ field) some more

-- one number further
pub numbers_more : (before so_far after numbers : List ℕ) (i : ℕ) → i < length numbers →
    so_far ≡ before ++ spaced (map decimal (take i numbers)) →
    after ≡ so_far ++ 32 ∷ decimal (get_or numbers i 0) →
    after ≡ before ++ spaced (map decimal (take (i + 1) numbers))
numbers_more before so_far after numbers i within kept put =
    let last : List ℕ = decimal (get_or numbers i 0) in
    put ∙ ap (λ (l : List ℕ). l ++ 32 ∷ last) kept
    ∙ flat_map_more (λ field. 32 ∷ field) before (map decimal (take i numbers)) last
    ∙ ap (λ (fields : List (List ℕ)). before ++ spaced fields) (sym (map_more decimal numbers i 0 within))

-- what was put is a line of a journal
pub line_put : (before after first : List ℕ) (rest : List (List ℕ)) →
    after ≡ ((before ++ first) ++ spaced rest) ++ 10 ∷ [] → after ≡ before ++ line_text (first ∷ rest)
line_put before after first rest put =
    put ∙ append_assoc (before ++ first) (spaced rest) (10 ∷ []) ∙ append_assoc before first (spaced rest ++ 10 ∷ [])
    ∙ ap (λ (l : List ℕ). before ++ l) (sym (append_assoc first (spaced rest) (10 ∷ [])))
    ∙ ap (λ (l : List ℕ). before ++ (l ++ 10 ∷ [])) (sym (join-spaced first rest))

-- what was put is a comment line
pub comment_put : (before after first : List ℕ) (rest : List (List ℕ)) →
    after ≡ ((before ++ 35 ∷ 32 ∷ first) ++ spaced rest) ++ 10 ∷ [] →
    after ≡ before ++ comment_line (join_with_byte 32 (first ∷ rest))
comment_put before after first rest put =
    put ∙ append_assoc (before ++ 35 ∷ 32 ∷ first) (spaced rest) (10 ∷ [])
    ∙ append_assoc before (35 ∷ 32 ∷ first) (spaced rest ++ 10 ∷ [])
    ∙ ap (λ (l : List ℕ). before ++ 35 ∷ 32 ∷ l) (sym (append_assoc first (spaced rest) (10 ∷ [])))
    ∙ ap (λ (l : List ℕ). before ++ 35 ∷ 32 ∷ (l ++ 10 ∷ [])) (sym (join-spaced first rest))

-- some fields, and then more
spaced_put : (before mid after : List ℕ) (some more : List (List ℕ)) → mid ≡ before ++ spaced some →
    after ≡ mid ++ spaced more → after ≡ before ++ spaced (some ++ more)
spaced_put before mid after some more kept put =
    put ∙ ap (λ (l : List ℕ). l ++ spaced more) kept ∙ append_assoc before (spaced some) (spaced more)
    ∙ ap (λ (l : List ℕ). before ++ l) (sym (spaced-append some more))

-- the first line of a frame, piece by piece
pub frame_line_put : (before a b c d e f after : List ℕ) (shown : FrameRecord) → a ≡ before ++ codes "# frame" →
    b ≡ a ++ 32 ∷ decimal shown.frame → c ≡ b ++ spaced (codes "at" ∷ decimal shown.at ∷ []) →
    d ≡ c ++ spaced (codes "resident" ∷ list_fields shown.resident) →
    e ≡ d ++ spaced (codes "missing" ∷ list_fields shown.missing) → f ≡ e ++ spaced (count_fields shown) →
    after ≡ f ++ 10 ∷ [] → after ≡ before ++ comment_line (join_with_byte 32 (frame_fields shown))
frame_line_put before a b c d e f after shown begun frame at resident missing counts ended =
    let lacking : List (List ℕ) = codes "missing" ∷ (list_fields shown.missing ++ count_fields shown) in
    let present : List (List ℕ) = codes "resident" ∷ (list_fields shown.resident ++ lacking) in
    let later : List (List ℕ) = codes "at" ∷ decimal shown.at ∷ present in
    let all : List (List ℕ) = decimal shown.frame ∷ later in
    let from_d : f ≡ d ++ spaced lacking =
    spaced_put d e f (codes "missing" ∷ list_fields shown.missing) (count_fields shown) missing counts in
    let from_c : f ≡ c ++ spaced present =
    spaced_put c d f (codes "resident" ∷ list_fields shown.resident) lacking resident from_d in
    let from_b : f ≡ b ++ spaced later = spaced_put b c f (codes "at" ∷ decimal shown.at ∷ []) present at from_c in
    let from_a : f ≡ a ++ spaced all =
    from_b ∙ ap (λ (l : List ℕ). l ++ spaced later) frame ∙ append_assoc a (32 ∷ decimal shown.frame) (spaced later) in
    comment_put before after (codes "frame") all
    (ended ∙ ap (λ (l : List ℕ). l ++ 10 ∷ []) (from_a ∙ ap (λ (l : List ℕ). l ++ spaced all) begun))

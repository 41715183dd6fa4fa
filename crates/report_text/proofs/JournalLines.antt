-- The lines of a journal, one page and one entry further.
use Rattle.std.proofs.Common.{◌≡◌, ◌==◌, false, ℕ, ◌+◌, ◌<◌, List, [], ◌∷◌, ◌++◌, length, take, map, get_or}
use Rattle.std.proofs.Common.{refl, sym, ◌∙◌, ap, arith, append_assoc}
use Rattle.std.specs.Fmt.{decimal}
use Rattle.std.specs.List.{concat}
use Rattle.std.specs.Prelude.{codes}
use Rattle.std.proofs.lemmas.List.{append-nil, length-take-le, map_more, take_more}
use Rattle.journal.specs.Spelling.{line_text, layout_fields, upper_lines, entry_fields, journal_bytes}
use Rattle.journal.specs.declared.entries.Entry.{Entry}
use Rattle.journal.specs.declared.layouts.Layout.{Layout}
use Rattle.report_text.proofs.SpacedFields.{line_put}
use Rattle.report_text.specs.Internal.Spaced.{spaced}

-- the text of some lines
abbrev pub lines_text : List (List (List ℕ)) → List ℕ
lines_text lines = concat (map line_text lines)

lines_text-append : (some more : List (List (List ℕ))) → lines_text (some ++ more) ≡ lines_text some ++ lines_text more
lines_text-append [] more = refl
lines_text-append (line ∷ some) more =
    ap (λ (l : List ℕ). line_text line ++ l) (lines_text-append some more)
    ∙ sym (append_assoc (line_text line) (lines_text some) (lines_text more))

lines_text-more : (before so_far after last : List ℕ) (lines more : List (List (List ℕ))) →
    so_far ≡ before ++ lines_text lines → after ≡ so_far ++ last → last ≡ lines_text more →
    after ≡ before ++ lines_text (lines ++ more)
lines_text-more before so_far after last lines more kept put is =
    put ∙ ap (λ (l : List ℕ). l ++ last) kept ∙ append_assoc before (lines_text lines) last
    ∙ ap (λ (l : List ℕ). before ++ (lines_text lines ++ l)) is
    ∙ ap (λ (l : List ℕ). before ++ l) (sym (lines_text-append lines more))

-- one page after some pages
upper_lines-append : (page at : ℕ) (uppers : List (List ℕ)) (listed : List ℕ) → at ≡ page + length uppers →
    upper_lines page (uppers ++ listed ∷ []) ≡ upper_lines page uppers ++ upper_lines at (listed ∷ [])
upper_lines-append page at [] listed e =
    let same : page ≡ at = omega (arith, e) in ap (λ (p : ℕ). upper_lines p (listed ∷ [])) same
upper_lines-append page at ([] ∷ uppers) listed e = upper_lines-append (page + 1) at uppers listed (omega (arith, e))
upper_lines-append page at ((upper ∷ others) ∷ uppers) listed e =
    ap (λ (lines : List (List (List ℕ))). (codes "upper" ∷ decimal page ∷ decimal upper ∷ map decimal others) ∷ lines)
    (upper_lines-append (page + 1) at uppers listed (omega (arith, e)))

pub uppers_more : (before so_far after listed : List ℕ) (uppers : List (List ℕ)) (i : ℕ) → i < length uppers →
    listed ≡ get_or uppers i listed → so_far ≡ before ++ lines_text (upper_lines 0 (take i uppers)) →
    after ≡ so_far ++ lines_text (upper_lines i (listed ∷ [])) →
    after ≡ before ++ lines_text (upper_lines 0 (take (i + 1) uppers))
uppers_more before so_far after listed uppers i within is kept put =
    let whole : length (take i uppers) ≡ i = length-take-le i uppers (omega arith) in
    lines_text-more before so_far after (lines_text (upper_lines i (listed ∷ []))) (upper_lines 0 (take i uppers))
    (upper_lines i (listed ∷ [])) kept put refl
    ∙ ap (λ (lines : List (List (List ℕ))). before ++ lines_text lines)
    (sym (upper_lines-append 0 i (take i uppers) listed (omega (arith, whole))))
    ∙ ap (λ (last : List ℕ). before ++ lines_text (upper_lines 0 (take i uppers ++ last ∷ []))) is
    ∙ ap (λ (lists : List (List ℕ)). before ++ lines_text (upper_lines 0 lists)) (sym
    (take_more uppers i listed within))

pub entries_more : (before so_far after : List ℕ) (entries : List Entry) (entry : Entry) (i : ℕ) → i < length entries →
    entry ≡ get_or entries i entry → so_far ≡ before ++ lines_text (map entry_fields (take i entries)) →
    after ≡ so_far ++ line_text (entry_fields entry) →
    after ≡ before ++ lines_text (map entry_fields (take (i + 1) entries))
entries_more before so_far after entries entry i within is kept put =
    lines_text-more before so_far after (line_text (entry_fields entry)) (map entry_fields (take i entries))
    (entry_fields entry ∷ []) kept put (sym (append-nil (line_text (entry_fields entry))))
    ∙ ap (λ (last : Entry). before ++ lines_text (map entry_fields (take i entries) ++ entry_fields last ∷ [])) is
    ∙ ap (λ (lines : List (List (List ℕ))). before ++ lines_text lines) (sym
    (map_more entry_fields entries i entry within))

-- the line of a page with uppers, piece by piece
pub upper_put : (before a b c after listed : List ℕ) (page : ℕ) → (length listed == 0) ≡ false →
    a ≡ before ++ codes "upper" →
    b ≡ a ++ 32 ∷ decimal page → c ≡ b ++ spaced (map decimal listed) → after ≡ c ++ 10 ∷ [] →
    after ≡ before ++ lines_text (upper_lines page (listed ∷ []))
upper_put before a b c after [] page some begun number uppers ended = cc
upper_put before a b c after (upper ∷ others) page some begun number uppers ended =
    let listed : List (List ℕ) = map decimal (upper ∷ others) in
    line_put before after (codes "upper") (decimal page ∷ listed)
    (ended ∙ ap (λ (l : List ℕ). l ++ 10 ∷ [])
    (uppers ∙ ap (λ (l : List ℕ). l ++ spaced listed) (number ∙ ap (λ (l : List ℕ). l ++ 32 ∷ decimal page) begun)
    ∙ append_assoc (before ++ codes "upper") (32 ∷ decimal page) (spaced listed)))
    ∙ ap (λ (l : List ℕ). before ++ l) (sym (append-nil (line_text (codes "upper" ∷ decimal page ∷ listed))))

-- the text of a journal, part by part
pub journal_put : (a b c d : List ℕ) (layout : Layout) (entries : List Entry) → a ≡ [] →
    b ≡ a ++ line_text (layout_fields layout) → c ≡ b ++ lines_text (upper_lines 0 layout.uppers) →
    d ≡ c ++ lines_text (map entry_fields entries) → d ≡ journal_bytes layout entries
journal_put a b c d layout entries empty head uppers each =
    let first : List ℕ = line_text (layout_fields layout) in
    let some : List (List (List ℕ)) = upper_lines 0 layout.uppers in
    let more : List (List (List ℕ)) = map entry_fields entries in
    each ∙ ap (λ (l : List ℕ). l ++ lines_text more)
    (uppers ∙ ap (λ (l : List ℕ). l ++ lines_text some) (head ∙ ap (λ (l : List ℕ). l ++ first) empty))
    ∙ append_assoc first (lines_text some) (lines_text more)
    ∙ ap (λ (l : List ℕ). first ++ l) (sym (lines_text-append some more))

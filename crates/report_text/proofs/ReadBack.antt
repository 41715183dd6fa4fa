-- A report reads back: the lines of its frames are comments, and a journal's text spells the same journal at any line.
use Rattle.std.proofs.Common.{◌≡◌, ℕ, ◌+◌, List, [], ◌∷◌, ◌++◌, Bool, true, false, Option, None, Some, Result, Ok}
use Rattle.std.proofs.Common.{Err, append_assoc, refl, ap, ◌∙◌}
use Rattle.std.specs.Prelude.{if◌then◌else◌, flat_map}
use Rattle.std.specs.List.{All}
use Rattle.std.specs.Option.{option_map_or}
use Rattle.journal.proofs.Cuts.{lines_of_line, no_lf}
use Rattle.journal.proofs.PrintedJournal.{reads_back}
use Rattle.std.proofs.lemmas.List.Elements.{All-cons}
use Rattle.journal.specs.Grammar.{fields_of, is_comment, journal_of, lines_of, read_from, with_line}
use Rattle.journal.specs.Layout.{InBounds}
use Rattle.journal.specs.Spelling.{journal_bytes}
use Rattle.journal.specs.Typed.{IsTyped}
use Rattle.journal.specs.declared.entries.Entry.{Entry}
use Rattle.journal.specs.declared.journals.Journal.{Journal}
use Rattle.journal.specs.declared.layouts.Layout.{Layout}
use Rattle.report_text.proofs.ClearTexts.{AreClear, IsClear, frame_lines-clear}
use Rattle.report_text.specs.FrameText.{comment_line, frame_lines, frame_text_of}
use Rattle.report_text.specs.Report.{report_of}
use Rattle.report_text.specs.declared.frame_records.FrameRecord.{FrameRecord}

-- one line, and then the lines after it
line_anywhere : (comment : Bool) (so_far next : Option Journal) (read other : Option Journal → Result Journal ℕ)
    (n m : ℕ) (journal : Journal) → ((found : Option Journal) → read found ≡ Ok journal → other found ≡ Ok journal) →
    (if comment then read so_far else option_map_or (λ found. read (Some found)) next (Err n)) ≡ Ok journal →
    (if comment then other so_far else option_map_or (λ found. other (Some found)) next (Err m)) ≡ Ok journal
line_anywhere true so_far next read other n m journal after e = after so_far e
line_anywhere false so_far None read other n m journal after e = cc
line_anywhere false so_far (Some found) read other n m journal after e = after (Some found) e

-- lines that spell a journal spell it whatever the number of the first
anywhere : (lines : List (List ℕ)) (so_far : Option Journal) (n m : ℕ) (journal : Journal) →
    read_from so_far n lines ≡ Ok journal → read_from so_far m lines ≡ Ok journal
anywhere [] None n m journal e = cc
anywhere [] (Some so_far) n m journal e = e
anywhere (text ∷ rest) so_far n m journal e =
    line_anywhere (is_comment text) so_far (with_line so_far (fields_of text)) (λ found. read_from found (n + 1) rest)
    (λ found. read_from found (m + 1) rest) n m journal
    (λ found is. anywhere rest found (n + 1) (m + 1) journal is) e

-- a comment line is the first line of a text that begins with it
comment_first : (text rest : List ℕ) → IsClear text →
    lines_of (comment_line text ++ rest) ≡ (35 ∷ 32 ∷ text) ∷ lines_of rest
comment_first text rest clear =
    ap (λ (l : List ℕ). lines_of (35 ∷ 32 ∷ l)) (append_assoc text (10 ∷ []) rest)
    ∙ lines_of_line (35 ∷ 32 ∷ text) rest (All-cons no_lf 35 (32 ∷ text) refl (All-cons no_lf 32 text refl clear))

-- the text after some comment lines spells what it spells alone
comments_read : (texts : List (List ℕ)) (rest : List ℕ) (journal : Journal) (n : ℕ) → AreClear texts →
    ((m : ℕ) → read_from None m (lines_of rest) ≡ Ok journal) →
    read_from None n (lines_of (flat_map comment_line texts ++ rest)) ≡ Ok journal
comments_read [] rest journal n clear after = after n
comments_read (text ∷ texts) rest journal n clear after =
    let others : List ℕ = flat_map comment_line texts ++ rest in
    ap (λ (l : List ℕ). read_from None n (lines_of l)) (append_assoc (comment_line text)
    (flat_map comment_line texts) rest)
    ∙ ap (read_from None n) (comment_first text others clear.0)
    ∙ comments_read texts rest journal (n + 1) clear.1 after

frame_read : (shown : FrameRecord) (rest : List ℕ) (journal : Journal) (n : ℕ) →
    ((m : ℕ) → read_from None m (lines_of rest) ≡ Ok journal) →
    read_from None n (lines_of (frame_text_of shown ++ rest)) ≡ Ok journal
unfolding frame_text_of
frame_read shown rest journal n after = comments_read (frame_lines shown) rest journal n (frame_lines-clear shown) after

frames_read : (records : List FrameRecord) (rest : List ℕ) (journal : Journal) (n : ℕ) →
    ((m : ℕ) → read_from None m (lines_of rest) ≡ Ok journal) →
    read_from None n (lines_of (flat_map frame_text_of records ++ rest)) ≡ Ok journal
frames_read [] rest journal n after = after n
frames_read (shown ∷ records) rest journal n after =
    ap (λ (l : List ℕ). read_from None n (lines_of l)) (append_assoc (frame_text_of shown)
    (flat_map frame_text_of records) rest)
    ∙ frame_read shown (flat_map frame_text_of records ++ rest) journal n
    (λ m. frames_read records rest journal m after)

-- the law
pub report_reads_back : (records : List FrameRecord) (layout : Layout) (entries : List Entry) → InBounds layout →
    All IsTyped entries → journal_of (report_of records layout entries) ≡ Ok
    (record { layout = layout; entries = entries })
report_reads_back records layout entries h typed =
    frames_read records (journal_bytes layout entries) (record { layout = layout; entries = entries }) 1
    (λ m. anywhere (lines_of (journal_bytes layout entries)) None 1 m (record { layout = layout; entries = entries })
    (reads_back layout entries h typed))

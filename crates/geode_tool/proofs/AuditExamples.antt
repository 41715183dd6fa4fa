-- Worked examples of what an audit answers and writes, computed by the checker.
use Rattle.std.proofs.Common.{◌≡◌, ℕ, List, [], ◌∷◌, ◌++◌, Some, None, Ok, Err, codes, replicate, refl}
use Rattle.std.specs.Fmt.{digits}
use Rattle.std.specs.List.{join_with_byte}
use Rattle.hex.specs.Hex.{decode_pairs}
use Rattle.journal.specs.Grammar.{number_of, digest_of, single_number_of, frame_and_pages_of, pages_until_missing_of}
use Rattle.journal.specs.Grammar.{settle_of, take_of, install_of, fail_of, spoilt_digest_of, spoilt_grammar_of}
use Rattle.journal.specs.Grammar.{spoilt_short_of, spoilt_of, spoil_of, event_without_list_of, event_of, entry_of}
use Rattle.journal.specs.Grammar.{layout_of, with_upper, with_entry, with_line, with_all_uppers}
use Rattle.geode_tool.specs.declared.commands.Command.TheVariants.{Audit}
use Rattle.geode_tool.specs.declared.faults.Fault.TheVariants.{BadJournal, Illegal}
use Rattle.geode_tool.specs.Audit.{audit_answer, verdict_text}
use Rattle.geode_tool.specs.Words.{command_words, draw_words, make_words}

-- the words
pub command_words-audit : command_words (codes "audit" ∷ []) ≡ Some Audit
unfolding command_words
command_words-audit = refl

pub command_words-none : command_words [] ≡ None
unfolding command_words draw_words make_words
command_words-none = refl

pub command_words-more : command_words (codes "audit" ∷ codes "-" ∷ []) ≡ None
unfolding command_words draw_words make_words
command_words-more = refl

-- what the reading of a literal unfolds
unfoldable reading : ℕ
unfolding audit_answer number_of digest_of single_number_of frame_and_pages_of pages_until_missing_of settle_of take_of
    install_of fail_of spoilt_digest_of spoilt_grammar_of spoilt_short_of spoilt_of spoil_of event_without_list_of
    event_of entry_of layout_of with_upper with_entry with_line with_all_uppers decode_pairs
reading = 0

-- the lines, each ended by a line feed
abbrev text_of : List (List ℕ) → List ℕ
text_of lines = join_with_byte 10 (lines ++ [] ∷ [])

-- a load of page `page` by maker 0 for frame 0
abbrev load : List ℕ → List (List ℕ)
load page =
    (codes "0 take 0 " ++ page ++ codes " -") ∷ (codes "0 install " ++ page ++ codes " " ++ replicate 64 48) ∷ []

-- page 2 stands on the pages 0 and 1, page 1 on page 0
abbrev shared : List (List ℕ)
shared =
    codes "layout 3 1 3" ∷ codes "upper 1 0" ∷ codes "upper 2 0 1" ∷ codes "0 pin 0"
    ∷ codes "0 settle 0 pages 0 missing 1 2" ∷ []

-- each page after its uppers
pub audit_answer-loaded : audit_answer (text_of (shared ++ load (codes "1") ++ load (codes "2"))) ≡ Ok 6
unfolding reading
audit_answer-loaded = refl

-- page 2 before its upper 1
pub audit_answer-too_soon : audit_answer (text_of (shared ++ codes "0 take 0 2 -" ∷ [])) ≡ Err (Illegal 2)
unfolding reading
audit_answer-too_soon = refl

-- a layout alone, no bytes, a leading zero
pub audit_answer-layout : audit_answer (codes "layout 1 1 1") ≡ Ok 0
unfolding reading
audit_answer-layout = refl

pub audit_answer-empty : audit_answer [] ≡ Err (BadJournal 1)
unfolding reading
audit_answer-empty = refl

pub audit_answer-zero_first : audit_answer (text_of (codes "layout 1 1 1" ∷ codes "0 pin 01" ∷ [])) ≡ Err (BadJournal 2)
unfolding reading
audit_answer-zero_first = refl

-- comments are no entries, and count as lines
pub audit_answer-report : audit_answer (text_of
    (codes "# frame 0" ∷ codes "layout 1 1 1" ∷ codes "#" ∷ codes "0 stop" ∷ [])) ≡ Ok 1
unfolding reading
audit_answer-report = refl

pub audit_answer-report_line : audit_answer
    (text_of (codes "# frame 0" ∷ codes "layout 1 1 1" ∷ codes "#" ∷ codes "stop" ∷ [])) ≡ Err (BadJournal 4)
unfolding reading
audit_answer-report_line = refl

-- two pages, of which neither stands on the other, in two slots, and these entries
abbrev two : List (List ℕ) → List ℕ
two entries = text_of (codes "layout 2 1 2" ∷ entries)

-- a frame that ended, another maker, a second stop, a failed load whose count of faults didn't rise
pub audit_answer-pin_again : audit_answer (two (codes "0 pin 0" ∷ codes "0 unpin 0" ∷ codes "0 pin 0" ∷ [])) ≡ Err
    (Illegal 2)
unfolding reading
audit_answer-pin_again = refl

pub audit_answer-other_maker : audit_answer (two (codes "0 pin 0" ∷ codes "1 unpin 0" ∷ [])) ≡ Err (Illegal 1)
unfolding reading
audit_answer-other_maker = refl

pub audit_answer-stop_again : audit_answer (two (codes "0 stop" ∷ codes "0 stop" ∷ [])) ≡ Err (Illegal 1)
unfolding reading
audit_answer-stop_again = refl

pub audit_answer-fail_unraised : audit_answer
    (two (codes "0 pin 0" ∷ codes "0 settle 0 pages 0 missing 1" ∷ codes "0 take 0 1 -" ∷ codes "0 fail 1 3 3" ∷ [])) ≡
    Err (Illegal 3)
unfolding reading
audit_answer-fail_unraised = refl

-- a line outside the grammar counts before an entry that isn't allowed
pub audit_answer-line_first : audit_answer (two (codes "0 stop" ∷ codes "0 stop" ∷ codes "stop" ∷ [])) ≡ Err
    (BadJournal 4)
unfolding reading
audit_answer-line_first = refl

-- the verdict's text
pub verdict_text-none : verdict_text 0 ≡ codes "legal 0\n"
unfolding verdict_text digits
verdict_text-none = refl

pub verdict_text-sixteen : verdict_text 16 ≡ codes "legal 16\n"
unfolding verdict_text digits
verdict_text-sixteen = refl

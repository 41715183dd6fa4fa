-- Worked examples of the text of a journal, computed.
use Rattle.std.proofs.Common.{◌≡◌, ℕ, List, [], ◌∷◌, ◌++◌, None, Some, Result, Ok, Err, codes, replicate, refl}
use Rattle.std.specs.Fmt.{digits}
use Rattle.std.specs.List.{join_with_byte}
use Rattle.hex.specs.Hex.{decode_pairs, encode_with}
use Rattle.geom_core.specs.declared.digests.Digest32.{Digest32}
use Rattle.journal.specs.Grammar.{journal_of, number_of, digest_of, single_number_of, frame_and_pages_of}
use Rattle.journal.specs.Grammar.{pages_until_missing_of, settle_of, take_of, install_of, fail_of, spoilt_digest_of}
use Rattle.journal.specs.Grammar.{spoilt_grammar_of, spoilt_short_of, spoilt_of, spoil_of, event_without_list_of}
use Rattle.journal.specs.Grammar.{event_of, entry_of, layout_of, with_upper, with_entry, with_line, with_all_uppers}
use Rattle.journal.specs.FieldNumber.{number_in}
use Rattle.journal.specs.LineResult.{line_result}
use Rattle.journal.specs.Spelling.{journal_bytes}
use Rattle.journal.specs.declared.numbers.Field.TheVariants.{Number, Dash}
use Rattle.journal.specs.declared.reading.LineResult.TheVariants.{Comment, Accepted, Bad}
use Rattle.journal.specs.declared.entries.Entry.{Entry}
use Rattle.journal.specs.declared.entries.Spoilt.TheVariants.{Digest, Grammar, Short}
use Rattle.journal.specs.declared.entries.What.TheVariants.{Pin, Settle, Ask, Narrow, Unpin, Take, Install, Fail, Spoil}
use Rattle.journal.specs.declared.entries.What.TheVariants.{Starve, Full, Stop}
use Rattle.journal.specs.declared.journals.Journal.{Journal}
use Rattle.journal.specs.declared.layouts.Layout.{Layout}

-- what the reading of a literal unfolds
unfoldable reading : ℕ
unfolding number_of digest_of single_number_of frame_and_pages_of pages_until_missing_of settle_of take_of install_of
    fail_of spoilt_digest_of spoilt_grammar_of spoilt_short_of spoilt_of spoil_of event_without_list_of event_of
    entry_of layout_of with_upper with_entry with_line with_all_uppers decode_pairs digits encode_with
reading = 0

-- the lines, with an LF between each two and none at the end
abbrev text_of : List (List ℕ) → List ℕ
text_of lines = join_with_byte 10 lines

-- the layout of one page, which is a root page, in one slot
abbrev least : Layout
least = record { pages = 1; roots = 1; slots = 1; uppers = [] ∷ [] }

-- five pages, of which 1, 2 and 4 have uppers
abbrev sample : Layout
sample = record { pages = 5; roots = 1; slots = 4; uppers = [] ∷ (0 ∷ []) ∷ (0 ∷ 1 ∷ []) ∷ [] ∷ (2 ∷ []) ∷ [] }

-- 64 digits `0`, and 62 of them before `a7`
abbrev zeros_digest : Digest32
zeros_digest = record { bytes = replicate 32 0 }

abbrev other_digest : Digest32
other_digest = record { bytes = replicate 31 0 ++ 167 ∷ [] }

abbrev zeros_text : List ℕ
zeros_text = replicate 64 48

abbrev other_text : List ℕ
other_text = replicate 62 48 ++ codes "a7"

-- an entry of each kind, and a spoilt load of each kind
abbrev sample_entries : List Entry
sample_entries =
    record { by = 0; what = Pin 7 }
    ∷ record { by = 0; what = Settle 7 (0 ∷ 1 ∷ []) (3 ∷ []) }
    ∷ record { by = 0; what = Settle 7 [] [] }
    ∷ record { by = 12; what = Ask 1 (4 ∷ 10 ∷ []) }
    ∷ record { by = 0; what = Narrow 7 [] }
    ∷ record { by = 0; what = Unpin 7 }
    ∷ record { by = 3; what = Take (Some 7) 3 None }
    ∷ record { by = 3; what = Take None 2 (Some 1) }
    ∷ record { by = 3; what = Install 3 zeros_digest }
    ∷ record { by = 4; what = Fail 2 0 18446744073709551615 }
    ∷ record { by = 4; what = Spoil 2 (Digest zeros_digest other_digest) }
    ∷ record { by = 4; what = Spoil 2 (Grammar 255 65536) }
    ∷ record { by = 4; what = Spoil 2 (Short 65504) }
    ∷ record { by = 4; what = Starve 4294967295 }
    ∷ record { by = 0; what = Full 7 }
    ∷ record { by = 0; what = Stop }
    ∷ []

abbrev sample_lines : List (List ℕ)
sample_lines =
    codes "layout 5 1 4"
    ∷ codes "upper 1 0"
    ∷ codes "upper 2 0 1"
    ∷ codes "upper 4 2"
    ∷ codes "0 pin 7"
    ∷ codes "0 settle 7 pages 0 1 missing 3"
    ∷ codes "0 settle 7 pages - missing -"
    ∷ codes "12 ask 1 pages 4 10"
    ∷ codes "0 narrow 7 pages -"
    ∷ codes "0 unpin 7"
    ∷ codes "3 take 7 3 -"
    ∷ codes "3 take - 2 1"
    ∷ (codes "3 install 3 " ++ zeros_text)
    ∷ codes "4 fail 2 0 18446744073709551615"
    ∷ (codes "4 spoil 2 digest " ++ zeros_text ++ codes " " ++ other_text)
    ∷ codes "4 spoil 2 grammar 255 65536"
    ∷ codes "4 spoil 2 short 65504"
    ∷ codes "4 starve 4294967295"
    ∷ codes "0 full 7"
    ∷ codes "0 stop"
    ∷ []

-- the text that the sample prints
sample_printed : journal_bytes sample sample_entries ≡ text_of (sample_lines ++ [] ∷ [])
unfolding reading
sample_printed = refl

-- and it reads back, with its last LF or without
sample_read : journal_of (text_of (sample_lines ++ [] ∷ [])) ≡ Ok (record { layout = sample; entries = sample_entries })
unfolding reading
sample_read = refl

sample_unended : journal_of (text_of sample_lines) ≡ Ok (record { layout = sample; entries = sample_entries })
unfolding reading
sample_unended = refl

-- `layout 1 1 1` alone is a journal without entries
layout_alone : journal_of (codes "layout 1 1 1") ≡ Ok (record { layout = least; entries = [] })
unfolding reading
layout_alone = refl

-- lines that begin with `#` say nothing, and count
comments : journal_of (text_of (codes "# by hand" ∷ codes "layout 1 1 1" ∷ codes "#" ∷ codes "1 stop" ∷ [])) ≡ Ok
    (record { layout = least; entries = record { by = 1; what = Stop } ∷ [] })
unfolding reading
comments = refl

-- the texts that lack the line of the layout: the empty one, and one with a comment alone
no_line : journal_of [] ≡ Err 1
unfolding reading
no_line = refl

comment_alone : journal_of (text_of (codes "#" ∷ [] ∷ [])) ≡ Err 2
unfolding reading
comment_alone = refl

-- the answer at a layout of three pages and one line more, which is the third
abbrev third : List ℕ → Result Journal ℕ
third line = journal_of (text_of (codes "layout 3 1 3" ∷ codes "#" ∷ line ∷ []))

-- lines outside the grammar: a leading zero, a field too few, a sign, a number past its type
leading_zero : third (codes "0 pin 01") ≡ Err 3
unfolding reading
leading_zero = refl

no_victim : third (codes "0 take - 1") ≡ Err 3
unfolding reading
no_victim = refl

signed : third (codes "0 pin +1") ≡ Err 3
unfolding reading
signed = refl

past_type : third (codes "0 pin 4294967296") ≡ Err 3
unfolding reading
past_type = refl

-- two spaces, a blank at the end, a carriage return, nothing at all
two_spaces : third (codes "0 pin  1") ≡ Err 3
unfolding reading
two_spaces = refl

blank_at_end : third (codes "0 pin 1 ") ≡ Err 3
unfolding reading
blank_at_end = refl

carriage_return : third (codes "0 pin 1" ++ 13 ∷ []) ≡ Err 3
unfolding reading
carriage_return = refl

nothing : third ([] ++ 10 ∷ codes "0 stop") ≡ Err 3
unfolding reading
nothing = refl

-- an upper that isn't below its page, uppers that don't ascend, no upper
upper_of_itself : third (codes "upper 1 1") ≡ Err 3
unfolding reading
upper_of_itself = refl

uppers_fall : third (codes "upper 2 1 0") ≡ Err 3
unfolding reading
uppers_fall = refl

uppers_none : third (codes "upper 2 -") ≡ Err 3
unfolding reading
uppers_none = refl

-- the page of an upper line is past those before it, and below the number of pages
upper_twice : journal_of (text_of (codes "layout 3 1 3" ∷ codes "upper 1 0" ∷ codes "upper 1 0" ∷ [])) ≡ Err 3
unfolding reading
upper_twice = refl

upper_past : third (codes "upper 3 0") ≡ Err 3
unfolding reading
upper_past = refl

-- an upper line behind an entry, a second layout, slots below the root pages
upper_late : journal_of (text_of (codes "layout 3 1 3" ∷ codes "0 stop" ∷ codes "upper 1 0" ∷ [])) ≡ Err 3
unfolding reading
upper_late = refl

layout_twice : third (codes "layout 3 1 3") ≡ Err 3
unfolding reading
layout_twice = refl

slots_few : journal_of (codes "layout 3 2 1") ≡ Err 1
unfolding reading
slots_few = refl

-- a digest with an upper case digit, or with 63 digits
upper_case : third (codes "0 install 1 A" ++ replicate 63 48) ≡ Err 3
unfolding reading
upper_case = refl

short_digest : third (codes "0 install 1 " ++ replicate 63 48) ≡ Err 3
unfolding reading
short_digest = refl

-- one line after none: a comment, the layout, and a line that comes too early
line_comment : line_result None (codes "# layout 1 1 1") ≡ Comment
unfolding reading line_result
line_comment = refl

line_accepted : line_result None (codes "layout 1 1 1") ≡ Accepted
    (record { layout = record least { uppers = [] }; entries = [] })
unfolding reading line_result
line_accepted = refl

line_early : line_result None (codes "0 stop") ≡ Bad
unfolding reading line_result
line_early = refl

-- the number of a field, and that of `-`
number_in_field : (n : ℕ) → number_in (Number n) ≡ Some n
number_in_field n = refl

number_in_dash : number_in Dash ≡ None
number_in_dash = refl

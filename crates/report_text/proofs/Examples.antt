-- Worked examples of the definitions, computed by the checker.
use Rattle.std.proofs.Common.{◌≡◌, ℕ, List, [], ◌∷◌, ◌++◌, None, Some, replicate, refl}
use Rattle.std.specs.Prelude.{codes}
use Rattle.std.specs.Fmt.{digits}
use Rattle.hex.specs.Hex.{encode_with}
use Rattle.journal.specs.declared.entries.Entry.{Entry}
use Rattle.journal.specs.declared.entries.What.TheVariants.{Stop}
use Rattle.journal.specs.declared.layouts.Layout.{Layout}
use Rattle.report_text.specs.FrameText.{frame_lines, frame_text_of}
use Rattle.report_text.specs.PictureText.{word_text, row_text, picture_text_of}
use Rattle.report_text.specs.Report.{report_of}
use Rattle.report_text.specs.declared.frame_records.FrameRecord.{FrameRecord}

pub word_text-zero : word_text 0 ≡ codes "0000000000000000"
unfolding word_text encode_with
word_text-zero = refl

pub word_text-digits : word_text 0x0123456789abcdef ≡ codes "0123456789abcdef"
unfolding word_text encode_with
word_text-digits = refl

pub word_text-nearer : word_text 0x9af286b800000000 ≡ codes "9af286b800000000"
unfolding word_text encode_with
word_text-nearer = refl

abbrev lit : ℕ
lit = 0x7ffffffc00000000

-- the picture of one triangle, four pixels by four
abbrev words : List ℕ
words = 0 ∷ 0 ∷ 0 ∷ 0 ∷ 0 ∷ 0 ∷ lit ∷ 0 ∷ 0 ∷ lit ∷ lit ∷ 0 ∷ 0 ∷ 0 ∷ 0 ∷ 0 ∷ []

pub picture_text_of-one : picture_text_of words 4 ≡
    codes "0000000000000000 0000000000000000 0000000000000000 0000000000000000\n"
    ++ codes "0000000000000000 0000000000000000 7ffffffc00000000 0000000000000000\n"
    ++ codes "0000000000000000 7ffffffc00000000 7ffffffc00000000 0000000000000000\n"
    ++ codes "0000000000000000 0000000000000000 0000000000000000 0000000000000000\n"
unfolding picture_text_of row_text word_text encode_with
picture_text_of-one = refl

-- a picture that is not square: three words a row, two rows
pub picture_text_of-wide : picture_text_of (1 ∷ 2 ∷ 3 ∷ 4 ∷ 5 ∷ 16 ∷ []) 3 ≡
    codes "0000000000000001 0000000000000002 0000000000000003\n"
    ++ codes "0000000000000004 0000000000000005 0000000000000010\n"
unfolding picture_text_of row_text word_text encode_with
picture_text_of-wide = refl

-- a frame that is not printed, and a frame of two pixels by two that is
abbrev first_frame : FrameRecord
first_frame = record {
  frame = 0;
  at = 7;
  resident = 0 ∷ 2 ∷ [];
  missing = 1 ∷ [];
  nodes = 4;
  lit = 128;
  digest = record { bytes = replicate 31 0 ++ 167 ∷ [] };
  cut = 0 ∷ 3 ∷ [];
  rows = None;
}

abbrev second_frame : FrameRecord
second_frame = record {
  frame = 1;
  at = 14;
  resident = [];
  missing = [];
  nodes = 0;
  lit = 1;
  digest = record { bytes = replicate 32 255 };
  cut = [];
  rows = Some (record { words = 0 ∷ 16 ∷ 0 ∷ 0 ∷ []; width = 2 });
}

-- a journal of one page and one entry
abbrev least : Layout
least = record { pages = 1; roots = 1; slots = 1; uppers = [] ∷ [] }

abbrev stopped : Entry
stopped = record { by = 0; what = Stop }

pub report_of-two : report_of (first_frame ∷ second_frame ∷ []) least (stopped ∷ []) ≡
    codes "# frame 0 at 7 resident 0 2 missing 1 nodes 4 lit 128 sha256 " ++ replicate 62 48 ++ codes "a7\n"
    ++ codes "# cut 0 3\n"
    ++ codes "# frame 1 at 14 resident - missing - nodes 0 lit 1 sha256 " ++ replicate 64 102 ++ codes "\n"
    ++ codes "# cut -\n"
    ++ codes "# 0000000000000000 0000000000000010\n"
    ++ codes "# 0000000000000000 0000000000000000\n"
    ++ codes "layout 1 1 1\n"
    ++ codes "0 stop\n"
unfolding frame_text_of frame_lines row_text word_text encode_with digits
report_of-two = refl

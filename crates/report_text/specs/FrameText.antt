-- The text of a frame: two comment lines, and one for each picture row of a printed frame.
use Rattle.std.specs.Prelude.{◌≡◌, ℕ, ◌/◌, ◌%◌, List, [], ◌∷◌, ◌++◌, Option, None, Some, length, map}
use Rattle.std.specs.Prelude.{flat_map, codes}
use Rattle.std.specs.List.{join_with_byte, range_with_len}
use Rattle.std.specs.Fmt.{decimal}
use Rattle.hex.specs.Hex.{encode_lower}
use Rattle.geom_core.specs.Limits.{IsSide}
use Rattle.journal.specs.Spelling.{list_fields}
use Rattle.report_text.specs.PictureText.{row_text, row_of}
use Rattle.report_text.specs.declared.frame_records.FrameRecord.{FrameRecord}
use Rattle.report_text.specs.declared.frame_records.PictureRows.{PictureRows}

-- rows of a picture's width, all of them whole
pub record HasWholeRows (rows : PictureRows) : Type 0 where
  pub side : IsSide rows.width
  pub whole_rows : length rows.words % rows.width ≡ 0

-- `# `, the text and a line feed
abbrev pub comment_line : List ℕ → List ℕ
comment_line text = codes "# " ++ text ++ 10 ∷ []

-- `nodes N lit K sha256 DIGEST`
abbrev pub count_fields : FrameRecord → List (List ℕ)
count_fields shown =
    codes "nodes" ∷ decimal shown.nodes ∷ codes "lit" ∷ decimal shown.lit ∷
    codes "sha256" ∷ encode_lower shown.digest.bytes ∷ []

-- `frame F at A resident L missing L`, and those fields
abbrev pub frame_fields : FrameRecord → List (List ℕ)
frame_fields shown =
    codes "frame" ∷ decimal shown.frame ∷ codes "at" ∷ decimal shown.at ∷
    codes "resident" ∷ (list_fields shown.resident ++
    codes "missing" ∷ (list_fields shown.missing ++ count_fields shown))

-- `cut L`
abbrev pub cut_fields : FrameRecord → List (List ℕ)
cut_fields shown = codes "cut" ∷ list_fields shown.cut

-- the texts of a printed frame's picture rows, from the top down
abbrev pub row_texts : Option PictureRows → List (List ℕ)
row_texts None = []
row_texts (Some rows) =
    map (λ j. row_text (row_of rows.words rows.width j)) (range_with_len 0 (length rows.words / rows.width))

-- what each line of a frame has after `# `
unfoldable pub frame_lines : FrameRecord → List (List ℕ)
frame_lines shown =
    join_with_byte 32 (frame_fields shown) ∷ join_with_byte 32 (cut_fields shown) ∷ row_texts shown.rows

-- the text of a frame
unfoldable pub frame_text_of : FrameRecord → List ℕ
frame_text_of shown = flat_map comment_line (frame_lines shown)

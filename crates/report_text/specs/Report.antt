-- The text of a report: the texts of the frames in order, and then the journal's.
use Rattle.std.specs.Prelude.{ℕ, List, ◌++◌, flat_map}
use Rattle.journal.specs.Spelling.{journal_bytes}
use Rattle.journal.specs.declared.entries.Entry.{Entry}
use Rattle.journal.specs.declared.layouts.Layout.{Layout}
use Rattle.report_text.specs.FrameText.{frame_text_of}
use Rattle.report_text.specs.declared.frame_records.FrameRecord.{FrameRecord}

abbrev pub report_of : List FrameRecord → Layout → List Entry → List ℕ
report_of records layout entries = flat_map frame_text_of records ++ journal_bytes layout entries

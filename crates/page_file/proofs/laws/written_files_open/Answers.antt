use Rattle.page_file.proofs.Written.{opening-written}
use Rattle.page_file.proofs.laws.written_files_open.Goals as goal

pub returns : goal.returns
returns c = record { opened = opening-written }

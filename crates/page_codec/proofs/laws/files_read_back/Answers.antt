use Rattle.page_codec.proofs.FileLaws.{file-header, file-directory, file-page}
use Rattle.page_codec.proofs.laws.files_read_back.Goals as goal

pub returns-clause-header : goal.returns-clause-header
returns-clause-header c = file-header

pub returns-clause-directory : goal.returns-clause-directory
returns-clause-directory c = file-directory

pub returns-clause-page : goal.returns-clause-page
returns-clause-page c = file-page

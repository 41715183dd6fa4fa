use Rattle.page_codec.proofs.DirectorySpelt.{directory_of-spelt, first_directory_break-spelt}
use Rattle.page_codec.proofs.laws.directories_read_back.Goals as goal

pub returns-clause-no_break : goal.returns-clause-no_break
returns-clause-no_break c = first_directory_break-spelt

pub returns-clause-directory : goal.returns-clause-directory
returns-clause-directory c = directory_of-spelt

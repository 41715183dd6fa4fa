use Rattle.page_file.proofs.StoredDags.{verifying-sound}
use Rattle.page_file.proofs.laws.built_files_verify.Goals as goal

pub returns : goal.returns
returns c = record { verified = verifying-sound }

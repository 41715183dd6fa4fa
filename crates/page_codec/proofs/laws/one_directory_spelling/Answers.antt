use Rattle.std.proofs.Common.{sym, ap, ◌∙◌}
use Rattle.dag_core.specs.Ranges.{counts_of}
use Rattle.page_codec.specs.Reading.{directory_of}
use Rattle.page_codec.specs.Spelling.{directory_bytes}
use Rattle.page_codec.proofs.DirectoryLaws.{directory_bytes-read}
use Rattle.page_codec.proofs.DirectorySpelt.{directory_of-spelt}
use Rattle.page_codec.proofs.laws.one_directory_spelling.Goals as goal

pub returns-clause-directories : goal.returns-clause-directories
returns-clause-directories c = λ some other fits_some fits_other counts same.
    sym (directory_of-spelt some fits_some) ∙ ap (λ cs. directory_of cs (directory_bytes some)) counts
    ∙ ap (directory_of (counts_of other.heads)) same ∙ directory_of-spelt other fits_other

pub returns-clause-texts : goal.returns-clause-texts
returns-clause-texts c = λ counts some other size_some size_other some_are other_are some_kept other_kept same.
    sym (directory_bytes-read counts some size_some some_are some_kept) ∙ ap directory_bytes same
    ∙ directory_bytes-read counts other size_other other_are other_kept

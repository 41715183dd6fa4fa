use Rattle.std.proofs.Common.{◌≡◌, ℕ, length, IfSome, Ok, sym, ap, ◌∙◌, subst, arith}
use Rattle.dag_core.specs.Ranges.{counts_of}
use Rattle.page_codec.specs.declared.directories.Directory.{Directory}
use Rattle.page_codec.specs.Spelling.{directory_length, page_at}
use Rattle.page_file.specs.Internal.Seen.{StandsAt, ReadRefused, JudgedTo, Decides, StepRefused}
use Rattle.page_file.specs.Judging.{directory_judged}
use Rattle.page_file.specs.Opening.{directory_opened}
use Rattle.page_file.proofs.Steps.{header-unread, header-refused, directory-unread, directory-refused}
use Rattle.page_file.proofs.Steps.{directory-decides}
use Rattle.page_file.proofs.StepRefusals.{read-same}
use Rattle.page_file.proofs.FrontTexts.{judged-told}
use Rattle.page_file.proofs.Texts.{handed, if_ok, if_err, told-same}
use Rattle.page_file.proofs.open.open_directory.Goals as goal

pub returns-in_err-read_whole-clause-refused : goal.returns-in_err-read_whole-clause-refused
returns-in_err-read_whole-clause-refused g c =
    let known = g.P.PageSource.holds c.args.src.now in
    let before = g.P.PageSource.faults c.args.src.now in
    let now = g.P.PageSource.faults c.read_whole.new.src in
    let fault = c.in_err-read_whole.field-0.0 in
    handed c.from_residual.result (StepRefused known 0 directory_opened before now) fault c.from_residual.ensures
    (header-unread known before now fault (subst
    (λ (n : ℕ). ReadRefused known 0 n before now fault) c.read_whole.auto.into c.in_err-read_whole.ensures.refused))

pub returns-in_err-header-clause-refused : goal.returns-in_err-header-clause-refused
returns-in_err-header-clause-refused g c =
    let known = g.P.PageSource.holds c.args.src.now in
    let before = g.P.PageSource.faults c.args.src.now in
    let now = g.P.PageSource.faults c.read_whole.new.src in
    let fault = c.in_err-header.field-0.0 in
    handed c.from_residual-in_err-header.result
    (StepRefused known 0 directory_opened before now) fault c.from_residual-in_err-header.ensures
    (header-refused known c.read_whole.new.into before now fault c.read_whole.auto.into c.in_ok-read_whole.ensures.read
    c.in_err-header.ensures.refused)

pub returns-in_err-text-clause-refused : goal.returns-in_err-text-clause-refused
returns-in_err-text-clause-refused g c =
    let known = g.P.PageSource.holds c.args.src.now in
    let before = g.P.PageSource.faults c.args.src.now in
    let now = g.P.PageSource.faults c.read_text.new.src in
    let fault = c.in_err-text.field-0.0 in
    let header = c.in_ok-header.header in
    let place : c.from.result ≡ 64 = omega (arith, c.from.ensures) in
    let refused : ReadRefused known 64 (directory_length header.counts) before now fault =
    read-same known (g.P.PageSource.holds c.read_whole.new.src) 64 c.from.result
    (directory_length header.counts) c.directory_length-len.result before
    (g.P.PageSource.faults c.read_whole.new.src) now fault
    c.in_ok-read_whole.ensures.unchanged place c.directory_length-len.ensures.bytes c.in_ok-read_whole.ensures.no_fault
    c.in_err-text.ensures.refused in
    handed c.from_residual-in_err-text.result
    (StepRefused known 0 directory_opened before now) fault c.from_residual-in_err-text.ensures
    (directory-unread known header c.read_whole.new.into before now fault c.read_whole.auto.into
    c.in_ok-read_whole.ensures.read c.in_ok-header.ensures.header refused)

pub returns-clause-directory : goal.returns-clause-directory
returns-clause-directory g c =
    let known = g.P.PageSource.holds c.args.src.now in
    let header = c.in_ok-header.header in
    let text = c.deref.result.now in
    let place : c.from.result ≡ 64 = omega (arith, c.from.ensures) in
    let sized : length text ≡ directory_length header.counts =
    ap length c.deref.ensures.value ∙ c.in_ok-text.ensures.size ∙ c.directory_length-len.ensures.bytes in
    let told : IfSome known (StandsAt 64 text) =
    told-same known (g.P.PageSource.holds c.read_whole.new.src) 64 c.from.result text c.in_ok-text.text.items
    c.in_ok-read_whole.ensures.unchanged place (sym c.deref.ensures.value) c.in_ok-text.ensures.read in
    if_ok c.judge_directory.result (λ (found : Directory). directory_judged header text ≡ Ok found)
    (λ (found : Directory). counts_of found.heads ≡ header.counts)
    (λ (found : Directory). Decides known directory_opened found (page_at (counts_of found.heads) 0))
    (λ found judged counts. directory-decides known header c.read_whole.new.into text found c.read_whole.auto.into
    c.in_ok-read_whole.ensures.read c.in_ok-header.ensures.header sized told judged counts)
    c.judge_directory.ensures.directory c.judge_directory.ensures.counts

pub returns-clause-refused : goal.returns-clause-refused
returns-clause-refused g c =
    let known = g.P.PageSource.holds c.args.src.now in
    let before = g.P.PageSource.faults c.args.src.now in
    let now = g.P.PageSource.faults c.read_text.new.src in
    let header = c.in_ok-header.header in
    let text = c.deref.result.now in
    let place : c.from.result ≡ 64 = omega (arith, c.from.ensures) in
    let sized : length text ≡ directory_length header.counts =
    ap length c.deref.ensures.value ∙ c.in_ok-text.ensures.size ∙ c.directory_length-len.ensures.bytes in
    let told : IfSome known (StandsAt 64 text) =
    told-same known (g.P.PageSource.holds c.read_whole.new.src) 64 c.from.result text c.in_ok-text.text.items
    c.in_ok-read_whole.ensures.unchanged place (sym c.deref.ensures.value) c.in_ok-text.ensures.read in
    if_err c.judge_directory.result (JudgedTo (directory_judged header text))
    (StepRefused known 0 directory_opened before now)
    (λ fault refused. directory-refused known header c.read_whole.new.into text before now fault c.read_whole.auto.into
    c.in_ok-read_whole.ensures.read c.in_ok-header.ensures.header sized told refused)
    c.judge_directory.ensures.refused

pub returns-clause-spelling : goal.returns-clause-spelling
returns-clause-spelling g c =
    let known = g.P.PageSource.holds c.args.src.now in
    let header = c.in_ok-header.header in
    let text = c.deref.result.now in
    let place : c.from.result ≡ 64 = omega (arith, c.from.ensures) in
    let told : IfSome known (StandsAt 64 text) =
    told-same known (g.P.PageSource.holds c.read_whole.new.src) 64 c.from.result text c.in_ok-text.text.items
    c.in_ok-read_whole.ensures.unchanged place (sym c.deref.ensures.value) c.in_ok-text.ensures.read in
    judged-told known c.judge_directory.result header c.read_whole.new.into text c.read_whole.auto.into
    c.in_ok-read_whole.ensures.read told c.in_ok-header.ensures.spelling c.in_ok-header.ensures.version
    c.judge_directory.ensures.counts c.judge_directory.ensures.spelling c.judge_directory.ensures.digest

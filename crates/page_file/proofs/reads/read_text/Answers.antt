use Rattle.std.proofs.Common.{◌≡◌, ◌≤◌, ◌+◌, ◌++◌, ℕ, List, length, Option, IfSome, sym, subst, ap, ◌∙◌, arith}
use Rattle.std.proofs.Common.{length-append}
use Rattle.page_file.specs.Internal.Seen.{StandsAt, ReadRefused}
use Rattle.page_file.proofs.StepRefusals.{read-more}
use Rattle.page_file.proofs.Texts.{handed, if_both, stands-join}
use Rattle.page_file.proofs.reads.read_text.Goals as goal

pub returns-in_err-piece-clause-refused : goal.returns-in_err-piece-clause-refused
returns-in_err-piece-clause-refused g c =
    let known = g.P.PageSource.holds c.args.src.now in
    let fault = c.in_err-piece.field-0.0 in
    let now = g.P.PageSource.faults c.read_piece.new.src in
    let more = c.min-more.result in
    let text = c.reads.text.items in
    let place : c.len-in-reads-2.result ≡ length text = omega (arith, c.len-in-reads-2.ensures, c.reads.text.ok.0) in
    let first : ReadRefused known (c.args.at + c.len-in-reads-2.result) more
    (g.P.PageSource.faults c.reads.src) now fault =
    subst (λ (known : Option (List ℕ)). ReadRefused known (c.args.at + c.len-in-reads-2.result) more
    (g.P.PageSource.faults c.reads.src) now fault) c.reads.invariant.same c.in_err-piece.ensures.refused in
    let second : ReadRefused known (c.args.at + length text) more (g.P.PageSource.faults c.reads.src) now fault =
    subst (λ (n : ℕ). ReadRefused known (c.args.at + n) more (g.P.PageSource.faults c.reads.src) now fault) place
    first in
    let third : ReadRefused known (c.args.at + length text) more (g.P.PageSource.faults c.args.src.now) now fault =
    subst (λ (n : ℕ). ReadRefused known (c.args.at + length text) more n now fault) c.reads.invariant.no_fault second in
    let room : length text + more ≤ c.args.len =
    omega (arith, c.min-more.ensures, c.len-in-reads.ensures, c.reads.text.ok.0, c.reads.invariant.within) in
    handed c.from_residual.result (ReadRefused known c.args.at c.args.len (g.P.PageSource.faults c.args.src.now) now)
    fault c.from_residual.ensures
    (read-more known c.args.at more c.args.len text
    (g.P.PageSource.faults c.args.src.now) now fault c.reads.invariant.read room third)

pub reads-preserved : goal.reads-preserved
reads-preserved g c =
    let known = g.P.PageSource.holds c.args.src.now in
    let text = c.reads.text.items in
    let piece = c.in_ok-piece.piece.items in
    let place : c.len-in-reads-2.result ≡ length text = omega (arith, c.len-in-reads-2.ensures, c.reads.text.ok.0) in
    let appended : c.append.new.text.items ≡ text ++ piece =
    c.in_ok-append.ensures.appended ∙ ap (λ (found : List ℕ). text ++ found) c.deref.ensures.value in
    let first : IfSome known (StandsAt (c.args.at + c.len-in-reads-2.result) piece) =
    subst (λ (known : Option (List ℕ)). IfSome known (StandsAt (c.args.at + c.len-in-reads-2.result) piece))
    c.reads.invariant.same c.in_ok-piece.ensures.read in
    let stands : IfSome known (StandsAt (c.args.at + length text) piece) =
    subst (λ (n : ℕ). IfSome known (StandsAt (c.args.at + n) piece)) place first in
    let room : length text + c.min-more.result ≤ c.args.len =
    omega (arith, c.min-more.ensures, c.len-in-reads.ensures, c.reads.text.ok.0, c.reads.invariant.within) in
    record {
      within = omega (arith, ap length appended, length-append text piece, c.in_ok-piece.ensures.size, room);
      read = subst (λ (found : List ℕ). IfSome known (StandsAt c.args.at found)) (sym appended)
          (if_both known (StandsAt c.args.at text) (StandsAt (c.args.at + length text) piece)
          (StandsAt c.args.at (text ++ piece)) (λ bytes one two. stands-join c.args.at text piece bytes one two)
          c.reads.invariant.read stands);
      same = c.in_ok-piece.ensures.unchanged ∙ c.reads.invariant.same;
      no_fault = c.in_ok-piece.ensures.no_fault ∙ c.reads.invariant.no_fault;
    }

use Rattle.std.proofs.lemmas.Result.{err_from_is_err_and}
use Rattle.obj_source.specs.Lines.{words_of}
use Rattle.obj_source.proofs.Judged.{LineJudged-from, OnLineFault-from}
use Rattle.obj_source.proofs.LineSteps.{LineRead-ended}
use Rattle.obj_source.proofs.obj_scanner.ObjScanner.end_line.Goals as goal

pub returns-in_err-end_line-clause-judged : goal.returns-in_err-end_line-clause-judged
returns-in_err-end_line-clause-judged c = λ scale mesh_so_far line begun read.
    let stands =
    LineRead-ended _ _ _ _ _ _ scale mesh_so_far line begun _ _ read c.drop_return.ensures.state
    c.drop_return.ensures.builder c.drop_return.ensures.word
    (c.in_ok-end_word.ensures.mesh_so_far scale mesh_so_far line) (λ none. (c.in_ok-end_word.ensures.idle none).0) in
    let p = err_from_is_err_and c.from_residual-in_err-end_line.result c.from_residual-in_err-end_line.ensures.1 in
    rw (p.1, p.2) (OnLineFault-from _ scale mesh_so_far line (words_of begun) _ stands
    (λ other. c.in_err-end_line.ensures.fault mesh_so_far line (words_of begun) other stands.1))

pub returns-clause-judged : goal.returns-clause-judged
returns-clause-judged c = λ scale mesh_so_far line begun read.
    let stands =
    LineRead-ended _ _ _ _ _ _ scale mesh_so_far line begun _ _ read c.drop_return.ensures.state
    c.drop_return.ensures.builder c.drop_return.ensures.word
    (c.in_ok-end_word.ensures.mesh_so_far scale mesh_so_far line) (λ none. (c.in_ok-end_word.ensures.idle none).0) in
    LineJudged-from _ _ scale mesh_so_far line (words_of begun) stands c.end_line.ensures.scale
    (c.in_ok-end_line.ensures.next mesh_so_far line (words_of begun) stands.1)

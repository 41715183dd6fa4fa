use Rattle.std.proofs.Common.{◌+◌, ◌∷◌, [], drop, get_or, refl, arith}
use Rattle.std.proofs.lemmas.Result.{err_from_is_err_and}
use Rattle.obj_source.proofs.Pieces.{HasRoom-before, HasRoom-fewer, TakenBefore-span, TakenBefore-then}
use Rattle.obj_source.proofs.Pieces.{TakenBefore-rest, TakenBefore-end, mark_ends, refused_before}
use Rattle.obj_source.proofs.obj_scanner.ObjScanner.scan.Goals as goal

pub end_token-requires-clause-room : goal.end_token-requires-clause-room
end_token-requires-clause-room c =
    let rest = c.marks.rest.now in
    let so_far =
    TakenBefore-span c.args.self.now c.marks.self c.push_bytes.new.self c.args.piece.now rest c.in-Some.at
    c.in-Some.ensures c.marks.invariant c.in_ok-push_bytes.ensures in
    HasRoom-fewer c.push_bytes.new.self _ 1 (HasRoom-before c.args.self.now c.push_bytes.new.self c.args.piece.now
    (get_or rest c.in-Some.at 0 ∷ drop (c.in-Some.at + 1) rest) c.requires so_far) (omega arith)

pub end_token-requires-clause-mark : goal.end_token-requires-clause-mark
end_token-requires-clause-mark c = mark_ends c.marks.self.state c.marks.rest.now c.in-Some.at c.in-Some.ensures

pub returns-in_err-end_token-clause-refused : goal.returns-in_err-end_token-clause-refused
returns-in_err-end_token-clause-refused c =
    let rest = c.marks.rest.now in
    let mark = get_or rest c.in-Some.at 0 in
    let behind = drop (c.in-Some.at + 1) rest in
    let so_far =
    TakenBefore-span c.args.self.now c.marks.self c.push_bytes.new.self c.args.piece.now rest c.in-Some.at
    c.in-Some.ensures c.marks.invariant c.in_ok-push_bytes.ensures in
    let p = err_from_is_err_and c.from_residual-in_err-end_token.result c.from_residual-in_err-end_token.ensures.1 in
    rw (p.1, p.2) (refused_before c.args.self.now c.push_bytes.new.self c.args.piece.now (mark ∷ behind)
    (mark ∷ []) behind _ refl so_far c.in_err-end_token.ensures.refused)

pub marks-preserved : goal.marks-preserved
marks-preserved c =
    let rest = c.marks.rest.now in
    let mark = get_or rest c.in-Some.at 0 in
    let behind = drop (c.in-Some.at + 1) rest in
    let so_far =
    TakenBefore-span c.args.self.now c.marks.self c.push_bytes.new.self c.args.piece.now rest c.in-Some.at
    c.in-Some.ensures c.marks.invariant c.in_ok-push_bytes.ensures in
    TakenBefore-rest c.args.self.now c.end_token.new.self c.args.piece.now rest c.in-Some.at
    (TakenBefore-then c.args.self.now c.push_bytes.new.self c.end_token.new.self c.args.piece.now (mark ∷ behind)
    (mark ∷ []) behind refl so_far c.in_ok-end_token.ensures.taken)

pub returns-clause-taken : goal.returns-clause-taken
returns-clause-taken c =
    TakenBefore-end c.args.self.now c.marks.self c.push_bytes-2.new.self c.args.piece.now c.marks.rest.now
    c.in_default.ensures c.marks.invariant c.in_ok-push_bytes-2.ensures

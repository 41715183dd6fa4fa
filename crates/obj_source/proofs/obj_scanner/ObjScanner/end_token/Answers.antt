use Rattle.std.proofs.Common.{◌≡◌, ◌≢◌, refl, arith}
use Rattle.obj_source.proofs.TakenBytes.{HasTaken-blank, HasTaken-hash, blank_else, taken_feed, refused_feed}
use Rattle.obj_source.proofs.obj_scanner.ObjScanner.end_token.Goals as goal

pub returns-in-10-clause-taken : goal.returns-in-10-clause-taken
returns-in-10-clause-taken c =
    let is : c.args.mark ≡ 10 = omega arith in
    rw is (taken_feed c.args.self.now c.end_line.new.self c.end_line.result
    (c.end_line.ensures.judged, c.end_line.ensures.ready, c.end_line.ensures.word, c.end_line.ensures.state))

pub returns-in-10-clause-refused : goal.returns-in-10-clause-refused
returns-in-10-clause-refused c =
    let is : c.args.mark ≡ 10 = omega arith in
    rw is (refused_feed c.args.self.now c.end_line.new.self c.end_line.result
    (c.end_line.ensures.judged, c.end_line.ensures.ready, c.end_line.ensures.word, c.end_line.ensures.state))

pub returns-in_ok-end_word-in-35-clause-taken : goal.returns-in_ok-end_word-in-35-clause-taken
returns-in_ok-end_word-in-35-clause-taken c =
    let e = c.in_ok-end_word-in-35.ensures in
    let is : c.args.mark ≡ 35 = omega arith in
    rw is (HasTaken-hash c.args.self.now c.end_word.new.self _
    (e.mesh_so_far, e.idle, e.ready, e.word) refl e.word refl)

pub returns-in_ok-end_word-in_default-clause-taken : goal.returns-in_ok-end_word-in_default-clause-taken
returns-in_ok-end_word-in_default-clause-taken c =
    let e = c.in_ok-end_word-in_default.ensures in
    let no_feed : c.args.mark ≢ 10 = omega arith in
    let no_hash : c.args.mark ≢ 35 = omega arith in
    HasTaken-blank c.args.self.now c.end_word-in_default.new.self c.args.mark (e.mesh_so_far, e.idle, e.ready, e.word)
    (blank_else c.args.mark c.requires.mark no_feed no_hash)

use Rattle.std.proofs.Common.{true, false, arith, below_more}
use Rattle.dag_core.specs.Pages.{has_terminal_on, tris_on}
use Rattle.dag_core.specs.Rules.{breaks_page}
use Rattle.dag_core.specs.Internal.Tables.{has_later_upper}
use Rattle.dag_core.proofs.MemberLaws.{in_turn}
use Rattle.dag_core.proofs.PlaceLaws.{none_at_all}
use Rattle.dag_core.proofs.RangeLaws.{sizes_of}
use Rattle.dag_core.proofs.RuleLaws.{page_beyond}
use Rattle.dag_core.proofs.TableLaws.{table_length}
use Rattle.dag_core.proofs.UpperLaws.{page_by}
use Rattle.dag_core.proofs.heads.Heads.page_break.Goals as goal

pub bounds-terminal-p : goal.bounds-terminal-p
bounds-terminal-p c =
    let tris = table_length (tris_on c.args.self.now) c.args.self.now.pages c.args.tris.now c.requires.tris in
    let terminal =
    table_length (has_terminal_on c.args.self.now) c.args.self.now.pages c.args.terminal.now c.requires.terminal in
    omega arith

pub bounds-later-p : goal.bounds-later-p
bounds-later-p c =
    let tris = table_length (tris_on c.args.self.now) c.args.self.now.pages c.args.tris.now c.requires.tris in
    let later =
    table_length (has_later_upper c.args.self.now) c.args.self.now.pages c.args.later.now c.requires.later in
    omega arith

pub overflow_cast-result : goal.overflow_cast-result
overflow_cast-result c =
    let tris = table_length (tris_on c.args.self.now) c.args.self.now.pages c.args.tris.now c.requires.tris in
    let sizes = sizes_of c.args.self.now c.requires.range in
    omega arith

pub loop-p-preserved : goal.loop-p-preserved
loop-p-preserved c =
    let tris = table_length (tris_on c.args.self.now) c.args.self.now.pages c.args.tris.now c.requires.tris in
    below_more _ _ c.loop-p.invariant
    (page_by c.args.self.now c.args.tris.now c.args.terminal.now c.args.later.now c.loop-p.p false c.requires.range
    (in_turn c.args.self.now c.requires.members)
    c.requires.tris c.requires.terminal c.requires.later (omega arith) c.if-is_bad_page.ensures.bad)

pub returns-then-is_bad_page : goal.returns-then-is_bad_page
returns-then-is_bad_page c =
    let tris = table_length (tris_on c.args.self.now) c.args.self.now.pages c.args.tris.now c.requires.tris in
    record {
      place = (
        page_by c.args.self.now c.args.tris.now c.args.terminal.now c.args.later.now c.loop-p.p true c.requires.range
            (in_turn c.args.self.now c.requires.members)
            c.requires.tris c.requires.terminal c.requires.later (omega arith) c.if-is_bad_page.ensures.bad,
        c.loop-p.invariant,
      );
    }

pub returns : goal.returns
returns c =
    let tris = table_length (tris_on c.args.self.now) c.args.self.now.pages c.args.tris.now c.requires.tris in
    record {
      place = none_at_all (breaks_page c.args.self.now) c.loop-p.p c.loop-p.invariant
          (λ place from. page_beyond c.args.self.now place (omega arith));
    }

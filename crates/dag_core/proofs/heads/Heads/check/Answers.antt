use Rattle.std.proofs.Common.{sym}
use Rattle.dag_core.specs.Rules.{breaks_bound, breaks_maker, breaks_members, breaks_page, breaks_terminal}
use Rattle.dag_core.proofs.CheckLaws.{no_refusal, none_refused}
use Rattle.dag_core.proofs.heads.Heads.check.Goals as goal

pub returns-in_err-refuse-clause-complete : goal.returns-in_err-refuse-clause-complete
returns-in_err-refuse-clause-complete c = λ checked.
    absurd (no_refusal 1 (breaks_members c.args.self.now) _ _ c.members_break.ensures.place (λ index. checked 1 index)
    (sym c.in_err-refuse.ensures))

pub returns-in_err-refuse-2-clause-complete : goal.returns-in_err-refuse-2-clause-complete
returns-in_err-refuse-2-clause-complete c = λ checked.
    absurd (no_refusal 2 (breaks_maker c.args.self.now) _ _ c.maker_break.ensures.place (λ index. checked 2 index)
    (sym c.in_err-refuse-2.ensures))

pub returns-in_err-refuse-3-clause-complete : goal.returns-in_err-refuse-3-clause-complete
returns-in_err-refuse-3-clause-complete c = λ checked.
    absurd (no_refusal 3 (breaks_terminal c.args.self.now) _ _ c.terminal_break.ensures.place (λ index. checked 3 index)
    (sym c.in_err-refuse-3.ensures))

pub returns-in_err-refuse-4-clause-complete : goal.returns-in_err-refuse-4-clause-complete
returns-in_err-refuse-4-clause-complete c = λ checked.
    absurd (no_refusal 4 (breaks_bound c.args.self.now) _ _ c.bound_break.ensures.place (λ index. checked 4 index)
    (sym c.in_err-refuse-4.ensures))

pub returns-clause-complete : goal.returns-clause-complete
returns-clause-complete c = λ checked.
    none_refused 5 (breaks_page c.args.self.now) _ _ c.page_break.ensures.place
    (λ index. checked 5 index) c.refuse-5.ensures

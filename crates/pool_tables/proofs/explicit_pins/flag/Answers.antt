use Rattle.std.proofs.Common.{refl, sym}
use Rattle.pool_tables.proofs.FlaggedPages.{times-flag, with_flag-at, with_flag-none}
use Rattle.pool_tables.proofs.explicit_pins.flag.Goals as goal

pub returns-in-Some-clause-flags : goal.returns-in-Some-clause-flags
returns-in-Some-clause-flags c =
    with_flag-at 0 c.args.missing.now c.args.flags.now c.in-Some.place c.args.page c.requires.ascending
    c.requires.flag_a_page c.in-Some.ensures.place_range c.in-Some.ensures.place

pub returns-in-Some-clause-pins : goal.returns-in-Some-clause-pins
returns-in-Some-clause-pins c = λ p.
    times-flag c.args.missing.now c.args.flags.now c.in-Some.place c.args.page p c.requires.flag_a_page
    c.in-Some.ensures.place_range c.in-Some.ensures.place

pub returns-in-None-clause-flags : goal.returns-in-None-clause-flags
returns-in-None-clause-flags c =
    sym (with_flag-none c.args.missing.now c.args.flags.now c.args.page (c.in-None.ensures.absent refl))

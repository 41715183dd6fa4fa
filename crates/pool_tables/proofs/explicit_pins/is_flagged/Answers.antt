use Rattle.std.proofs.Common.{refl, sym}
use Rattle.pool_tables.proofs.FlaggedPages.{flagged-at, flagged-none}
use Rattle.pool_tables.proofs.explicit_pins.is_flagged.Goals as goal

pub returns-in-Some : goal.returns-in-Some
returns-in-Some c =
    flagged-at 0 c.args.missing.now c.args.flags.now c.in-Some.place c.args.page c.requires.ascending
    c.requires.flag_a_page c.in-Some.ensures.place_range c.in-Some.ensures.place

pub returns-in-None : goal.returns-in-None
returns-in-None c =
    sym (flagged-none c.args.missing.now c.args.flags.now c.args.page (c.in-None.ensures.absent refl))

use Rattle.std.proofs.Common.{◌∙◌}
use Rattle.residency.proofs.TableQueries.{owns-told}
use Rattle.residency.proofs.rules.allows.Goals as goal

pub returns-in-Pin : goal.returns-in-Pin
returns-in-Pin c = λ journal past. rw c.in-Pin.is (c.allows_pin.ensures c.args.layout.now journal past.tables)

pub returns-in-Settle : goal.returns-in-Settle
returns-in-Settle c = λ journal past.
    rw (c.in-Settle.is, ← c.as_slice-in-Settle.ensures, ← c.as_slice.ensures)
    (c.allows_settle.ensures journal past.tables)

pub returns-in-Ask : goal.returns-in-Ask
returns-in-Ask c = λ journal past.
    rw (c.in-Ask.is, ← c.as_slice-in-Ask.ensures) (c.allows_ask.ensures journal past.tables)

pub returns-in-Narrow : goal.returns-in-Narrow
returns-in-Narrow c = λ journal past.
    rw (c.in-Narrow.is, ← c.as_slice-in-Narrow.ensures) (c.allows_narrow.ensures c.args.layout.now journal past.tables)

pub returns-in-Unpin : goal.returns-in-Unpin
returns-in-Unpin c = λ journal past.
    rw c.in-Unpin.is (c.owns.ensures ∙ owns-told c.args.layout.now journal c.args.tables.now c.args.entry.now.by
    c.in-Unpin.frame past.tables)

pub returns-in-Take : goal.returns-in-Take
returns-in-Take c = λ journal past.
    rw (c.in-Take.is, ← c.frame_id.ensures) (c.allows_take.ensures journal past)

pub returns-in-Full : goal.returns-in-Full
returns-in-Full c = λ journal past. rw c.in-Full.is (c.allows_full.ensures journal past)

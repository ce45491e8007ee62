use Rattle.std.proofs.Common.{reverse}
use Rattle.quiet_check.proofs.Counts.{copies_of_sent, copies_of_unsent}
use Rattle.quiet_check.proofs.links.has_copy.Goals as goal

pub returns-then-number-sent_on : goal.returns-then-number-sent_on
returns-then-number-sent_on c =
    let a = c.args in
    let number = rw c.sent_on.ensures.value at c.if-number-sent_on.true in
    let copies = copies_of_sent a.from a.at a.number (reverse a.events.now) number in
    rw (c.departures-gone.ensures.value, c.repetitions-added.ensures.value) copies

pub returns-else-number-sent_on : goal.returns-else-number-sent_on
returns-else-number-sent_on c =
    let a = c.args in
    let number = rw c.sent_on.ensures.value at c.if-number-sent_on.false in
    let copies = copies_of_unsent a.from a.at a.number (reverse a.events.now) number in
    rw (c.departures-gone.ensures.value, c.repetitions-added.ensures.value) copies

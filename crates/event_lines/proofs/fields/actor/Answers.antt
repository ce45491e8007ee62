use Rattle.std.proofs.Common.{rules}
use Rattle.event_lines.proofs.ActorsLaws.{actor_of-first_dot, actor_of-no_dot}
use Rattle.event_lines.proofs.fields.actor.Goals as goal

pub returns-in_err-dot : goal.returns-in_err-dot
returns-in_err-dot c = rw (actor_of-no_dot c.args.word.now c.in_err-dot.ensures.none) (search rules)

pub returns-in_err-node : goal.returns-in_err-node
returns-in_err-node c =
    let place = c.in_ok-dot in
    rw (actor_of-first_dot c.args.word.now place.dot place.ensures.within place.ensures.before place.ensures.found) (search rules)

pub returns-in_err-serial : goal.returns-in_err-serial
returns-in_err-serial c =
    let place = c.in_ok-dot in
    rw (actor_of-first_dot c.args.word.now place.dot place.ensures.within place.ensures.before place.ensures.found) (search rules)

pub returns : goal.returns
returns c =
    let place = c.in_ok-dot in
    rw (actor_of-first_dot c.args.word.now place.dot place.ensures.within place.ensures.before place.ensures.found) (search rules)

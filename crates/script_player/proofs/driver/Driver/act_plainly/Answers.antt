use Rattle.std.proofs.Common.{◌∷◌}
use Rattle.script_player.proofs.Standings.{plain-actors, plain-no_plan, stands-course}
use Rattle.script_player.proofs.driver.Driver.act_plainly.Goals as goal

pub returns-clause-stands : goal.returns-clause-stands
returns-clause-stands c =
    let d = c.args.self.now in
    let h = d.course.past in
    let e = c.args.event in
    stands-course d c.make.new.course (e ∷ h) c.requires.stands c.in_ok-make.ensures.ok.cluster c.in_ok-make.ensures.ok.past c.in_ok-make.ensures.within
    (plain-actors c.acts_leave_the_actors.ensures.sends c.acts_leave_the_actors.ensures.drops c.acts_leave_the_actors.ensures.retires d.script.value h d.actors c.args.actor e c.requires.plain c.requires.busy c.requires.stands.actors)
    (c.other_events_leave_the_progress.ensures.other d.script.value e h d.progress (plain-no_plan c.args.actor e c.requires.plain) c.requires.stands.progress)

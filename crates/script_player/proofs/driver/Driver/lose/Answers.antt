use Rattle.std.proofs.Common.{◌∷◌, refl}
use Rattle.history_model.specs.declared.events.Event.TheVariants.{Lose}
use Rattle.script_player.proofs.Standings.{stands-both}
use Rattle.script_player.proofs.driver.Driver.lose.Goals as goal

pub returns-clause-made : goal.returns-clause-made
returns-clause-made c =
    let d = c.args.self.now in
    let s = d.script.value in
    let h = d.course.past in
    let e = Lose c.args.from c.args.at c.args.number in
    stands-both d c.make.new.course c.loses.new.self (e ∷ h) c.requires.stands c.in_ok-make.ensures.ok.cluster c.in_ok-make.ensures.ok.past c.in_ok-make.ensures.within
    (c.other_events_leave_the_actors.ensures.other s e h d.actors refl c.requires.stands.actors) (c.loses.ensures.stands s h c.requires.stands.progress)

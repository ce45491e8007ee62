use Rattle.history_model.specs.declared.events.Event.TheVariants.{Admit, Lose, Repeat}
use Rattle.run_model.specs.Planned.{carry}
use Rattle.script_player.proofs.Standings.{carried-legal}
use Rattle.script_player.proofs.driver.Driver.carry.Goals as goal

pub repeat-requires-clause-legal : goal.repeat-requires-clause-legal
repeat-requires-clause-legal c =
    let d = c.args.self.now in
    carried-legal d (carry d.script.value c.args.from c.args.at c.args.number d.course.past) (Repeat c.args.from c.args.at c.args.number) c.requires.stands c.requires.next
    (c.in-Repeat.ensures.stands d.script.value d.course.past c.requires.stands.progress)

pub lose-requires-clause-legal : goal.lose-requires-clause-legal
lose-requires-clause-legal c =
    let d = c.args.self.now in
    carried-legal d (carry d.script.value c.args.from c.args.at c.args.number d.course.past) (Lose c.args.from c.args.at c.args.number) c.requires.stands c.requires.next
    (c.in-Lose.ensures.stands d.script.value d.course.past c.requires.stands.progress)

pub admit-requires-clause-legal : goal.admit-requires-clause-legal
admit-requires-clause-legal c =
    let d = c.args.self.now in
    carried-legal d (carry d.script.value c.args.from c.args.at c.args.number d.course.past) (Admit c.args.from c.args.at c.args.number) c.requires.stands c.requires.next
    (c.in-Admit.ensures.stands d.script.value d.course.past c.requires.stands.progress)

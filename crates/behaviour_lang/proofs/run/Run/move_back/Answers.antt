use Rattle.behaviour_lang.proofs.RunLaws.{back, only_keep_moves}
use Rattle.behaviour_lang.proofs.run.Run.move_back.Goals as goal

pub returns-in-Keep : goal.returns-in-Keep
returns-in-Keep c = λ before moved.
    let m = rw c.in-Keep.is at moved in
    back before c.args.self.now c.give_back.new.self (c.give_back.ensures before.names m.actor m.kept m.free) m.others

pub returns-in_default : goal.returns-in_default
returns-in_default c = λ before moved. absurd (only_keep_moves _ before c.args.self.now c.in_default.not-Keep moved)

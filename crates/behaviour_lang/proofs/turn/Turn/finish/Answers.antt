use Rattle.std.proofs.Common.{sym, ◌∙◌, ap}
use Rattle.behaviour_lang.specs.TurnState.{TurnState}
use Rattle.behaviour_lang.proofs.EndLaws.{only_local}
use Rattle.behaviour_lang.proofs.turn.Turn.finish.Goals as goal

pub returns : goal.returns
returns c =
    let names = c.self.inside.run.names in
    rw (← c.self.view_is) (sym (only_local 0 names.refs names.flags names.locals (c.self.invariant.end (ap (λ (t : TurnState). t.ended) c.self.view_is ∙ c.requires))))

use Rattle.std.proofs.Common.{sym, ◌∙◌}
use Rattle.history_model.proofs.CodesLemmas.{past-length}
use Rattle.history_model.proofs.history.History.len.Goals as goal

pub returns : goal.returns
returns c =
    rw (← c.self.view_is) (c.len.ensures ∙ c.self.inside.codes.ok.0 ∙ sym (past-length c.self.inside.codes.items c.self.inside.further.items))

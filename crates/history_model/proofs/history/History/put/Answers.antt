use Rattle.history_model.proofs.CodesLemmas.{past-put}
use Rattle.history_model.proofs.history.History.put.Goals as goal

pub returns-clause-ok : goal.returns-clause-ok
returns-clause-ok c =
    let further = c.self.inside.further.items in
    rw (c.push_reserved.ensures.items, c.reserve.ensures.items, ← c.self.view_is)
    (past-put c.self.inside.codes.items c.args.code further c.self.invariant.4 c.requires)

use Rattle.std.proofs.Common.{rules, sym, ◌∙◌}
use Rattle.node_collectors.proofs.StandLemmas.{hands-again}
use Rattle.node_collectors.proofs.collectors.NodeCollectors.hand.Goals as goal

pub returns-then-has_taken : goal.returns-then-has_taken
returns-then-has_taken c =
    let w = c.args.world.now in
    hands-again w.cluster w.past c.args.to c.args.origin c.args.number c.args.self.now c.self.inside.rows.items c.get-place.result c.index.result.now
    c.requires.last c.requires.stand (search rules) c.get-place.ensures.number c.index.ensures (sym c.has_taken.ensures ∙ c.if-has_taken.true)

use Rattle.shadow_graph.specs.Graph.{lost_in}
use Rattle.pseudoroot_trace.proofs.TouchLemmas.{rows-delta, rows-final, rows-window}
use Rattle.pseudoroot_trace.proofs.touch.touch_rows.Goals as goal

pub returns-in-Delta-clause-actors : goal.returns-in-Delta-clause-actors
returns-in-Delta-clause-actors c = λ a hit.
    c.touch_delta.ensures.actors a (rows-delta (lost_in c.args.graph.now) c.args.b.now c.in-Delta.delta a c.in-Delta.is hit)

pub returns-in-Window-clause-actors : goal.returns-in-Window-clause-actors
returns-in-Window-clause-actors c = λ a hit.
    let found = rows-window (lost_in c.args.graph.now) c.args.b.now c.in-Window.window a c.in-Window.is hit in
    c.touch_window.ensures.actors found.0 a found.1

pub returns-in-Final-clause-actors : goal.returns-in-Final-clause-actors
returns-in-Final-clause-actors c = λ a hit.
    let found = rows-final (lost_in c.args.graph.now) c.args.b.now c.in-Final.window a c.in-Final.is hit in
    c.touch_window-in-Final.ensures.actors found.0 a found.1

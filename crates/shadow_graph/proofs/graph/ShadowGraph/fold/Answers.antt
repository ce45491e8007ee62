use Rattle.shadow_graph.proofs.FoldLemmas.{folds-given_delta, folds-given_window}
use Rattle.shadow_graph.proofs.graph.ShadowGraph.fold.Goals as goal

pub returns-in-Delta-clause-ok : goal.returns-in-Delta-clause-ok
returns-in-Delta-clause-ok c =
    let e = c.take_delta.ensures in
    folds-given_delta c.take_delta.result c.args.origin c.args.b.now c.in-Delta.delta c.args.self.now c.take_delta.new.self c.in-Delta.is c.requires.of_origin c.requires.in_range e.few e.long e.ordered e.ok e.finals

pub returns-in-Window-clause-ok : goal.returns-in-Window-clause-ok
returns-in-Window-clause-ok c =
    let e = c.take_window.ensures in
    folds-given_window c.take_window.result c.args.origin c.args.b.now c.in-Window.window c.args.self.now c.take_window.new.self c.in-Window.is c.requires.of_origin c.requires.in_range e.few e.long e.ordered e.ok e.finals

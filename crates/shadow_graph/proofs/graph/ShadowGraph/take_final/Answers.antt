use Rattle.std.proofs.Common.{◌<◌, subst, sym}
use Rattle.membership.specs.Noted.{Noted}
use Rattle.shadow_graph.proofs.FoldLemmas.{folds-final}
use Rattle.shadow_graph.proofs.graph.ShadowGraph.take_final.Goals as goal

pub close-requires-clause-source : goal.close-requires-clause-source
close-requires-clause-source c = subst (λ (x : Noted). c.args.window.now.from < x.nodes) (sym c.take_window.ensures.finals) c.requires.from

pub close-requires-clause-destination : goal.close-requires-clause-destination
close-requires-clause-destination c = subst (λ (x : Noted). c.args.window.now.at < x.nodes) (sym c.take_window.ensures.finals) c.requires.at

pub returns-in-Ok-clause-ok : goal.returns-in-Ok-clause-ok
returns-in-Ok-clause-ok c =
    folds-final c.args.window.now c.args.self.now c.take_window.new.self c.close.new.self c.take_window.ensures.few c.take_window.ensures.long c.take_window.ensures.ordered c.requires.at c.requires.from c.requires.differ c.in-Ok.ensures.ok_final c.take_window.ensures.finals c.close.ensures

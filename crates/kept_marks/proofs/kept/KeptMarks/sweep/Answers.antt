use Rattle.kept_marks.proofs.SweepLemmas.{swept}
use Rattle.kept_marks.proofs.kept.KeptMarks.sweep.Goals as goal

pub returns-clause-swept : goal.returns-clause-swept
returns-clause-swept g c =
    let checked = c.check.ensures in
    let settled = c.settle.ensures in
    swept (g.G.PlaceGraph.graph c.args.graph.now) c.args.self.now c.settle.new.self settled.kept settled.clean settled.settled (λ a before. settled.watched a (checked.watched a before))

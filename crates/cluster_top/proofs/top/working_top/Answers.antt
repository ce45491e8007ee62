use Rattle.cluster_top.specs.Outcome.{IsWritten}
use Rattle.cluster_top.specs.WorkersOutcome.{WorkersCameTo}
use Rattle.cluster_top.proofs.Tasks.{ended}
use Rattle.cluster_top.proofs.top.working_top.Goals as goal

pub returns-clause-outcome : goal.returns-clause-outcome
returns-clause-outcome g c =
    let came = c.worked-answer in
    let written = c.write_answer in
    ended {P = WorkersCameTo g.S.Source.left g.S.Source.given g.S.Source.ended g.S.Source.faults c.args.source.now came.new.source c.args.working.brief c.args.kept.now came.new.kept}
    {Q = λ reason text. IsWritten g.K.Sink.held g.K.Sink.taken g.K.Sink.faults c.args.sink.now written.new.sink reason text written.result}
    came.result came.ensures.report came.ensures.refusal written.ensures.text written.ensures.refusal

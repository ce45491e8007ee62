use Rattle.std.proofs.Common.{map, string_bytes}
use Rattle.cluster_top.specs.Outcome.{CameTo, IsWritten}
use Rattle.cluster_top.proofs.Completeness.{ends-well}
use Rattle.cluster_top.proofs.Tasks.{ended}
use Rattle.cluster_top.proofs.top.plain_top.Goals as goal

pub returns-clause-outcome : goal.returns-clause-outcome
returns-clause-outcome g c =
    let came = c.answer-answer in
    let written = c.write_answer in
    ended {P = CameTo g.S.Source.left g.S.Source.given g.S.Source.ended g.S.Source.faults (map string_bytes c.args.words.now) c.args.source.now came.new.source}
    {Q = λ reason text. IsWritten g.K.Sink.held g.K.Sink.taken g.K.Sink.faults c.args.sink.now written.new.sink reason text written.result}
    came.result came.ensures.text came.ensures.refusal written.ensures.text written.ensures.refusal

pub returns-clause-complete : goal.returns-clause-complete
returns-clause-complete g c =
    ends-well g.S.Source.left g.S.Source.given g.S.Source.ended g.S.Source.faults g.K.Sink.held g.K.Sink.taken g.K.Sink.faults (map string_bytes c.args.words.now)
    c.args.source.now c.answer-answer.new.source c.args.sink.now c.write_answer.new.sink c.write_answer.result (returns-clause-outcome g c)

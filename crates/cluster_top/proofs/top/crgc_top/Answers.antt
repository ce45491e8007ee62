use Rattle.std.proofs.Common.{map, string_bytes}
use Rattle.cluster_top.proofs.Completeness.{workers-end-well}
use Rattle.cluster_top.proofs.top.crgc_top.Goals as goal

pub returns-in-Some-clause-complete : goal.returns-in-Some-clause-complete
returns-in-Some-clause-complete g c =
    let asked = c.in-Some.ensures in
    workers-end-well g.S.Source.left g.S.Source.given g.S.Source.ended g.S.Source.faults g.K.Sink.held g.K.Sink.taken g.K.Sink.faults (map string_bytes c.args.words.now)
    c.args.source.now c.working_top.new.source c.args.sink.now c.working_top.new.sink c.working_top.result c.in-Some.working.workers c.in-Some.working.brief
    c.args.kept.now c.working_top.new.kept asked.0 c.working_top.ensures.outcome

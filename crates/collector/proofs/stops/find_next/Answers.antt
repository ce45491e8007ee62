use Rattle.collector.proofs.LeftLemmas.{finds-back, takes-one}
use Rattle.collector.proofs.stops.find_next.Goals as goal

pub returns-clause-takes : goal.returns-clause-takes
returns-clause-takes c = takes-one c.args.graph.now c.pop_fallen.new.self c.in-Some.place c.in-Some.ensures.rest

pub returns-clause-next : goal.returns-clause-next
returns-clause-next c = λ _.
    let t = c.args.graph.now in
    let u = c.pop_fallen.new.self in
    let p = c.in-Some.place in (
      p,
      c.in-Some.ensures.rest,
      c.in-Some.ensures.some,
      finds-back t u c.args.node c.args.stopped.now p c.args.found.now.items c.push_if_falls.new.found.items (takes-one t u p c.in-Some.ensures.rest) c.in_ok-push_if_falls.ensures,
    )

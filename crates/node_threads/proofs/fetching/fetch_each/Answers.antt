use Rattle.std.proofs.Common.{false, refl}
use Rattle.cluster_calls.proofs.Same.{same-then}
use Rattle.node_threads.specs.Fetching.{EachIsFetched}
use Rattle.node_threads.proofs.HandLemmas.{goes-none, goes-weaker}
use Rattle.node_threads.proofs.RoundLemmas.{each-all, each-down, each-none, fetched-each}
use Rattle.node_threads.proofs.fetching.fetch_each.Goals as goal

pub loop-number-init : goal.loop-number-init
loop-number-init g c =
    let collector = c.args.collector.now in
    (refl, goes-none c.args.lock.now c.args.pass.now collector (EachIsFetched 0 collector false) c.requires (each-none collector))

pub loop-number-preserved : goal.loop-number-preserved
loop-number-preserved g c = (
  same-then c.args.pass.now c.loop-number.pass c.fetch_from.new.pass c.loop-number.invariant.0 c.fetch_from.ensures.same,
  fetched-each c.args.lock.now c.args.pass.now c.loop-number.pass c.fetch_from.new.pass c.args.collector.now c.loop-number.collector c.fetch_from.new.collector c.loop-number.number c.loop-number.any c.in-Ok-Some.field-0
      c.loop-number.invariant.1 c.in-Ok-Some.ensures.all c.in-Ok-Some.some c.in-Ok-Some.field-0-is,
)

pub returns-in-Ok-None-clause-each : goal.returns-in-Ok-None-clause-each
returns-in-Ok-None-clause-each g c =
    each-down c.args.lock.now c.args.pass.now c.loop-number.pass c.fetch_from.new.pass c.args.collector.now c.loop-number.collector c.fetch_from.new.collector c.loop-number.number c.loop-number.any c.in-Ok-None.field-0
    c.loop-number.invariant.1 c.in-Ok-None.ensures.all c.in-Ok-None.field-0-is

pub returns-clause-each : goal.returns-clause-each
returns-clause-each g c =
    goes-weaker c.args.lock.now c.args.pass.now c.loop-number.pass c.args.collector.now c.loop-number.collector (EachIsFetched c.loop-number.number c.loop-number.collector c.loop-number.any) (EachIsFetched 16 c.loop-number.collector c.loop-number.any)
    (λ calls. each-all c.loop-number.number c.loop-number.collector c.loop-number.any calls c.loop-number-test.false) c.loop-number.invariant.1

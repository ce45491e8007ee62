use Rattle.std.proofs.Common.{◌∙◌, Some, ap, false, refl}
use Rattle.cluster_calls.proofs.Same.{same-then}
use Rattle.node_threads.specs.Fetching.{AreFetched}
use Rattle.node_threads.proofs.HandLemmas.{goes-none}
use Rattle.node_threads.proofs.RoundLemmas.{fetched-down, fetched-last, fetched-one, none-fetched}
use Rattle.node_threads.proofs.fetching.fetch_all.Goals as goal

pub loop-init : goal.loop-init
loop-init g c =
    let collector = c.args.collector.now in
    (refl, goes-none c.args.lock.now c.args.pass.now collector (AreFetched c.args.origin collector collector false) c.requires.may (none-fetched c.args.origin collector))

pub loop-preserved : goal.loop-preserved
loop-preserved g c = (
  same-then c.args.pass.now c.loop.pass c.fetch.new.pass c.loop.invariant.0 c.fetch.ensures.same,
  fetched-one c.args.lock.now c.args.pass.now c.loop.pass c.fetch.new.pass c.args.collector.now c.loop.collector c.fetch.new.collector c.args.origin c.loop.any c.in-Ok-Some-true.field-0
      c.loop.invariant.1 c.in-Ok-Some-true.ensures.next (c.in-Ok-Some-true.field-0-is ∙ ap Some c.in-Ok-Some-true.field-0-0-test),
)

pub returns-in-Ok-Some-false-clause-all : goal.returns-in-Ok-Some-false-clause-all
returns-in-Ok-Some-false-clause-all g c =
    fetched-last c.args.lock.now c.args.pass.now c.loop.pass c.fetch.new.pass c.args.collector.now c.loop.collector c.fetch.new.collector c.args.origin c.loop.any c.in-Ok-Some-false.field-0
    c.loop.invariant.1 c.in-Ok-Some-false.ensures.next (c.in-Ok-Some-false.field-0-is ∙ ap Some c.in-Ok-Some-false.field-0-0-test)

pub returns-in-Ok-None-clause-all : goal.returns-in-Ok-None-clause-all
returns-in-Ok-None-clause-all g c =
    fetched-down c.args.lock.now c.args.pass.now c.loop.pass c.fetch.new.pass c.args.collector.now c.loop.collector c.fetch.new.collector c.args.origin c.loop.any c.in-Ok-None.field-0
    c.loop.invariant.1 c.in-Ok-None.ensures.next c.in-Ok-None.field-0-is

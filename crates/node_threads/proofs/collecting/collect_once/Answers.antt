use Rattle.std.proofs.Common.{◌∙◌, Some, ap, true, false}
use Rattle.std.proofs.lemmas.Result.{IfOk-weaker}
use Rattle.node_threads.specs.Fetching.{AreSweeps, EachIsFetched, GoesOrEnds, IsRound}
use Rattle.node_threads.proofs.HandLemmas.{ends-of, goes-of, goes-weaker}
use Rattle.node_threads.proofs.RoundLemmas.{given-round, round-idle, round-or_swept}
use Rattle.node_threads.proofs.collecting.collect_once.Goals as goal

pub sweep-requires : goal.sweep-requires
sweep-requires g c =
    let lock = c.args.lock.now in
    let old = c.args.pass.now in
    let new = c.fetch_each.new.pass in
    let before = c.args.collector.now in
    let after = c.fetch_each.new.collector in
    let goes = goes-of lock old new before after (EachIsFetched 16 after) c.in-Ok-Some-true.field-0 true (c.in-Ok-Some-true.field-0-is ∙ ap Some c.in-Ok-Some-true.field-0-0-test) c.in-Ok-Some-true.ensures.each in
    record { may = goes.can; given = given-round lock old new before after goes }

pub returns-in-Ok-Some-true-clause-round : goal.returns-in-Ok-Some-true-clause-round
returns-in-Ok-Some-true-clause-round g c =
    let lock = c.args.lock.now in
    let old = c.args.pass.now in
    let mid = c.fetch_each.new.pass in
    let new = c.sweep.new.pass in
    let before = c.args.collector.now in
    let half = c.fetch_each.new.collector in
    let after = c.sweep.new.collector in
    IfOk-weaker c.sweep.result (GoesOrEnds lock mid new half after (AreSweeps half after)) (GoesOrEnds lock old new before after (IsRound after))
    (round-or_swept lock old mid new before half after c.in-Ok-Some-true.field-0 (c.in-Ok-Some-true.field-0-is ∙ ap Some c.in-Ok-Some-true.field-0-0-test) c.in-Ok-Some-true.ensures.each) c.sweep.ensures.swept

pub returns-in-Ok-Some-false-clause-round : goal.returns-in-Ok-Some-false-clause-round
returns-in-Ok-Some-false-clause-round g c =
    let lock = c.args.lock.now in
    let old = c.args.pass.now in
    let new = c.fetch_each.new.pass in
    let before = c.args.collector.now in
    let after = c.fetch_each.new.collector in
    goes-weaker lock old new before after (EachIsFetched 16 after false) (IsRound after false) (round-idle after)
    (goes-of lock old new before after (EachIsFetched 16 after) c.in-Ok-Some-false.field-0 false (c.in-Ok-Some-false.field-0-is ∙ ap Some c.in-Ok-Some-false.field-0-0-test) c.in-Ok-Some-false.ensures.each)

pub returns-in-Ok-None-clause-round : goal.returns-in-Ok-None-clause-round
returns-in-Ok-None-clause-round g c =
    let after = c.fetch_each.new.collector in
    ends-of c.args.lock.now c.args.pass.now c.fetch_each.new.pass c.args.collector.now after (EachIsFetched 16 after) c.in-Ok-None.field-0 c.in-Ok-None.field-0-is c.in-Ok-None.ensures.each

use Rattle.std.proofs.Common.{◌∙◌, refl, inl, inr}
use Rattle.node_threads.specs.Fetching.{IsRound}
use Rattle.node_threads.proofs.HandLemmas.{ends-of, goes-of}
use Rattle.node_threads.proofs.RoundLemmas.{all-collected, can-asked, over-next, same-next, swept-next, swept-none}
use Rattle.node_threads.proofs.collecting.collect_all.Goals as goal

pub loop-init : goal.loop-init
loop-init g c = record {
  same = refl;
  can = c.requires.may;
  node = refl;
  over = c.requires.over;
  swept = swept-none c.args.collector.node c.args.pass.now.own;
}

pub loop-preserved : goal.loop-preserved
loop-preserved g c =
    let lock = c.args.lock.now in
    let start = c.args.pass.now in
    let old = c.loop.pass in
    let mid = c.collect_once.new.pass in
    let new = c.all_done.new.pass in
    let before = c.loop.collector in
    let after = c.collect_once.new.collector in
    let was = c.loop.invariant in
    let once = c.collect_once.ensures.same in
    let asked = c.all_done.ensures.asked in
    let goes = goes-of lock old mid before after (IsRound after) c.in-Ok-Some.field-0 c.in-Ok-Some.any c.in-Ok-Some.field-0-is c.in-Ok-Some.ensures.round in
    record {
      same = same-next lock start old mid new c.args.collector before after c.in-Ok-Some.any c.loop.over asked.0 was.same was.node was.over was.swept once goes asked.1;
      can = can-asked lock mid new after asked.0 goes.can asked.1;
      node = goes.node ∙ was.node;
      over = over-next lock start old mid new c.args.collector before after c.in-Ok-Some.any c.loop.over asked.0 was.same was.node was.over was.swept once goes asked.1 c.in-Ok.done c.in-Ok.ensures.own;
      swept = swept-next lock start old mid new c.args.collector before after c.in-Ok-Some.any c.loop.over asked.0 was.same was.node was.over was.swept once goes asked.1;
    }

pub returns-in-Ok-None-clause-done : goal.returns-in-Ok-None-clause-done
returns-in-Ok-None-clause-done g c =
    let after = c.collect_once.new.collector in
    let ends = ends-of c.args.lock.now c.loop.pass c.collect_once.new.pass c.loop.collector after (IsRound after) c.in-Ok-None.field-0 c.in-Ok-None.field-0-is c.in-Ok-None.ensures.round in
    inr ends.down

pub returns-in-Ok-None-clause-node : goal.returns-in-Ok-None-clause-node
returns-in-Ok-None-clause-node g c =
    let after = c.collect_once.new.collector in
    let ends = ends-of c.args.lock.now c.loop.pass c.collect_once.new.pass c.loop.collector after (IsRound after) c.in-Ok-None.field-0 c.in-Ok-None.field-0-is c.in-Ok-None.ensures.round in
    let was = c.loop.invariant in
    ends.node ∙ was.node

pub returns-in-Ok-None-clause-dropped : goal.returns-in-Ok-None-clause-dropped
returns-in-Ok-None-clause-dropped g c =
    let after = c.collect_once.new.collector in
    let ends = ends-of c.args.lock.now c.loop.pass c.collect_once.new.pass c.loop.collector after (IsRound after) c.in-Ok-None.field-0 c.in-Ok-None.field-0-is c.in-Ok-None.ensures.round in
    ends.dropped

pub returns-then-done-over-clause-done : goal.returns-then-done-over-clause-done
returns-then-done-over-clause-done g c =
    let lock = c.args.lock.now in
    let old = c.loop.pass in
    let mid = c.collect_once.new.pass in
    let before = c.loop.collector in
    let after = c.collect_once.new.collector in
    let was = c.loop.invariant in
    let asked = c.all_done.ensures.asked in
    let goes = goes-of lock old mid before after (IsRound after) c.in-Ok-Some.field-0 c.in-Ok-Some.any c.in-Ok-Some.field-0-is c.in-Ok-Some.ensures.round in
    inl (all-collected lock c.args.pass.now old mid c.all_done.new.pass c.args.collector before after c.in-Ok-Some.any c.loop.over asked.0 was.same was.node was.over was.swept c.collect_once.ensures.same goes asked.1
    c.in-Ok.done c.if-done-over.true c.in-Ok.ensures.own)

pub returns-then-done-over-clause-node : goal.returns-then-done-over-clause-node
returns-then-done-over-clause-node g c =
    let after = c.collect_once.new.collector in
    let goes = goes-of c.args.lock.now c.loop.pass c.collect_once.new.pass c.loop.collector after (IsRound after) c.in-Ok-Some.field-0 c.in-Ok-Some.any c.in-Ok-Some.field-0-is c.in-Ok-Some.ensures.round in
    let was = c.loop.invariant in
    goes.node ∙ was.node

pub returns-then-done-over-clause-dropped : goal.returns-then-done-over-clause-dropped
returns-then-done-over-clause-dropped g c =
    let after = c.collect_once.new.collector in
    let goes = goes-of c.args.lock.now c.loop.pass c.collect_once.new.pass c.loop.collector after (IsRound after) c.in-Ok-Some.field-0 c.in-Ok-Some.any c.in-Ok-Some.field-0-is c.in-Ok-Some.ensures.round in
    let can = goes.can in
    can.dropped

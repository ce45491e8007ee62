use Rattle.std.proofs.Common.{◌∙◌, ap, arith, false, not, subst, sym, true}
use Rattle.script_progress.specs.Used.{IsNextPlanned}
use Rattle.world_object.proofs.Searches.{next-passed, next-wakes, nobody-wakes, none-by_some, wake-test}
use Rattle.world_object.proofs.parts.ClusterParts.next_wake.Goals as goal

pub returns-then-is_none : goal.returns-then-is_none
returns-then-is_none c =
    let p = c.args.self.now in
    let a = c.in-Some.actor in
    let stands = c.requires in
    let sound = stands.sound in
    let possible = wake-test p stands.cluster a c.refusal.result true c.refusal.ensures (none-by_some c.refusal.result true (c.is_none.ensures ∙ ap not c.if-is_none.true)) in
    sym (next-wakes p.script.value p.world.past p.progress stands.progress c.loop-actor.after c.loop-actor.invariant.before a c.in-Some.ensures sound.0 possible)

pub loop-actor-preserved : goal.loop-actor-preserved
loop-actor-preserved c =
    let p = c.args.self.now in
    let a = c.in-Some.actor in
    let stands = c.requires in
    let impossible = wake-test p stands.cluster a c.refusal.result false c.refusal.ensures (none-by_some c.refusal.result false (c.is_none.ensures ∙ ap not c.if-is_none.false)) in
    let same = c.get.ensures.number in
    let small = c.get.ensures.in_range in
    let number = c.node.ensures in
    let serial = c.serial.ensures.number in
    let low = c.serial.ensures.in_range in
    record {
      before = next-passed p.script.value p.world.past p.progress stands.progress c.loop-actor.after c.loop-actor.invariant.before a c.in-Some.ensures impossible;
      place = (omega (arith, same, small, number), omega (arith, serial, low));
    }

pub returns : goal.returns
returns c =
    let p = c.args.self.now in
    let stands = c.requires in
    sym (nobody-wakes p.script.value p.world.past p.progress stands.progress c.loop-actor.after c.loop-actor.invariant.before (subst (IsNextPlanned p.progress c.loop-actor.after) c.in_default.is c.next_planned.ensures))

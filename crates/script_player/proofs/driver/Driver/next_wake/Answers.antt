use Rattle.std.proofs.Common.{Some, sym, ◌∙◌}
use Rattle.std.proofs.lemmas.Bool.{and_parts}
use Rattle.history_model.specs.State.{is_root, is_up}
use Rattle.script_player.proofs.Idle.{between-idle}
use Rattle.script_player.proofs.Wakes.{no-wake, search-on, search-wake}
use Rattle.script_player.proofs.driver.Driver.next_wake.Goals as goal

pub returns-then-may_wake-clause-next : goal.returns-then-may_wake-clause-next
returns-then-may_wake-clause-next c =
    let d = c.loop-actor.self in
    let s = d.script.value in
    let h = d.course.past in
    let a = c.in-Some.actor in
    let between = c.loop-actor.invariant.0 in
    let parts = and_parts (is_root a h) (is_up a.node h) (sym c.may_wake.ensures ∙ c.if-may_wake.true) in
    let possible = c.the_candidate_is_the_next_wake.ensures.may s h a parts.0 parts.1 (between-idle d a between) in
    let progress = c.candidate.ensures.stands s h between.0.progress in
    search-wake c.args.self.now d (Some a) c.loop-actor.invariant
    (c.the_candidate_is_the_next_wake.ensures.some s h c.candidate.new.self a progress c.in-Some.ensures.first c.in-Some.ensures.left possible)

pub loop-actor-preserved : goal.loop-actor-preserved
loop-actor-preserved c =
    let d = c.loop-actor.self in
    let s = d.script.value in
    let h = d.course.past in
    let progress = c.candidate.ensures.stands s h c.loop-actor.invariant.0.0.progress in
    let never = no-wake d c.in-Some.actor (sym c.may_wake.ensures ∙ c.if-may_wake.false) in
    search-on c.args.self.now d c.pass.new.self c.loop-actor.invariant (c.pass.ensures.stands s h progress never)

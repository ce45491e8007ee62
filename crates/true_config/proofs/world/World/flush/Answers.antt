use Rattle.std.proofs.Common.{rules, refl, subst, sym}
use Rattle.history_model.specs.declared.events.Event.TheVariants.{Flush}
use Rattle.roster.proofs.TableSteps.{stands-flushed}
use Rattle.true_config.specs.Steps.{MayFollow}
use Rattle.true_config.proofs.Growing.{beside-keeps, grows}
use Rattle.true_config.proofs.ToldEvents.{flush-due, flush-stands}
use Rattle.true_config.proofs.world.World.flush.Goals as goal

pub flush-entry-requires-clause-due : goal.flush-entry-requires-clause-due
flush-entry-requires-clause-due c =
    let e = Flush c.args.actor in
    let may = subst (MayFollow e) (sym c.self.view_is) c.requires in
    flush-due c.self.inside.history.cluster c.self.inside.history.past c.self.inside.roster c.args.actor c.self.invariant.roster may.legal

pub invariant_of-self-2 : goal.invariant_of-self-2
invariant_of-self-2 c =
    let e = Flush c.args.actor in
    let old = c.self.inside.history in
    let r = c.self.inside.roster in
    let q = c.flush-entry.new.self in
    let t = c.self.inside.traffic in
    let s = c.self.inside.streams in
    let mid = c.reserve_entry.new.self in
    let new = c.enqueue.new.self in
    grows e old c.push.new.self t t r q s new (record { cluster = c.push.ensures.cluster; past = c.in-Ok-push.ensures.ok })
    (subst (MayFollow e) (sym c.self.view_is) c.requires) (search rules) c.self.invariant
    (beside-keeps old.cluster e old.past t refl) (stands-flushed old.cluster c.args.actor old.past r q c.flush-entry.ensures.after)
    (flush-stands Flush old.cluster old.past c.args.actor _ c.flush-entry.result s mid new (c.self.invariant.roster.states c.args.actor) c.flush-entry.ensures.entry c.reserve_entry.ensures.same (λ tells. c.enqueue.ensures.stands old.cluster old.past tells))

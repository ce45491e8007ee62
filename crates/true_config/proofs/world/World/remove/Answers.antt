use Rattle.std.proofs.Common.{rules, refl, subst, sym}
use Rattle.history_model.specs.declared.events.Event.TheVariants.{Remove}
use Rattle.roster.proofs.TableSteps.{stands-left}
use Rattle.true_config.specs.Steps.{MayFollow}
use Rattle.true_config.proofs.Growing.{grows}
use Rattle.true_config.proofs.ToldEvents.{link-stands}
use Rattle.true_config.proofs.world.World.remove.Goals as goal

pub invariant_of-self-2 : goal.invariant_of-self-2
invariant_of-self-2 c =
    let e = Remove c.args.at c.args.gone in
    let old = c.self.inside.history in
    let r = c.self.inside.roster in
    let t = c.self.inside.traffic in
    let s = c.self.inside.streams in
    let mid = c.reserve_bulletin.new.self in
    let new = c.append_final.new.self in
    grows e old c.push.new.self t c.close-window.new.self r r s new (record { cluster = c.push.ensures.cluster; past = c.in-Ok-push.ensures.ok })
    (subst (MayFollow e) (sym c.self.view_is) c.requires) (search rules) c.self.invariant
    (c.close-window.ensures.kept old.cluster old.past) (stands-left old.cluster e old.past r refl)
    (link-stands Remove old.cluster old.past c.close-window.result c.args.gone c.args.at s mid new (c.close-window.ensures.counts old.cluster old.past c.self.invariant.traffic) c.reserve_bulletin.ensures.same (λ tells. c.append_final.ensures.stands old.cluster old.past tells))

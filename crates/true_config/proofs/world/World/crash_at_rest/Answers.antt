use Rattle.std.proofs.Common.{rules, refl, subst, sym, ◌∙◌, ap, drop}
use Rattle.history_model.specs.declared.events.Event.TheVariants.{Crash, Rest}
use Rattle.history_model.specs.Legal.{checks}
use Rattle.history_model.specs.Story.{Story}
use Rattle.history_model.proofs.Basics.{first_broken-none}
use Rattle.bulletin_streams.proofs.StandingLemmas.{silent-stands}
use Rattle.roster.proofs.TableSteps.{stands-alike, stands-crashed, stands-rested}
use Rattle.true_config.specs.Applying.{after}
use Rattle.true_config.specs.Steps.{MayFollow}
use Rattle.traffic.proofs.KeepingActors.{rest-undone}
use Rattle.true_config.proofs.Growing.{grows, same-story, stays}
use Rattle.true_config.proofs.world.World.crash_at_rest.Goals as goal

pub invariant_of-self-in_default-rest-2 : goal.invariant_of-self-in_default-rest-2
invariant_of-self-in_default-rest-2 c =
    let a = c.args.actor in
    let old = c.self.inside.history in
    let s = c.self.inside.streams in
    let undone = c.take_back_both-in_default-rest-2 in
    let may = subst (MayFollow (Rest a)) (sym c.self.view_is) c.requires.rest in
    let kept = first_broken-none (checks old.cluster (Rest a) old.past) may.legal in
    let same = same-story undone.new.history old (undone.ensures.cluster ∙ c.push_both.ensures.cluster) (undone.ensures.past ∙ ap (λ h. drop 1 (drop 1 h)) c.in-Ok.ensures.ok) in
    stays old undone.new.history c.self.inside.traffic c.wake.new.self c.self.inside.roster c.rest-2.new.self s s same c.self.invariant
    (rest-undone old.cluster old.past a c.self.inside.traffic c.rest.new.self c.wake.new.self kept.1.1.0 c.in-Ok-rest.ensures.ok c.wake.ensures.change)
    (stands-alike old.cluster old.past c.self.inside.roster c.rest-2.new.self c.in_default-rest-2.ensures.err) (λ is. is)

pub invariant_of-self-2 : goal.invariant_of-self-2
invariant_of-self-2 c =
    let a = c.args.actor in
    let first = Rest a in
    let second = Crash c.node-node.result in
    let old = c.self.inside.history in
    let mid = after first old in
    let t = c.self.inside.traffic in
    let u = c.rest.new.self in
    let v = c.crash.new.self in
    let r = c.self.inside.roster in
    let q = c.rest-2.new.self in
    let z = c.crash-2.new.self in
    let s = c.self.inside.streams in
    let may_rest = subst (MayFollow first) (sym c.self.view_is) c.requires.rest in
    let may_crash = subst (λ (x : Story). MayFollow second (after first x)) (sym c.self.view_is) (subst (λ n. MayFollow (Crash n) (after first c.args.self.now)) (sym c.node-node.ensures) c.requires.crash) in
    let rested = grows first old mid t u r q s s (record { cluster = refl; past = refl }) may_rest (search rules) c.self.invariant
    (c.in-Ok-rest.ensures.kept old.cluster old.past) (stands-rested old.cluster a old.past r q c.in-Ok-rest-2.ensures.ok) (silent-stands old.cluster first old.past s refl) in
    grows second mid c.push_both.new.history u v q z s s (record { cluster = c.push_both.ensures.cluster; past = c.in-Ok.ensures.ok }) may_crash (search rules) rested
    (c.crash.ensures.kept mid.cluster mid.past) (stands-crashed mid.cluster c.node-node.result mid.past q z c.crash-2.ensures) (silent-stands mid.cluster second mid.past s refl)

use Rattle.std.proofs.Common.{not, rules, refl, subst, sym, ◌∙◌, ap}
use Rattle.std.specs.Option.{is_some}
use Rattle.history_model.specs.declared.events.Event.TheVariants.{Admit}
use Rattle.history_model.specs.Messages.{was_admitted}
use Rattle.history_model.specs.Story.{Story}
use Rattle.bulletin_streams.proofs.StandingLemmas.{silent-stands}
use Rattle.traffic.specs.Standing.{TellsIdle}
use Rattle.roster.proofs.TableSteps.{stands-left}
use Rattle.true_config.specs.Steps.{MayFollow}
use Rattle.true_config.proofs.Growing.{grows}
use Rattle.true_config.proofs.MailEvents.{admission-fits, first-admitted, idle-told}
use Rattle.true_config.proofs.world.World.admit.Goals as goal

pub admit-requires-clause-fits : goal.admit-requires-clause-fits
admit-requires-clause-fits c =
    let e = Admit c.args.from c.args.at c.args.number in
    let may = subst (MayFollow e) (sym c.self.view_is) c.requires in
    admission-fits c.self.inside.history.cluster c.self.inside.history.past c.self.inside.traffic c.args.from c.args.at c.args.number c.self.invariant.within c.self.invariant.traffic may.legal

pub invariant_of-self-in-Ok-admit : goal.invariant_of-self-in-Ok-admit
invariant_of-self-in-Ok-admit c =
    let e = Admit c.args.from c.args.at c.args.number in
    let old = c.self.inside.history in
    let r = c.self.inside.roster in
    let s = c.self.inside.streams in
    let told = subst (λ to. TellsIdle c.is_idle-idle.result to old.past) c.recipient-to.ensures (idle-told old.cluster old.past r c.recipient-to.result c.is_idle-idle.result c.self.invariant.roster c.is_idle-idle.ensures.some) in
    grows e old c.push.new.self c.self.inside.traffic c.admit.new.self r r s s (record { cluster = c.push.ensures.cluster; past = c.in-Ok.ensures.ok })
    (subst (MayFollow e) (sym c.self.view_is) c.requires) (search rules) c.self.invariant
    (c.in-Ok-admit.ensures.kept old.cluster old.past told) (stands-left old.cluster e old.past r refl) (silent-stands old.cluster e old.past s refl)

pub returns-clause-first : goal.returns-clause-first
returns-clause-first c =
    let old = c.self.inside.history in
    let may = subst (MayFollow (Admit c.args.from c.args.at c.args.number)) (sym c.self.view_is) c.requires in
    c.is_some.ensures ∙ ap is_some c.in-Ok-admit.ensures.to
    ∙ first-admitted old.cluster old.past c.self.inside.traffic c.args.from c.args.at c.args.number c.self.invariant.traffic (may.legal, c.self.invariant.within.legal)
    ∙ ap (λ (x : Story). not (was_admitted c.args.from c.args.at c.args.number x.past)) c.self.view_is

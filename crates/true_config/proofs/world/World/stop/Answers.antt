use Rattle.std.proofs.Common.{rules, refl, subst, sym}
use Rattle.std.specs.List.{AllByRecursion}
use Rattle.history_model.specs.declared.events.Event.TheVariants.{Sweep}
use Rattle.history_model.specs.Story.{Story}
use Rattle.history_model.specs.Sweeps.{IsVerdict}
use Rattle.history_model.specs.declared.records.Stop.{Stop}
use Rattle.roster.specs.Table.{IsHere, Stops}
use Rattle.roster.proofs.SweepSteps.{stands-swept}
use Rattle.true_config.specs.Steps.{MayFollow}
use Rattle.true_config.proofs.Growing.{grows-in_roster}
use Rattle.true_config.proofs.Stopping.{stops-here, stops-named}
use Rattle.true_config.proofs.world.World.stop.Goals as goal

pub stop-requires : goal.stop-requires
stop-requires c =
    let v = c.args.verdict.now in
    let e = Sweep v.node in
    let old = c.self.inside.history in
    let may = subst (MayFollow e) (sym c.self.view_is) c.requires.may in
    let found = subst (λ (s : Story). IsVerdict s.cluster v.node s.past v) (sym c.self.view_is) c.requires.found in
    subst (λ stops. AllByRecursion (λ (s : Stop). IsHere c.self.inside.roster s.actor) stops) (sym c.as_slice.ensures)
    (stops-here old.cluster v.node old.past c.self.inside.roster v (may.legal, c.self.invariant.within.legal) c.self.invariant.roster found)

pub invariant_of-self-2 : goal.invariant_of-self-2
invariant_of-self-2 c =
    let v = c.args.verdict.now in
    let e = Sweep v.node in
    let old = c.self.inside.history in
    let r = c.self.inside.roster in
    let q = c.stop.new.self in
    let may = subst (MayFollow e) (sym c.self.view_is) c.requires.may in
    let found = subst (λ (s : Story). IsVerdict s.cluster v.node s.past v) (sym c.self.view_is) c.requires.found in
    grows-in_roster e old c.push.new.self c.self.inside.traffic r q c.self.inside.streams (record { cluster = c.push.ensures.cluster; past = c.in-Ok.ensures.ok })
    may (search rules) c.self.invariant refl refl (stands-swept old.cluster v.node old.past r q v.stops (stops-named old.cluster v.node old.past v found) (subst (λ stops. Stops r q stops) c.as_slice.ensures c.stop.ensures))

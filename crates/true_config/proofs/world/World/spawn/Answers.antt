use Rattle.std.proofs.Common.{rules, refl, subst, sym, arith}
use Rattle.history_model.specs.declared.events.Event.TheVariants.{Spawn}
use Rattle.true_config.specs.Steps.{MayFollow}
use Rattle.roster.proofs.TableSteps.{stands-spawned}
use Rattle.true_config.proofs.Bounds.{actor-has_room}
use Rattle.true_config.proofs.Growing.{grows-in_roster}
use Rattle.true_config.proofs.world.World.spawn.Goals as goal

pub spawn-requires-clause-fits : goal.spawn-requires-clause-fits
spawn-requires-clause-fits c = actor-has_room c.self.inside.history.cluster c.self.inside.history.past c.self.inside.roster c.args.parent 1 c.self.invariant.within c.self.invariant.roster (omega arith)

pub invariant_of-self-in-Ok-spawn : goal.invariant_of-self-in-Ok-spawn
invariant_of-self-in-Ok-spawn c =
    let e = Spawn c.args.parent in
    let old = c.self.inside.history in
    let r = c.self.inside.roster in
    let q = c.spawn.new.self in
    grows-in_roster e old c.push.new.self c.self.inside.traffic r q c.self.inside.streams (record { cluster = c.push.ensures.cluster; past = c.in-Ok.ensures.ok })
    (subst (MayFollow e) (sym c.self.view_is) c.requires) (search rules) c.self.invariant refl refl (stands-spawned old.cluster c.args.parent old.past r q c.in-Ok-spawn.ensures.ok)

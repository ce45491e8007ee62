use Rattle.std.proofs.Common.{rules, refl, subst, sym, arith}
use Rattle.history_model.specs.declared.events.Event.TheVariants.{Drop}
use Rattle.true_config.specs.Steps.{MayFollow}
use Rattle.roster.proofs.TableSteps.{stands-dropped}
use Rattle.true_config.proofs.Bounds.{actor-has_room}
use Rattle.true_config.proofs.Growing.{grows-in_roster}
use Rattle.true_config.proofs.world.World.drop_reference.Goals as goal

pub drop_reference-requires-clause-fits : goal.drop_reference-requires-clause-fits
drop_reference-requires-clause-fits c = actor-has_room c.self.inside.history.cluster c.self.inside.history.past c.self.inside.roster c.args.actor 1 c.self.invariant.within c.self.invariant.roster (omega arith)

pub invariant_of-self-in-Ok-drop_reference : goal.invariant_of-self-in-Ok-drop_reference
invariant_of-self-in-Ok-drop_reference c =
    let e = Drop c.args.actor c.args.target in
    let old = c.self.inside.history in
    let r = c.self.inside.roster in
    let q = c.drop_reference.new.self in
    grows-in_roster e old c.push.new.self c.self.inside.traffic r q c.self.inside.streams (record { cluster = c.push.ensures.cluster; past = c.in-Ok.ensures.ok })
    (subst (MayFollow e) (sym c.self.view_is) c.requires) (search rules) c.self.invariant refl refl (stands-dropped old.cluster c.args.actor old.past r q c.args.target c.in-Ok-drop_reference.ensures.ok)

use Rattle.std.proofs.Common.{rules, refl, subst, sym}
use Rattle.history_model.specs.declared.events.Event.TheVariants.{Retire}
use Rattle.true_config.specs.Steps.{MayFollow}
use Rattle.roster.proofs.TableSteps.{stands-retired}
use Rattle.true_config.proofs.Growing.{grows-in_roster}
use Rattle.true_config.proofs.world.World.retire.Goals as goal

pub invariant_of-self-in-Ok-retire : goal.invariant_of-self-in-Ok-retire
invariant_of-self-in-Ok-retire c =
    let e = Retire c.args.actor in
    let old = c.self.inside.history in
    let r = c.self.inside.roster in
    let q = c.retire.new.self in
    grows-in_roster e old c.push.new.self c.self.inside.traffic r q c.self.inside.streams (record { cluster = c.push.ensures.cluster; past = c.in-Ok.ensures.ok })
    (subst (MayFollow e) (sym c.self.view_is) c.requires) (search rules) c.self.invariant refl refl (stands-retired old.cluster c.args.actor old.past r q c.in-Ok-retire.ensures.ok)

use Rattle.std.proofs.Common.{rules, refl, subst, sym}
use Rattle.history_model.specs.declared.events.Event.TheVariants.{Seed}
use Rattle.true_config.specs.Steps.{MayFollow}
use Rattle.roster.proofs.TableSteps.{stands-seeded}
use Rattle.true_config.proofs.Growing.{grows-in_roster}
use Rattle.true_config.proofs.world.World.seed.Goals as goal

pub invariant_of-self-in-Ok-seed : goal.invariant_of-self-in-Ok-seed
invariant_of-self-in-Ok-seed c =
    let e = Seed c.args.node in
    let old = c.self.inside.history in
    let r = c.self.inside.roster in
    let q = c.seed.new.self in
    grows-in_roster e old c.push.new.self c.self.inside.traffic r q c.self.inside.streams (record { cluster = c.push.ensures.cluster; past = c.in-Ok.ensures.ok })
    (subst (MayFollow e) (sym c.self.view_is) c.requires) (search rules) c.self.invariant refl refl (stands-seeded old.cluster c.args.node old.past r q c.in-Ok-seed.ensures.ok)

use Rattle.std.proofs.Common.{rules, refl, subst, sym, arith}
use Rattle.history_model.specs.declared.events.Event.TheVariants.{Tie}
use Rattle.true_config.specs.Steps.{MayFollow}
use Rattle.roster.proofs.TableSteps.{stands-tied}
use Rattle.true_config.proofs.Bounds.{actor-has_room}
use Rattle.true_config.proofs.Growing.{grows-in_roster}
use Rattle.true_config.proofs.world.World.tie.Goals as goal

pub tie-requires-clause-owner_fits : goal.tie-requires-clause-owner_fits
tie-requires-clause-owner_fits c = actor-has_room c.self.inside.history.cluster c.self.inside.history.past c.self.inside.roster c.args.owner 1 c.self.invariant.within c.self.invariant.roster (omega arith)

pub tie-requires-clause-target_fits : goal.tie-requires-clause-target_fits
tie-requires-clause-target_fits c = actor-has_room c.self.inside.history.cluster c.self.inside.history.past c.self.inside.roster c.args.target 1 c.self.invariant.within c.self.invariant.roster (omega arith)

pub invariant_of-self-in-Ok-tie : goal.invariant_of-self-in-Ok-tie
invariant_of-self-in-Ok-tie c =
    let e = Tie c.args.owner c.args.target in
    let old = c.self.inside.history in
    let r = c.self.inside.roster in
    let q = c.tie.new.self in
    grows-in_roster e old c.push.new.self c.self.inside.traffic r q c.self.inside.streams (record { cluster = c.push.ensures.cluster; past = c.in-Ok.ensures.ok })
    (subst (MayFollow e) (sym c.self.view_is) c.requires) (search rules) c.self.invariant refl refl (stands-tied old.cluster c.args.owner c.args.target old.past r q c.in-Ok-tie.ensures.ok)

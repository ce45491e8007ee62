use Rattle.std.proofs.Common.{rules, refl, subst, sym}
use Rattle.history_model.specs.declared.events.Event.TheVariants.{Lose}
use Rattle.true_config.specs.Steps.{MayFollow}
use Rattle.true_config.proofs.Growing.{grows-in_traffic}
use Rattle.true_config.proofs.world.World.lose.Goals as goal

pub invariant_of-self-2 : goal.invariant_of-self-2
invariant_of-self-2 c =
    let e = Lose c.args.from c.args.at c.args.number in
    let old = c.self.inside.history in
    grows-in_traffic e old c.push.new.self c.self.inside.traffic c.lose.new.self c.self.inside.roster c.self.inside.streams (record { cluster = c.push.ensures.cluster; past = c.in-Ok.ensures.ok })
    (subst (MayFollow e) (sym c.self.view_is) c.requires) (search rules) c.self.invariant refl refl c.lose.ensures.kept

use Rattle.std.proofs.Common.{rules, refl, subst, sym}
use Rattle.history_model.specs.declared.events.Event.TheVariants.{Repeat}
use Rattle.true_config.specs.Steps.{MayFollow}
use Rattle.true_config.proofs.Bounds.{repeat-fits}
use Rattle.true_config.proofs.Growing.{grows-in_traffic}
use Rattle.true_config.proofs.world.World.repeat.Goals as goal

pub repeat-requires-clause-fits : goal.repeat-requires-clause-fits
repeat-requires-clause-fits c =
    let e = Repeat c.args.from c.args.at c.args.number in
    let may = subst (MayFollow e) (sym c.self.view_is) c.requires in
    repeat-fits c.self.inside.history.cluster c.self.inside.history.past c.self.inside.traffic c.args.from c.args.at c.args.number c.self.invariant.within c.self.invariant.traffic may.legal

pub invariant_of-self-2 : goal.invariant_of-self-2
invariant_of-self-2 c =
    let e = Repeat c.args.from c.args.at c.args.number in
    let old = c.self.inside.history in
    grows-in_traffic e old c.push.new.self c.self.inside.traffic c.repeat.new.self c.self.inside.roster c.self.inside.streams (record { cluster = c.push.ensures.cluster; past = c.in-Ok.ensures.ok })
    (subst (MayFollow e) (sym c.self.view_is) c.requires) (search rules) c.self.invariant refl refl c.repeat.ensures.kept

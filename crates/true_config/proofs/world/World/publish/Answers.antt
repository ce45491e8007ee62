use Rattle.std.proofs.Common.{◌≡◌, ◌<◌, length, None, rules, refl, subst, sym}
use Rattle.history_model.specs.declared.events.Event.TheVariants.{Publish}
use Rattle.history_model.specs.Legal.{refusal}
use Rattle.history_model.specs.Story.{Story}
use Rattle.true_config.specs.Steps.{MayFollow}
use Rattle.true_config.proofs.Bounds.{queue-fits}
use Rattle.true_config.proofs.Growing.{grows-in_streams}
use Rattle.true_config.proofs.Pairs.{publish-free}
use Rattle.true_config.proofs.world.World.publish.Goals as goal

pub publish-requires : goal.publish-requires
publish-requires c = record { fits = queue-fits c.self.inside.history.cluster c.self.inside.history.past c.self.inside.streams c.args.node c.self.invariant.within c.self.invariant.streams (search rules) }

pub invariant_of-self-in-Ok-publish : goal.invariant_of-self-in-Ok-publish
invariant_of-self-in-Ok-publish c =
    let e = Publish c.args.node in
    let old = c.self.inside.history in
    let legal = subst (λ (s : Story). refusal s.cluster e s.past ≡ None) (sym c.self.view_is) c.requires.legal in
    let room = subst (λ (s : Story). length s.past < 1000000) (sym c.self.view_is) c.requires.room in
    let free = publish-free old.cluster old.past c.args.node (c.in-Ok-publish.ensures.within old.cluster old.past c.self.invariant.streams) room in
    let may : MayFollow e old = record { legal = legal; limit = sym free } in
    grows-in_streams e old c.push.new.self c.self.inside.traffic c.self.inside.roster c.self.inside.streams c.publish.new.self (record { cluster = c.push.ensures.cluster; past = c.in-Ok.ensures.ok })
    may (search rules) c.self.invariant refl refl (c.in-Ok-publish.ensures.stands old.cluster old.past)

use Rattle.std.proofs.Common.{◌∙◌, refl, subst, sym}
use Rattle.std.specs.Prelude.{Ok}
use Rattle.true_config.specs.Applying.{OnDone, after}
use Rattle.true_config.specs.Steps.{Adds}
use Rattle.world_object.proofs.Effects.{both-follow}
use Rattle.world_object.proofs.parts.ClusterParts.make_both.Goals as goal

pub returns-in-Ok-Done-clause-ok : goal.returns-in-Ok-Done-clause-ok
returns-in-Ok-Done-clause-ok c =
    let old = c.args.self.now in
    let w = old.world in
    let e = c.args.first.now in
    let f = c.args.second.now in
    let adds : Adds f (after e w) c.apply_both.new.self = subst (λ x. OnDone (Ok x) (Adds f (after e w) c.apply_both.new.self)) c.in-Ok-Done.field-0-is c.in-Ok-Done.ensures.done in
    record {
      follow = both-follow old.script.value w.cluster e f w.past c.in-Ok-Done.field-0-0 c.requires.cluster (sym c.in-Ok-Done.field-0-is ∙ c.in-Ok-Done.ensures.answer);
      cluster = adds.cluster;
      past = adds.past;
      others = refl;
    }

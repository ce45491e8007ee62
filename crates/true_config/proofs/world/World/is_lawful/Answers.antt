use Rattle.std.proofs.Common.{subst}
use Rattle.bulletin_streams.specs.Standing.{IsWithinLimits}
use Rattle.history_model.specs.Story.{Story}
use Rattle.true_config.proofs.Stopping.{stopped-stable, stopped-supervised}
use Rattle.true_config.proofs.world.World.is_lawful.Goals as goal

pub returns : goal.returns
returns c =
    let within = subst (λ (s : Story). IsWithinLimits s.cluster s.past) c.self.view_is c.self.invariant.within in
    record {
      legal = within.legal;
      within = within;
      stable = stopped-stable c.args.self.now within.legal;
      supervised = stopped-supervised c.args.self.now within.legal;
    }

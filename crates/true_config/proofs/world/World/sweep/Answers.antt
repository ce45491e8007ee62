use Rattle.history_model.specs.declared.events.Event.TheVariants.{Sweep}
use Rattle.true_config.specs.Promises.{StopsAllAtQuietPoint, StopsTheQuiescent}
use Rattle.true_config.specs.Steps.{Adds}
use Rattle.true_config.proofs.Answering.{done-weaker}
use Rattle.true_config.proofs.Stopping.{stops-complete, stops-sound}
use Rattle.true_config.proofs.world.World.sweep.Goals as goal

pub returns-clause-sound : goal.returns-clause-sound
returns-clause-sound c =
    let old = c.args.self.now in
    let v = c.args.verdict.now in
    let swept = c.sweep_if_possible-result in
    done-weaker swept.result (Adds (Sweep v.node) old swept.new.self) (StopsTheQuiescent old v)
    (stops-sound old swept.new.self v c.requires c.is_lawful.ensures.legal) swept.ensures.done

pub returns-clause-complete : goal.returns-clause-complete
returns-clause-complete c =
    let old = c.args.self.now in
    let v = c.args.verdict.now in
    let swept = c.sweep_if_possible-result in
    done-weaker swept.result (Adds (Sweep v.node) old swept.new.self) (StopsAllAtQuietPoint v.node old swept.new.self)
    (stops-complete old swept.new.self v.node c.is_lawful.ensures.legal) swept.ensures.done

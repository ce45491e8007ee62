use Rattle.world_object.proofs.Moving.{step-stands}
use Rattle.world_object.proofs.shared.SharedObject.step.Goals as goal

pub returns : goal.returns
returns c = λ start history is may.
    step-stands start history c.args.state.now is c.is_sound.ensures may.sound c.args.pass c.args.op c.step.result c.step.new.self may.fits c.step.ensures

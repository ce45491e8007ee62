use Rattle.std.proofs.Common.{◌-◌, [], None, refl, replicate, subst, rules}
use Rattle.turn_lock.specs.declared.lock.TheConstants.{DOOR}
use Rattle.turn_lock.proofs.Keeps.{opens}
use Rattle.turn_lock.proofs.lock.TurnLock.new.Goals as goal

pub new-requires : goal.new-requires
new-requires g c = opens g.O.Object.fits g.O.Object.stands c.of-start.result.value _ (replicate (DOOR - 2) 0) c.push.new.self.items (record { state = c.args.state; last = None }) refl (search rules) (subst (λ s. g.O.Object.stands c.of-start.result.value [] s) c.of-start.ensures (g.met.O.Object.stands_first c.of-start.result.value))

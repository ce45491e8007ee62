use Rattle.std.proofs.Common.{◌+◌, ◌<◌, ◌^◌, sym, subst}
use Rattle.entry_records.specs.Unflushed.{actor_count}
use Rattle.actor_states.specs.State.{State}
use Rattle.actor_states.proofs.state.ActorState.drop_reference.Goals as goal

pub note_released-requires : goal.note_released-requires
note_released-requires c =
    subst (λ (s : State). actor_count c.args.target s.log.noted.released + 1 < 2 ^ 32) (sym c.self.view_is) (c.requires.fits.released c.args.target)

use Rattle.std.proofs.Common.{◌+◌, ◌<◌, ◌^◌, sym, subst}
use Rattle.entry_records.specs.Unflushed.{pair_count}
use Rattle.actor_states.specs.State.{State}
use Rattle.actor_states.proofs.state.ActorState.note_created.Goals as goal

pub note_created-requires : goal.note_created-requires
note_created-requires c =
    subst (λ (s : State). pair_count c.args.owner c.args.target s.log.noted.created + 1 < 2 ^ 32) (sym c.self.view_is) c.requires

use Rattle.std.proofs.Common.{◌+◌, ◌<◌, ◌^◌, sym, subst}
use Rattle.entry_records.specs.Unflushed.{pair_count}
use Rattle.actor_states.specs.State.{State}
use Rattle.actor_states.proofs.state.ActorState.beget.Goals as goal

pub note_created-requires : goal.note_created-requires
note_created-requires c =
    subst (λ (s : State). pair_count c.args.child c.args.parent s.log.noted.created + 1 < 2 ^ 32) (sym c.in_ok-gain.ensures.ok.0) (c.requires.created c.args.child c.args.parent)

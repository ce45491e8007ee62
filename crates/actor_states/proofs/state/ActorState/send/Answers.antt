use Rattle.std.proofs.Common.{◌+◌, ◌<◌, ◌^◌, length, sym, subst, arith}
use Rattle.entry_records.specs.Unflushed.{actor_count, pair_count}
use Rattle.actor_states.specs.State.{State}
use Rattle.actor_states.proofs.StateLemmas.{fits-count}
use Rattle.actor_states.proofs.state.ActorState.send.Goals as goal

pub note_sent-requires-clause-sent : goal.note_sent-requires-clause-sent
note_sent-requires-clause-sent c =
    let room = subst (λ (s : State). actor_count c.args.to s.log.noted.sent + (1 + length c.args.refs.now) < 2 ^ 32) (sym c.self.view_is) (c.requires.sent c.args.to) in
    omega arith

pub note_sent-requires-clause-created : goal.note_sent-requires-clause-created
note_sent-requires-clause-created c = λ a.
    let room = subst (λ (s : State). pair_count c.args.to a s.log.noted.created + (1 + length c.args.refs.now) < 2 ^ 32) (sym c.self.view_is) (c.requires.created c.args.to a) in
    fits-count a c.args.refs.now _ room

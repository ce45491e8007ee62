use Rattle.std.proofs.Common.{◌+◌, ◌<◌, ◌^◌, true, length, sym, subst}
use Rattle.refob_counts.specs.Counts.{count_of}
use Rattle.actor_states.specs.State.{State}
use Rattle.actor_states.proofs.StateLemmas.{fits-count}
use Rattle.actor_states.proofs.state.ActorState.take.Goals as goal

pub add_all-requires : goal.add_all-requires
add_all-requires c = λ a.
    let room = subst (λ (s : State). count_of s.held a + (1 + length c.args.refs.now) < 2 ^ 32) (sym c.self.view_is) (c.requires.held a) in
    fits-count a c.args.refs.now _ room

pub returns-clause-ok : goal.returns-clause-ok
returns-clause-ok c =
    let old = c.self.inside in
    rw (← c.self.view_is) (
      λ i. record {
        busy = true;
        root = old.root;
        parent = old.parent;
        held = c.add_all.new.self;
        log = c.note_received.ensures i;
        stopped = old.stopped;
      },
      c.in_ok-add_all.ensures.ok,
    )

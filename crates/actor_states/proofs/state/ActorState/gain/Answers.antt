use Rattle.std.proofs.Common.{◌+◌, ◌<◌, ◌^◌, refl, sym, subst}
use Rattle.std.proofs.lemmas.Result.{on_ok_weaker}
use Rattle.refob_counts.specs.Counts.{count_of}
use Rattle.actor_states.specs.State.{State}
use Rattle.actor_states.proofs.StateLemmas.{gain-one}
use Rattle.actor_states.proofs.state.ActorState.gain.Goals as goal

pub add-requires : goal.add-requires
add-requires c = subst (λ (s : State). count_of s.held c.args.target + 1 < 2 ^ 32) (sym c.self.view_is) (c.requires.held c.args.target)

pub returns-clause-ok : goal.returns-clause-ok
returns-clause-ok c =
    on_ok_weaker c.add.result (λ change. rw (← c.self.view_is) (refl, gain-one c.self.inside.held c.add.new.self c.args.target change)) c.add.ensures.ok

use Rattle.std.proofs.Common.{sym, subst}
use Rattle.actor_states.specs.State.{HasRoom, State}
use Rattle.roster.proofs.TieLemmas.{gained-held, tie-taken_back}
use Rattle.roster.proofs.table.Roster.tie.Goals as goal

pub note_created-requires-clause-fits : goal.note_created-requires-clause-fits
note_created-requires-clause-fits c =
    subst (λ (s : State). HasRoom s 1) (sym (c.in_ok-gain.ensures.ok.others c.args.target (λ e. c.requires.apart (sym e)))) c.requires.target_fits

pub lose-requires-clause-held : goal.lose-requires-clause-held
lose-requires-clause-held c =
    gained-held c.args.self.now c.gain.new.self c.note_created.new.self c.args.owner c.args.target c.in_ok-gain.ensures.ok c.in-Err.ensures.err

pub returns-in-Err-clause-err : goal.returns-in-Err-clause-err
returns-in-Err-clause-err c =
    tie-taken_back c.args.self.now c.gain.new.self c.note_created.new.self c.lose.new.self c.args.owner c.args.target c.in_ok-gain.ensures.ok c.in-Err.ensures.err c.lose.ensures

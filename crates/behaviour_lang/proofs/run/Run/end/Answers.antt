use Rattle.std.proofs.Common.{refl, sym}
use Rattle.behaviour_lang.proofs.NameLaws.{past_none}
use Rattle.behaviour_lang.proofs.run.Run.end.Goals as goal

-- no message name is bound, so the turn is over
pub returns-in-None : goal.returns-in-None
returns-in-None c = λ instrs e. rw (e, c.in-None.ensures.rest, past_none _ (sym c.in-None.ensures.value), ← c.in-None.ensures.value, c.requires) refl

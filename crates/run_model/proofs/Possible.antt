-- An event that is possible is legal.
use Rattle.std.proofs.Common.{◌≡◌, true, is_none, List, Option, Some, None, refl}
use Rattle.std.proofs.lemmas.Bool.{false≢true}
use Rattle.history_model.specs.declared.events.Event.{Event}
use Rattle.history_model.specs.declared.events.Rule.{Rule}
use Rattle.history_model.specs.Legal.{refusal}
use Rattle.script_reader.specs.Valid.{Scripted}
use Rattle.run_model.specs.Doing.{cluster_of}
use Rattle.run_model.specs.Planned.{is_possible}

pub no-rule : (r : Option Rule) → is_none r ≡ true → r ≡ None
no-rule None e = refl
no-rule (Some r) e = absurd (false≢true e)

pub possible-legal : (s : Scripted) (e : Event) (h : List Event) → is_possible s e h ≡ true → refusal (cluster_of s) e h ≡ None
possible-legal s e h possible = no-rule (refusal (cluster_of s) e h) possible

-- Turns that are under way.
use Rattle.std.specs.Prelude.{◌≡◌, ◌⊎◌, ◌∷◌, ◌++◌, ℕ, true, List, Some, None}
use Rattle.crgc_ids.specs.Actor.{Actor}
use Rattle.history_model.specs.declared.events.Event.{Event}
use Rattle.history_model.specs.declared.events.Event.TheVariants.{Wake, Take, Rest, Crash}
use Rattle.history_model.specs.Legal.{IsLegal, refusal}
use Rattle.history_model.specs.State.{is_busy, is_up}
use Rattle.script_reader.specs.Valid.{Scripted}
use Rattle.run_model.specs.Doing.{cluster_of, due}
use Rattle.run_model.specs.Planned.{crash_due}
use Rattle.run_model.specs.Schedule.{turn_done}

-- the event begins a turn of a
abbrev pub BeginsTurn : Actor → Event → Type 0
BeginsTurn a e = (e ≡ Wake a) ⊎ (e ≡ Take a)

-- in a legal history a is busy on a node that is up; no rule refuses what is due next in its turn, nor the crash that is due
-- once it rests
pub record IsUnderWay (s : Scripted) (a : Actor) (h : List Event) : Type 0 where
  pub legal : IsLegal (cluster_of s) h
  pub busy : is_busy a h ≡ true
  pub up : is_up a.node h ≡ true
  pub next : refusal (cluster_of s) (due s a h) h ≡ None
  pub crash : (n : ℕ) → due s a h ≡ Rest a → crash_due s (Rest a ∷ h) ≡ Some n → refusal (cluster_of s) (Crash n) (Rest a ∷ h) ≡ None

-- in the whole turn that began with h, what is due next stands right after the acts q
abbrev pub ComesNext : Scripted → Actor → List Event → List Event → Type 0
ComesNext s a q h = (later : List Event) × (turn_done s a h ≡ later ++ due s a (q ++ h) ∷ (q ++ h))

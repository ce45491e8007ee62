-- How the history of a world goes on.
use Rattle.std.specs.Prelude.{◌≡◌, ◌∷◌, None}
use Rattle.history_model.specs.declared.events.Event.{Event}
use Rattle.history_model.specs.Legal.{refusal}
use Rattle.history_model.specs.Story.{Story}
use Rattle.journal_model.specs.Limits.{limit_passed}

-- no rule refuses the event, and it passes no limit
pub record MayFollow (e : Event) (s : Story) : Type 0 where
  pub legal : refusal s.cluster e s.past ≡ None
  pub limit : limit_passed s.cluster e s.past ≡ None

-- the history has this event more
pub record Adds (e : Event) (old new : Story) : Type 0 where
  pub cluster : new.cluster ≡ old.cluster
  pub past : new.past ≡ e ∷ old.past

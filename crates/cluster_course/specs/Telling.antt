-- What a report in full tells before its history has come to an end.
use Rattle.std.specs.Prelude.{ℕ, ◌≡◌, Bool, false, List, [], ◌∷◌, ◌++◌}
use Rattle.history_model.specs.declared.events.Event.{Event}
use Rattle.history_model.specs.Story.{Story}
use Rattle.journal_model.specs.Lines.{header_line, text_of}
use Rattle.journal_model.specs.Report.{told_lines}
use Rattle.true_config.specs.Applying.{is_sweep}
use Rattle.cluster_course.specs.Due.{lines_made_due}

-- whether the last event is a sweep
abbrev pub ends_with_sweep : List Event → Bool
ends_with_sweep [] = false
ends_with_sweep (e ∷ p) = is_sweep e

-- the text has the header and the lines of all events and verdicts, but for those that the last event made due
abbrev pub IsToldBy : Story → List ℕ → Type 0
IsToldBy s text = text ++ text_of (lines_made_due s.cluster s.past) ≡ text_of (header_line s.cluster ∷ told_lines s.cluster s.past)

-- a text tells of the history so far, and it is known whether the last event made lines due
pub record IsTelling (s : Story) (has_swept : Bool) (text : List ℕ) : Type 0 where
  pub swept : has_swept ≡ ends_with_sweep s.past
  pub told : IsToldBy s text

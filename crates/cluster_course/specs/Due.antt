-- The lines that a verdict makes due.
use Rattle.std.specs.Prelude.{ℕ, List, [], ◌∷◌, map, take}
use Rattle.history_model.specs.declared.events.Event.{Event}
use Rattle.history_model.specs.declared.records.Verdict.{Verdict}
use Rattle.history_model.specs.Cluster.{Cluster}
use Rattle.journal_model.specs.Journals.{due_after}
use Rattle.journal_model.specs.Lines.{cut_words, spell, stop_words}

-- the lines that the last event made due
abbrev pub lines_made_due : Cluster → List Event → List (List ℕ)
lines_made_due cl [] = []
lines_made_due cl (e ∷ p) = due_after cl e p

-- the lines of a verdict in a cluster of so many nodes
abbrev pub lines_of_verdict : ℕ → Verdict → List (List ℕ)
lines_of_verdict nodes v = spell (cut_words v.node (take nodes v.cut) v.lost) ∷ map (λ s. spell (stop_words v.node s)) v.stops

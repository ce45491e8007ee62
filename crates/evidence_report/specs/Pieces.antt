-- Pieces of a report.
use Rattle.std.specs.Prelude.{ℕ, List, [], ◌∷◌, ◌++◌, codes, decimal, map, take}
use Rattle.history_model.specs.declared.records.Verdict.{Verdict}
use Rattle.journal_model.specs.Lines.{cut_words, spell, stop_words, text_of}

-- the lines of a verdict in a cluster of so many nodes
abbrev pub verdict_text : ℕ → Verdict → List ℕ
verdict_text nodes v = text_of (spell (cut_words v.node (take nodes v.cut) v.lost) ∷ map (λ s. spell (stop_words v.node s)) v.stops)

-- how a line ends that counts the born and the stopped
abbrev pub counts_text : ℕ → ℕ → List ℕ
counts_text born stopped = codes " born " ++ (decimal born ++ (codes " stopped " ++ (decimal stopped ++ 10 ∷ [])))

-- The verdicts of the sweeps of a history, and its report in either form.
use Rattle.std.specs.Prelude.{ℕ, Bool, if◌then◌else◌, List, [], ◌∷◌}
use Rattle.history_model.specs.declared.events.Event.{Event}
use Rattle.history_model.specs.declared.events.Event.TheVariants.{Sweep}
use Rattle.history_model.specs.declared.records.Verdict.{Verdict}
use Rattle.history_model.specs.Cluster.{Cluster}
use Rattle.history_model.specs.Sweeps.{IsVerdict}
use Rattle.journal_model.specs.Report.{report_of, brief_of}

-- the verdicts, the last one first, are those of the sweeps of the history
abbrev pub AreVerdicts : Cluster → List Event → List Verdict → Type 0
AreVerdicts cl [] [] = Unit {0}
AreVerdicts cl [] (v ∷ vs) = ⊥
AreVerdicts cl (Sweep m ∷ p) [] = ⊥
AreVerdicts cl (Sweep m ∷ p) (v ∷ vs) = IsVerdict cl m p v × AreVerdicts cl p vs
AreVerdicts cl (_ ∷ p) vs = AreVerdicts cl p vs

-- the report of the history, in brief or in full
abbrev pub report_text : Cluster → List Event → Bool → List ℕ
report_text cl h brief = if brief then brief_of cl h else report_of cl h

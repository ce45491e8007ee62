-- What `play` comes to: the status, and the text that is then to be written.
use Rattle.std.specs.Prelude.{ℕ, ◌≡◌, ◌⊎◌, Bool, List, Option, Ok, Err}
use Rattle.cluster_course.specs.Collected.{IsRightlyCollected}
use Rattle.history_model.specs.Legal.{IsLegal}
use Rattle.history_model.specs.Story.{Story}
use Rattle.journal_model.specs.Journals.{journal_of, limit}
use Rattle.journal_model.specs.Verdicts.{report_text}
use Rattle.journal_player.specs.Faults.{fault_of}
use Rattle.run_model.specs.Schedule.{IsWithinLimits}
use Rattle.cluster_top.specs.declared.status.Status.{Status}
use Rattle.cluster_top.specs.declared.status.Status.TheVariants.{Done, Usage, Script, ReadFault, WriteFault, Limit, Journal, NoMemory}
use Rattle.cluster_top.specs.FaultLines.{journal_line, limit_line, memory_line, read_line}
use Rattle.cluster_top.specs.Input.{Failed, GaveAll, GaveSome, GaveTooMuch}

-- the text is the report of the history that the journal tells. It is legal, no event of it passes a limit, and every actor that is
-- stopped in it is rightly stopped
pub record IsJournalReport (journal : List ℕ) (brief : Bool) (text : List ℕ) : Type 0 where
  pub story : Story
  pub told : journal_of journal ≡ Ok story
  pub legal : IsLegal story.cluster story.past
  pub within : IsWithinLimits story.cluster story.past
  pub collected : IsRightlyCollected story.cluster story.past
  pub written : text ≡ report_text story.cluster story.past brief

abbrev pub PlayCameTo : {S : Type 0} → (left : S → Option (List ℕ)) (given : S → List ℕ) (ended : S → Bool)
    (faults : S → ℕ) (old new : S) → Bool → Status → List ℕ → Type 0
PlayCameTo left given ended faults old new brief Done text =
    (journal : List ℕ) × GaveAll left given ended faults old new journal × IsJournalReport journal brief text
PlayCameTo left given ended faults old new brief (Journal line cause) text =
    (journal : List ℕ) × GaveAll left given ended faults old new journal
    × (journal_of journal ≡ Err (line, fault_of cause)) × (text ≡ journal_line line cause)
PlayCameTo left given ended faults old new brief (Limit which) text =
    (journal : List ℕ) × (line : ℕ) × (GaveAll left given ended faults old new journal ⊎ GaveTooMuch left given faults old new journal)
    × (journal_of journal ≡ Err (line, limit which)) × (text ≡ limit_line which)
PlayCameTo left given ended faults old new brief ReadFault text = Failed left given faults old new × (text ≡ read_line)
PlayCameTo left given ended faults old new brief NoMemory text = GaveSome left given faults old new × (text ≡ memory_line)
PlayCameTo left given ended faults old new brief (Script fault) text = ⊥
PlayCameTo left given ended faults old new brief Usage text = ⊥
PlayCameTo left given ended faults old new brief (WriteFault written) text = ⊥

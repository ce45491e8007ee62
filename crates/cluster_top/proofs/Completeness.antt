-- Whatever is without fault is done to its end: every other end of a call has a cause, and none of these causes is there.
use Rattle.std.proofs.Common.{ℕ, ◌≡◌, ◌⊎◌, Bool, List, Option, Ok, Err, inl, inr, sym, subst, ◌∙◌}
use Rattle.std.proofs.lemmas.List.{append_cancel_left}
use Rattle.crgc_io.specs.Fault.{CountRose}
use Rattle.crgc_io.specs.Taken.{Takes}
use Rattle.command_words.specs.Commands.{Spells}
use Rattle.command_words.specs.declared.command.Command.TheVariants.{Gen, Play, Run}
use Rattle.command_words.proofs.CommandLaws.{spells_one}
use Rattle.history_model.specs.Story.{Story}
use Rattle.journal_model.specs.Journals.{Fault, journal_of, limit}
use Rattle.journal_player.specs.Faults.{fault_of}
use Rattle.crgc_ids.specs.declared.Which.{Which}
use Rattle.script_reader.proofs.ReadLaws.{script-is-read}
use Rattle.script_reader.specs.Scripts.{IsFirstFault, StandsFor}
use Rattle.script_reader.specs.Valid.{Scripted}
use Rattle.script_reader.specs.declared.fault.ScriptFault.{ScriptFault}
use Rattle.script_reader.specs.declared.fault.ScriptRead.TheVariants.{Fault as FaultRead}
use Rattle.cluster_top.specs.declared.status.Status.{Status}
use Rattle.cluster_top.specs.declared.status.Status.TheVariants.{Done, Usage, Script, ReadFault, WriteFault, Limit, Journal, NoMemory}
use Rattle.cluster_top.specs.Outcome.{CommandCameTo, IsOutcome, IsWritten}
use Rattle.cluster_top.specs.Complete.{EndsWell, MakesWhatIsAsked, PlaysWhatIsTold, RunsWhatIsScripted}
use Rattle.cluster_top.specs.GenOutcome.{GenCameTo}
use Rattle.cluster_top.specs.PlayOutcome.{PlayCameTo}
use Rattle.cluster_top.specs.RunOutcome.{RunCameTo}
use Rattle.cluster_top.specs.WorkersOutcome.{IsWorkersOutcome, WorkersCameTo}

-- what a source gave is one text
one-text : {S : Type 0} (left : S → Option (List ℕ)) (given : S → List ℕ) (old new : S) (xs ys : List ℕ) → Takes left given old new xs → Takes left given old new ys → xs ≡ ys
one-text left given old new xs ys first second = append_cancel_left (given old) xs ys (sym first.recorded ∙ second.recorded)

-- one that tells a history has no fault
no-fault : (xs ys : List ℕ) (s : Story) (fault : ℕ × Fault) → xs ≡ ys → journal_of xs ≡ Err fault → journal_of ys ≡ Ok s → ⊥
no-fault xs ys s fault same faulty told =
    let there : journal_of ys ≡ Err fault = subst (λ zs. journal_of zs ≡ Err fault) same faulty in
    absurd (cc)

-- a text that stands for a script has none
no-script-fault : (xs ys : List ℕ) (s : Scripted) (fault : ScriptFault) → xs ≡ ys → IsFirstFault xs fault → StandsFor ys s → ⊥
no-script-fault xs ys s fault same faulty stands =
    elim (script-is-read ys s (Err (FaultRead fault)) stands (subst (λ zs. IsFirstFault zs fault) same faulty)) [
      | inl read ↦ absurd (cc)
      | inr memory ↦ absurd (cc)
    ]

module _ {S K : Type 0} (left : S → Option (List ℕ)) (given : S → List ℕ) (ended : S → Bool) (reads : S → ℕ)
    (held : K → Option (List ℕ)) (taken : K → List ℕ) (writes : K → ℕ) (words : List (List ℕ)) (source source' : S) (sink sink' : K) (status : Status) where
  -- what was to be written was, where no write failed
  was-written : (reason : Status) (text : List ℕ) → IsWritten held taken writes sink sink' reason text status → ¬ CountRose (writes sink) (writes sink') → status ≡ reason
  was-written reason text written fine = elim written [ inl all ↦ all.0 | inr part ↦ absurd (fine part.4) ]

  -- so it ends well, or for want of memory
  play-ends : (brief : Bool) (journal : List ℕ) (s : Story) (reason : Status) (text : List ℕ) → PlayCameTo left given ended reads source source' brief reason text
      → status ≡ reason → Takes left given source source' journal → journal_of journal ≡ Ok s → ¬ CountRose (reads source) (reads source')
      → (status ≡ Done) ⊎ (status ≡ NoMemory)
  play-ends brief journal s Done text came is takes told fine = inl is
  play-ends brief journal s NoMemory text came is takes told fine = inr is
  play-ends brief journal s (Journal line cause) text came is takes told fine =
      absurd (no-fault came.0 journal s (line, fault_of cause) (one-text left given source source' came.0 journal came.1.taken takes) came.2 told)
  play-ends brief journal s (Limit which) text came is takes told fine =
      let gave : Takes left given source source' came.0 = elim came.2 [ inl all ↦ all.taken | inr more ↦ more.taken ] in
      absurd (no-fault came.0 journal s (came.1, limit which) (one-text left given source source' came.0 journal gave takes) came.3 told)
  play-ends brief journal s ReadFault text came is takes told fine = absurd (fine came.0.rose)
  play-ends brief journal s (Script fault) text came is takes told fine = absurd came
  play-ends brief journal s Usage text came is takes told fine = absurd came
  play-ends brief journal s (WriteFault written) text came is takes told fine = absurd came

  plays-on : IsOutcome left given ended reads held taken writes words source source' sink sink' status → PlaysWhatIsTold left given reads writes words source source' sink sink' status
  plays-on outcome brief journal s spelled takes told fine_reads fine_writes =
      let is = was-written outcome.0 outcome.1 outcome.3 fine_writes in
      elim outcome.2 [
        | inl command ↦ (
            let same : command.0 ≡ Play brief = spells_one words command.0 (Play brief) command.1 spelled in
            let came : PlayCameTo left given ended reads source source' brief outcome.0 outcome.1 =
            subst (λ c. CommandCameTo left given ended reads source source' c outcome.0 outcome.1) same command.2 in
            play-ends brief journal s outcome.0 outcome.1 came is takes told fine_reads
            )
        | inr none ↦ absurd (none.0 (Play brief, spelled))
      ]

  -- a run ends well, or at a limit, or for want of memory
  abbrev RunEnds : Type 0
  RunEnds = (status ≡ Done) ⊎ (((which : Which) × (status ≡ Limit which)) ⊎ (status ≡ NoMemory))

  run-ends : (brief : Bool) (bytes : List ℕ) (s : Scripted) (reason : Status) (text : List ℕ) → RunCameTo left given ended reads source source' brief reason text
      → status ≡ reason → Takes left given source source' bytes → StandsFor bytes s → ¬ CountRose (reads source) (reads source') → RunEnds
  run-ends brief bytes s Done text came is takes stands fine = inl is
  run-ends brief bytes s NoMemory text came is takes stands fine = inr (inr is)
  run-ends brief bytes s (Limit which) text came is takes stands fine = inr (inl (which, is))
  run-ends brief bytes s (Script fault) text came is takes stands fine =
      absurd (no-script-fault came.0 bytes s fault (one-text left given source source' came.0 bytes came.1.taken takes) came.2 stands)
  run-ends brief bytes s ReadFault text came is takes stands fine = absurd (fine came.0.rose)
  run-ends brief bytes s (Journal line cause) text came is takes stands fine = absurd came
  run-ends brief bytes s Usage text came is takes stands fine = absurd came
  run-ends brief bytes s (WriteFault written) text came is takes stands fine = absurd came

  runs-on : IsOutcome left given ended reads held taken writes words source source' sink sink' status → RunsWhatIsScripted left given reads writes words source source' sink sink' status
  runs-on outcome workers brief bytes s spelled takes stands fine_reads fine_writes =
      let is = was-written outcome.0 outcome.1 outcome.3 fine_writes in
      elim outcome.2 [
        | inl command ↦ (
            let same : command.0 ≡ Run workers brief = spells_one words command.0 (Run workers brief) command.1 spelled in
            let came : RunCameTo left given ended reads source source' brief outcome.0 outcome.1 =
            subst (λ c. CommandCameTo left given ended reads source source' c outcome.0 outcome.1) same command.2 in
            run-ends brief bytes s outcome.0 outcome.1 came is takes stands fine_reads
            )
        | inr none ↦ absurd (none.0 (Run workers brief, spelled))
      ]

  -- a script is made, or memory ran out
  gen-ends : (seed size : ℕ) (reason : Status) (text : List ℕ) → GenCameTo source source' seed size reason text → status ≡ reason → (status ≡ Done) ⊎ (status ≡ NoMemory)
  gen-ends seed size Done text came is = inl is
  gen-ends seed size NoMemory text came is = inr is
  gen-ends seed size (Limit which) text came is = absurd came
  gen-ends seed size (Script fault) text came is = absurd came
  gen-ends seed size ReadFault text came is = absurd came
  gen-ends seed size (Journal line cause) text came is = absurd came
  gen-ends seed size Usage text came is = absurd came
  gen-ends seed size (WriteFault written) text came is = absurd came

  makes-on : IsOutcome left given ended reads held taken writes words source source' sink sink' status → MakesWhatIsAsked left given reads writes words source source' sink sink' status
  makes-on outcome seed size spelled fine_writes =
      let is = was-written outcome.0 outcome.1 outcome.3 fine_writes in
      elim outcome.2 [
        | inl command ↦ (
            let same : command.0 ≡ Gen seed size = spells_one words command.0 (Gen seed size) command.1 spelled in
            let came : GenCameTo source source' seed size outcome.0 outcome.1 =
            subst (λ c. CommandCameTo left given ended reads source source' c outcome.0 outcome.1) same command.2 in
            gen-ends seed size outcome.0 outcome.1 came is
            )
        | inr none ↦ absurd (none.0 (Gen seed size, spelled))
      ]

  -- a call without worker threads ends well
  pub ends-well : IsOutcome left given ended reads held taken writes words source source' sink sink' status → EndsWell left given reads writes words source source' sink sink' status
  ends-well outcome = record { plays = plays-on outcome; runs = runs-on outcome; makes = makes-on outcome }

  -- ---- with worker threads

  work-ends : (brief : Bool) (kept kept' : Option Story) (bytes : List ℕ) (s : Scripted) (reason : Status) (text : List ℕ) → WorkersCameTo left given ended reads source source' brief kept kept' reason text
      → status ≡ reason → Takes left given source source' bytes → StandsFor bytes s → ¬ CountRose (reads source) (reads source') → RunEnds
  work-ends brief kept kept' bytes s Done text came is takes stands fine = inl is
  work-ends brief kept kept' bytes s NoMemory text came is takes stands fine = inr (inr is)
  work-ends brief kept kept' bytes s (Limit which) text came is takes stands fine = inr (inl (which, is))
  work-ends brief kept kept' bytes s (Script fault) text came is takes stands fine =
      absurd (no-script-fault came.0 bytes s fault (one-text left given source source' came.0 bytes came.1.taken takes) came.2 stands)
  work-ends brief kept kept' bytes s ReadFault text came is takes stands fine = absurd (fine came.0.rose)
  work-ends brief kept kept' bytes s (Journal line cause) text came is takes stands fine = absurd came
  work-ends brief kept kept' bytes s Usage text came is takes stands fine = absurd came
  work-ends brief kept kept' bytes s (WriteFault written) text came is takes stands fine = absurd came

  -- words that ask for workers ask for nothing else, and such a call ends well
  pub workers-end-well : (workers : ℕ) (in_brief : Bool) (kept kept' : Option Story) → Spells words (Run workers in_brief)
      → IsWorkersOutcome left given ended reads held taken writes in_brief source source' sink sink' kept kept' status → EndsWell left given reads writes words source source' sink sink' status
  workers-end-well workers in_brief kept kept' runs outcome = record {
    plays = λ brief journal s spelled takes told fine_reads fine_writes. (
        let same : Run workers in_brief ≡ Play brief = spells_one words (Run workers in_brief) (Play brief) runs spelled in
        absurd (cc)
        );
    runs = λ other brief bytes s spelled takes stands fine_reads fine_writes.
        work-ends in_brief kept kept' bytes s outcome.0 outcome.1 outcome.2 (was-written outcome.0 outcome.1 outcome.3 fine_writes) takes stands fine_reads;
    makes = λ seed size spelled fine_writes. (
        let same : Run workers in_brief ≡ Gen seed size = spells_one words (Run workers in_brief) (Gen seed size) runs spelled in
        absurd (cc)
        );
  }

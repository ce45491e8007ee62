-- What one call of the program does: what it came to, and what it wrote.
use Rattle.std.specs.Prelude.{ℕ, ◌≡◌, ◌<◌, ◌⊎◌, List, Option, length, take, Bool}
use Rattle.crgc_io.specs.Fault.{CountRose}
use Rattle.crgc_io.specs.Taken.{Puts}
use Rattle.command_words.specs.Commands.{IsCommand, Spells}
use Rattle.command_words.specs.declared.command.Command.{Command}
use Rattle.command_words.specs.declared.command.Command.TheVariants.{Play, Run, Gen}
use Rattle.cluster_top.specs.declared.status.Status.{Status}
use Rattle.cluster_top.specs.declared.status.Status.TheVariants.{Done, Usage, Script, ReadFault, WriteFault, Limit, Journal, NoMemory}
use Rattle.cluster_top.specs.FaultLines.{usage_line}
use Rattle.cluster_top.specs.GenOutcome.{GenCameTo}
use Rattle.cluster_top.specs.PlayOutcome.{PlayCameTo}
use Rattle.cluster_top.specs.RunOutcome.{RunCameTo}

-- what a command came to before anything was written, with the text that was then to be written; a run has no worker threads
abbrev pub CommandCameTo : {S : Type 0} → (left : S → Option (List ℕ)) (given : S → List ℕ) (ended : S → Bool)
    (faults : S → ℕ) (old new : S) → Command → Status → List ℕ → Type 0
CommandCameTo left given ended faults old new (Play brief) status text = PlayCameTo left given ended faults old new brief status text
CommandCameTo left given ended faults old new (Run workers brief) status text = RunCameTo left given ended faults old new brief status text
CommandCameTo left given ended faults old new (Gen seed size) status text = GenCameTo old new seed size status text

-- what the call came to: what the words ask for, or `Usage` where they are no command
abbrev pub CameTo : {S : Type 0} → (left : S → Option (List ℕ)) (given : S → List ℕ) (ended : S → Bool)
    (faults : S → ℕ) (words : List (List ℕ)) (old new : S) → Status → List ℕ → Type 0
CameTo left given ended faults words old new status text =
    ((c : Command) × Spells words c × CommandCameTo left given ended faults old new c status text)
    ⊎ ((¬ IsCommand words) × (new ≡ old) × (status ≡ Usage) × (text ≡ usage_line))

-- all of the text was written, or a write failed after its first bytes
abbrev pub IsWritten : {K : Type 0} → (held : K → Option (List ℕ)) (taken : K → List ℕ)
    (faults : K → ℕ) (old new : K) → (reason : Status) (text : List ℕ) (status : Status) → Type 0
IsWritten held taken faults old new reason text status =
    ((status ≡ reason) × Puts held taken old new text × (faults new ≡ faults old))
    ⊎ ((written : ℕ) × (status ≡ WriteFault written) × (written < length text)
    × Puts held taken old new (take written text) × CountRose (faults old) (faults new))

-- the call came to something, and wrote it
abbrev pub IsOutcome : {S K : Type 0} → (left : S → Option (List ℕ)) (given : S → List ℕ) (ended : S → Bool)
    (reads : S → ℕ) (held : K → Option (List ℕ)) (taken : K → List ℕ) (writes : K → ℕ)
    (words : List (List ℕ)) (source source' : S) (sink sink' : K) → Status → Type 0
IsOutcome left given ended reads held taken writes words source source' sink sink' status =
    (reason : Status) × (text : List ℕ) × CameTo left given ended reads words source source' reason text
    × IsWritten held taken writes sink sink' reason text status

-- the number with which the program ends
abbrev pub exit_number_of : Status → ℕ
exit_number_of Done = 0
exit_number_of Usage = 2
exit_number_of (Script fault) = 3
exit_number_of ReadFault = 4
exit_number_of (WriteFault written) = 5
exit_number_of (Limit which) = 6
exit_number_of (Journal line cause) = 7
exit_number_of NoMemory = 8

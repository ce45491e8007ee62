-- What `run` without worker threads comes to: the status, and the text that is then to be written.
use Rattle.std.specs.Prelude.{ℕ, ◌≡◌, ◌<◌, ◌↔◌, ◌⊎◌, Bool, true, List, ◌∷◌, ◌++◌, Option, IsTrue}
use Rattle.crgc_ids.specs.Actor.{Actor}
use Rattle.crgc_ids.specs.declared.Which.{Which}
use Rattle.crgc_ids.specs.declared.Which.TheVariants.{Input}
use Rattle.cluster_course.specs.Collected.{IsRightlyCollected}
use Rattle.history_model.specs.Cluster.{Cluster}
use Rattle.history_model.specs.Legal.{IsLegal}
use Rattle.history_model.specs.Quiescent.{IsDelivered, IsQuiescent, IsQuietPoint, LosesNothing}
use Rattle.history_model.specs.State.{is_up}
use Rattle.history_model.specs.Sweeps.{is_stopped}
use Rattle.history_model.specs.declared.events.Event.{Event}
use Rattle.history_model.specs.declared.events.Event.TheVariants.{Sweep}
use Rattle.journal_model.specs.Verdicts.{report_text}
use Rattle.run_model.specs.Doing.{cluster_of}
use Rattle.run_model.specs.Round.{round}
use Rattle.run_model.specs.Schedule.{IsFirstLimit, IsFixed, IsWithinLimits}
use Rattle.script_reader.specs.Scripts.{IsFirstFault, StandsFor}
use Rattle.script_reader.specs.Valid.{Scripted}
use Rattle.cluster_top.specs.declared.status.Status.{Status}
use Rattle.cluster_top.specs.declared.status.Status.TheVariants.{Done, Usage, Script, ReadFault, WriteFault, Limit, Journal, NoMemory}
use Rattle.cluster_top.specs.FaultLines.{limit_line, memory_line, read_line, script_line}
use Rattle.cluster_top.specs.Input.{Failed, GaveAll, GaveSome, GaveTooMuch}

-- the history ends with a round: each node that is up sweeps in it. Where each message between nodes that are up was admitted or is
-- under way before it, which is so where no copy between such nodes was lost, each sweep of this round stands at a quiet point of
-- its node, and at the end the stopped actors of nodes that are up are exactly the quiescent ones
pub record IsRightlyClosed (cl : Cluster) (h : List Event) : Type 0 where
  pub before : List Event
  pub closed : h ≡ round cl before
  pub each_sweeps : (m : ℕ) → m < cl.nodes → IsTrue (is_up m before) → (later added : List Event) × (h ≡ later ++ Sweep m ∷ (added ++ before))
  pub not_lost : LosesNothing before → IsDelivered before
  pub at_quiet_points : IsDelivered before
      → (later added : List Event) (m : ℕ) → h ≡ later ++ Sweep m ∷ (added ++ before) → IsQuietPoint cl m (added ++ before)
  pub stopped_are_the_quiescent : IsDelivered before → (a : Actor) → IsTrue (is_up a.node before) → (is_stopped cl a h ≡ true) ↔ IsQuiescent cl h a

-- the text is the report of the history that the fixed schedule gives the script. It is legal, no event of it passes a limit, every
-- actor that is stopped in it is rightly stopped, and a round closes it
pub record IsRunReport (bytes : List ℕ) (brief : Bool) (text : List ℕ) : Type 0 where
  pub script : Scripted
  pub told : StandsFor bytes script
  pub past : List Event
  pub fixed : IsFixed script past
  pub legal : IsLegal (cluster_of script) past
  pub within : IsWithinLimits (cluster_of script) past
  pub collected : IsRightlyCollected (cluster_of script) past
  pub closed : IsRightlyClosed (cluster_of script) past
  pub written : text ≡ report_text (cluster_of script) past brief

-- the first limit that the fixed schedule of the script passes
abbrev pub PassesLimit : List ℕ → Which → Type 0
PassesLimit bytes which = (script : Scripted) × (p : List Event) × StandsFor bytes script × IsFirstLimit script p which

abbrev pub RunCameTo : {S : Type 0} → (left : S → Option (List ℕ)) (given : S → List ℕ) (ended : S → Bool)
    (faults : S → ℕ) (old new : S) → Bool → Status → List ℕ → Type 0
RunCameTo left given ended faults old new brief Done text =
    (bytes : List ℕ) × GaveAll left given ended faults old new bytes × IsRunReport bytes brief text
RunCameTo left given ended faults old new brief (Script fault) text =
    (bytes : List ℕ) × GaveAll left given ended faults old new bytes × IsFirstFault bytes fault × (text ≡ script_line fault)
RunCameTo left given ended faults old new brief (Limit which) text =
    (bytes : List ℕ) × ((GaveTooMuch left given faults old new bytes × (which ≡ Input))
    ⊎ (GaveAll left given ended faults old new bytes × PassesLimit bytes which))
    × (text ≡ limit_line which)
RunCameTo left given ended faults old new brief ReadFault text = Failed left given faults old new × (text ≡ read_line)
RunCameTo left given ended faults old new brief NoMemory text = GaveSome left given faults old new × (text ≡ memory_line)
RunCameTo left given ended faults old new brief (Journal line cause) text = ⊥
RunCameTo left given ended faults old new brief Usage text = ⊥
RunCameTo left given ended faults old new brief (WriteFault written) text = ⊥

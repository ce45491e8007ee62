-- When a call has to end well: where none of the causes is there for which it may end otherwise.
use Rattle.std.specs.Prelude.{ℕ, ◌≡◌, ◌⊎◌, Bool, List, Option, Ok}
use Rattle.command_words.specs.Commands.{Spells}
use Rattle.command_words.specs.declared.command.Command.TheVariants.{Gen, Play, Run}
use Rattle.crgc_ids.specs.declared.Which.{Which}
use Rattle.crgc_io.specs.Fault.{CountRose}
use Rattle.crgc_io.specs.Taken.{Takes}
use Rattle.history_model.specs.Story.{Story}
use Rattle.journal_model.specs.Journals.{journal_of}
use Rattle.script_reader.specs.Scripts.{StandsFor}
use Rattle.script_reader.specs.Valid.{Scripted}
use Rattle.cluster_top.specs.declared.status.Status.{Status}
use Rattle.cluster_top.specs.declared.status.Status.TheVariants.{Done, Limit, NoMemory}

module _ {S K : Type 0} (left : S → Option (List ℕ)) (given : S → List ℕ) (reads : S → ℕ) (writes : K → ℕ)
    (words : List (List ℕ)) (source source' : S) (sink sink' : K) (status : Status) where
  -- a journal that tells a history is reported, where the words ask for that, the source gave the journal, and no read and no write
  -- failed, unless memory runs out
  abbrev pub PlaysWhatIsTold : Type 0
  PlaysWhatIsTold =
      (brief : Bool) (journal : List ℕ) (told : Story) → Spells words (Play brief) → Takes left given source source' journal
      → journal_of journal ≡ Ok told → ¬ CountRose (reads source) (reads source') → ¬ CountRose (writes sink) (writes sink')
      → (status ≡ Done) ⊎ (status ≡ NoMemory)

  -- a script is run to its end, where the words ask for that, the source gave the script, and no read and no write failed, unless a
  -- limit is passed or memory runs out
  abbrev pub RunsWhatIsScripted : Type 0
  RunsWhatIsScripted =
      (workers : ℕ) (brief : Bool) (bytes : List ℕ) (script : Scripted) → Spells words (Run workers brief) → Takes left given source source' bytes
      → StandsFor bytes script → ¬ CountRose (reads source) (reads source') → ¬ CountRose (writes sink) (writes sink')
      → (status ≡ Done) ⊎ (((which : Which) × (status ≡ Limit which)) ⊎ (status ≡ NoMemory))

  -- a script is made, where the words ask for one and no write failed, unless memory runs out
  abbrev pub MakesWhatIsAsked : Type 0
  MakesWhatIsAsked =
      (seed size : ℕ) → Spells words (Gen seed size) → ¬ CountRose (writes sink) (writes sink') → (status ≡ Done) ⊎ (status ≡ NoMemory)

  -- all three
  pub record EndsWell : Type 0 where
    pub plays : PlaysWhatIsTold
    pub runs : RunsWhatIsScripted
    pub makes : MakesWhatIsAsked

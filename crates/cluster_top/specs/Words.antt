-- The words by which a fault line names what is wrong.
use Rattle.std.specs.Prelude.{ℕ, List, ◌++◌, codes}
use Rattle.crgc_ids.specs.declared.Which.{Which}
use Rattle.crgc_ids.specs.declared.Which.TheVariants.{Input, Events, Actors, Delta}
use Rattle.history_model.specs.declared.events.Rule.{Rule}
use Rattle.history_model.specs.declared.events.Rule.TheVariants as rules
use Rattle.journal_player.specs.declared.fault.Cause.{Cause}
use Rattle.journal_player.specs.declared.fault.Cause.TheVariants as causes
use Rattle.script_reader.specs.declared.fault.ScriptFault.{ScriptFault}
use Rattle.script_reader.specs.declared.fault.ScriptFault.TheVariants.{Json, Key, Missing, Kind, Range, UnknownBehaviour}

-- the words of a script's fault, with the name of the object, of the key or of the behaviour
abbrev pub fault_words : ScriptFault → List ℕ
fault_words Json = codes "json"
fault_words (Key object) = codes "key " ++ object
fault_words (Missing key) = codes "missing " ++ key
fault_words (Kind name) = codes "kind " ++ name
fault_words (Range key) = codes "range " ++ key
fault_words (UnknownBehaviour name) = codes "unknown-behaviour " ++ name

-- the word of a limit
abbrev pub limit_word : Which → List ℕ
limit_word Input = codes "input"
limit_word Events = codes "events"
limit_word Actors = codes "actors"
limit_word Delta = codes "delta"

-- the word of a rule of legality
abbrev pub rule_word : Rule → List ℕ
rule_word rules.NoNode = codes "no-node"
rule_word rules.NoActor = codes "no-actor"
rule_word rules.Down = codes "down"
rule_word rules.SameActor = codes "same-actor"
rule_word rules.SameNode = codes "same-node"
rule_word rules.NotRoot = codes "not-root"
rule_word rules.Busy = codes "busy"
rule_word rules.Idle = codes "idle"
rule_word rules.NoMail = codes "no-mail"
rule_word rules.NotHeld = codes "not-held"
rule_word rules.Supervisor = codes "supervisor"
rule_word rules.Blank = codes "blank"
rule_word rules.EmptyQueue = codes "empty-queue"
rule_word rules.Closed = codes "closed"
rule_word rules.NothingAdmitted = codes "nothing-admitted"
rule_word rules.NotOnLink = codes "not-on-link"
rule_word rules.NotCrashed = codes "not-crashed"
rule_word rules.Removed = codes "removed"
rule_word rules.NoBulletin = codes "no-bulletin"

-- the word of what is wrong with a line of a journal
abbrev pub cause_word : Cause → List ℕ
cause_word causes.Header = codes "header"
cause_word causes.Word = codes "word"
cause_word causes.Field = codes "field"
cause_word causes.Extra = codes "extra"
cause_word causes.Differs = codes "differs"
cause_word causes.AfterEnd = codes "after-end"
cause_word (causes.Rule broken) = rule_word broken

-- A text that stands for a script stands for no other, and has no fault.
use Rattle.std.proofs.Common.{◌≡◌, ◌⊎◌, inl, inr, ℕ, List, Some, Result, Ok, Err, refl, sym, ◌∙◌, ap}
use Rattle.serde_json.specs.Data.{Data}
use Rattle.script_reader.specs.declared.fault.Flaw.{Flaw}
use Rattle.script_reader.specs.declared.fault.ScriptFault.TheVariants.{Json, Key, Missing, Kind, Range, UnknownBehaviour}
use Rattle.script_reader.specs.declared.fault.ScriptRead.{ScriptRead}
use Rattle.script_reader.specs.declared.fault.ScriptRead.TheVariants.{Fault, NoMemory}
use Rattle.script_reader.specs.Scripts.{Answers, IsTextOf, StandsFor, script_of}
use Rattle.script_reader.specs.Valid.{Scripted}

one-tree : (bytes : List ℕ) (d e : Data) → IsTextOf d bytes → IsTextOf e bytes → d ≡ e
one-tree bytes d e (_, p) (_, q) = let same : Some d ≡ Some e = sym p ∙ q in cc

one-answer : (a b : Result Scripted Flaw) (d e : Data) → d ≡ e → script_of d ≡ a → script_of e ≡ b → a ≡ b
one-answer a b d e same p q = sym p ∙ ap script_of same ∙ q

no-fault : (bytes : List ℕ) (s : Scripted) (d : Data) (flaw : Flaw) → StandsFor bytes s → IsTextOf d bytes → script_of d ≡ Err flaw → ⊥
no-fault bytes s d flaw (e, text, is) other fault = let same : Ok s ≡ Err flaw = one-answer (Ok s) (Err flaw) e d (one-tree bytes e d text other) is fault in cc

abbrev Read : Scripted → Result Scripted Flaw
Read s = Ok s

same : (s t : Scripted) → Read s ≡ Ok t → t ≡ s
same s t h = let is : s ≡ t = cc in sym is

-- what reading answers of it is the script, or want of memory
pub script-is-read : (bytes : List ℕ) (s : Scripted) (r : Result Scripted ScriptRead) → StandsFor bytes s → Answers bytes r → (r ≡ Ok s) ⊎ (r ≡ Err NoMemory)
script-is-read bytes s (Ok t) (d, text, is) (e, other, js) = inl (ap Ok (same s t (one-answer (Ok s) (Ok t) d e (one-tree bytes d e text other) is js)))
script-is-read bytes s (Err NoMemory) h a = inr refl
script-is-read bytes s (Err (Fault Json)) (d, text, is) a = absurd (a d text)
script-is-read bytes s (Err (Fault (Key w))) h (e, flaw, text, is, _) = absurd (no-fault bytes s e flaw h text is)
script-is-read bytes s (Err (Fault (Missing w))) h (e, flaw, text, is, _) = absurd (no-fault bytes s e flaw h text is)
script-is-read bytes s (Err (Fault (Kind w))) h (e, flaw, text, is, _) = absurd (no-fault bytes s e flaw h text is)
script-is-read bytes s (Err (Fault (Range w))) h (e, flaw, text, is, _) = absurd (no-fault bytes s e flaw h text is)
script-is-read bytes s (Err (Fault (UnknownBehaviour w))) h (e, flaw, text, is, _) = absurd (no-fault bytes s e flaw h text is)

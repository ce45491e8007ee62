-- Numbering a draft by the map of its names.
use Rattle.std.proofs.Common.{◌≡◌, ℕ, List, Option, Result, Ok, Vec, Global, BTreeMap, sym, ◌∙◌, ap}
use Rattle.behaviour_lang.specs.declared.code.Behaviour.{Behaviour}
use Rattle.script_reader.specs.declared.draft.Draft.{Draft}
use Rattle.script_reader.specs.declared.fault.Flaw.{Flaw}
use Rattle.script_reader.specs.declared.fault.Halt.{Halt}
use Rattle.script_reader.specs.declared.fault.Halt.TheVariants as halts
use Rattle.script_reader.specs.Found.{IsNumbering, finds}
use Rattle.script_reader.specs.Gives.{Fails}
use Rattle.script_reader.specs.Numbered.{names_of, number_in, numbered_behaviour, numbered_seed}
use Rattle.script_reader.specs.Scripts.{numbered, whole}
use Rattle.script_reader.specs.Valid.{Scripted}
use Rattle.script_reader.specs.Walk.{◌>>=◌, each}

abbrev pub behaviours_by : Draft → (List ℕ → Option ℕ) → Result (List Behaviour) Flaw
behaviours_by draft number = each (λ _. numbered_behaviour number) draft.behaviours

abbrev pub seeds_by : Draft → (List ℕ → Option ℕ) → List Behaviour → Result Scripted Flaw
seeds_by draft number bs = each (λ _. numbered_seed number) draft.seeds >>= λ ss. Ok (whole draft bs ss)

-- numbering by the map is numbering by the names
pub numbered-map : (draft : Draft) (names : List (List ℕ)) (numbers : BTreeMap (Vec ℕ Global) ℕ) → names_of draft.behaviours ≡ Ok names → IsNumbering numbers names
    → numbered draft ≡ (behaviours_by draft (finds numbers) >>= seeds_by draft (finds numbers))
numbered-map draft names numbers read is =
    ap (λ r. r >>= λ ns. behaviours_by draft (number_in ns) >>= seeds_by draft (number_in ns)) read
    ∙ sym (ap (λ f. behaviours_by draft f >>= seeds_by draft f) (λ i n. is n i))

-- what fails at first fails at all
pub fails_on : {A B : Type 0} (e : Halt) (r : Result A Flaw) (f : A → Result B Flaw) (all : Result B Flaw) → Fails e r → all ≡ (r >>= f) → Fails e all
fails_on (halts.At flaw) r f all h is = is ∙ ap (λ s. s >>= f) h
fails_on halts.NoMemory r f all h is = tt

-- Which command the words of a command line spell.
use Rattle.std.specs.Prelude.{ℕ, ◌≡◌, ◌<◌, ◌≤◌, ◌^◌, ◌⊎◌, Bool, if◌then◌else◌, List, [], ◌∷◌, ◌++◌, codes, decimal, IsPermutation}
use Rattle.command_words.specs.declared.command.Command.{Command}
use Rattle.command_words.specs.declared.command.Command.TheVariants.{Play, Run, Gen}
use Rattle.command_words.specs.declared.setting.Setting.{Setting}
use Rattle.command_words.specs.declared.setting.Setting.TheVariants.{Brief, Workers, Seed, Size}
use Rattle.command_words.specs.declared.setting.TheConstants.{MOST_WORKERS, GREATEST_SIZE}

-- an option's name and its number, in decimal without sign and without leading zeros: as two words, or as one with an
-- equals sign between
abbrev pub IsNamed : List ℕ → ℕ → List (List ℕ) → Type 0
IsNamed name n words = (words ≡ name ∷ decimal n ∷ []) ⊎ (words ≡ (name ++ codes "=" ++ decimal n) ∷ [])

-- the words spell the setting, and its number is in range
abbrev pub IsSetting : Setting → List (List ℕ) → Type 0
IsSetting Brief words = words ≡ codes "--brief" ∷ []
IsSetting (Workers n) words = (n ≤ MOST_WORKERS) × IsNamed (codes "--workers") n words
IsSetting (Seed n) words = (n < 2 ^ 64) × IsNamed (codes "--seed") n words
IsSetting (Size n) words = (1 ≤ n) × (n ≤ GREATEST_SIZE) × IsNamed (codes "--size") n words

-- the words spell the settings, one after the other
abbrev pub AreSettings : List Setting → List (List ℕ) → Type 0
AreSettings [] words = words ≡ []
AreSettings (s ∷ ss) words = (first rest : List (List ℕ)) × (words ≡ first ++ rest) × IsSetting s first × AreSettings ss rest

-- the name of a command
abbrev pub name_of : Command → List ℕ
name_of (Play brief) = codes "play"
name_of (Run workers brief) = codes "run"
name_of (Gen seed size) = codes "gen"

-- its settings
abbrev pub settings_of : Command → List Setting
settings_of (Play brief) = if brief then Brief ∷ [] else []
settings_of (Run workers brief) = Workers workers ∷ (if brief then Brief ∷ [] else [])
settings_of (Gen seed size) = Seed seed ∷ Size size ∷ []

-- the words spell the command: its name, and then its settings, each once, in any order
pub record Spells (words : List (List ℕ)) (c : Command) : Type 0 where
  pub options : List (List ℕ)
  pub settings : List Setting
  pub named : words ≡ name_of c ∷ options
  pub in_any_order : IsPermutation (settings_of c) settings
  pub spelled : AreSettings settings options

-- the numbers of a command are in their options' ranges
abbrev pub IsInRange : Command → Type 0
IsInRange (Play brief) = Unit {0}
IsInRange (Run workers brief) = workers ≤ MOST_WORKERS
IsInRange (Gen seed size) = (1 ≤ size) × (size ≤ GREATEST_SIZE)

-- the words spell some command
abbrev pub IsCommand : List (List ℕ) → Type 0
IsCommand words = (c : Command) × Spells words c

-- the words spell a run with one worker or more
abbrev pub WantsWorkers : List (List ℕ) → Type 0
WantsWorkers words = (workers : ℕ) × (brief : Bool) × Spells words (Run workers brief) × (1 ≤ workers)

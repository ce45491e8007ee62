-- What the code reads off the words; only what is private cites it.
use Rattle.std.specs.Prelude.{ℕ, ◌≡◌, ◌≢◌, ◌<◌, ◌⊎◌, length, slice_index, ◌==◌, ◌&&◌, nat_le, true, false, if◌then◌else◌, List, [], ◌∷◌, codes, decimal, Option, Some, None, option_and_then, option_map}
use Rattle.std.specs.Str.{bytes_eq}
use Rattle.std.specs.Str.Parse.{digits_value}
use Rattle.command_words.specs.declared.command.Command.{Command}
use Rattle.command_words.specs.declared.command.Command.TheVariants.{Play, Run, Gen}
use Rattle.command_words.specs.declared.reading.Settings.{Settings}
use Rattle.command_words.specs.declared.reading.Settings.TheVariants.{Empty, One, Two}
use Rattle.command_words.specs.declared.setting.Setting.{Setting}
use Rattle.command_words.specs.declared.setting.Setting.TheVariants.{Brief, Workers, Seed, Size}
use Rattle.command_words.specs.declared.setting.TheConstants.{MOST_WORKERS, GREATEST_SIZE}

-- the word is not empty and begins with no plus, nor with a zero before other bytes
abbrev pub HasPlainStart : List ℕ → Type 0
HasPlainStart word = (0 < length word) × (slice_index word 0 ≢ 43) × ((length word ≡ 1) ⊎ (slice_index word 0 ≢ 48))

-- the number from low to high that is spelled so
unfoldable pub number_of : ℕ → ℕ → List ℕ → Option ℕ
number_of low high word =
    let n = digits_value 10 word in if bytes_eq (decimal n) word && (nat_le low n && nat_le n high) then Some n else None

-- the texts before and after the first equals sign
abbrev pub cut_at_sign : List ℕ → Option (List ℕ × List ℕ)
cut_at_sign [] = None
cut_at_sign (b ∷ bs) = if b == 61 then Some ([], bs) else option_map (λ p. (b ∷ p.0, p.1)) (cut_at_sign bs)

-- the setting of the option with this name and value
unfoldable pub setting_of : List ℕ → List ℕ → Option Setting
setting_of name value =
    if bytes_eq name (codes "--workers") then option_map Workers (number_of 0 MOST_WORKERS value)
    else (if bytes_eq name (codes "--seed") then option_map Seed (number_of 0 18446744073709551615 value)
    else (if bytes_eq name (codes "--size") then option_map Size (number_of 1 GREATEST_SIZE value) else None))

-- a setting that takes the next word as its value
abbrev pub with_next : List ℕ → List (List ℕ) → Option (Setting × List (List ℕ))
with_next name [] = None
with_next name (value ∷ rest) = option_map (λ s. (s, rest)) (setting_of name value)

-- the setting that the first word begins, by whether it has an equals sign
abbrev pub by_sign : Option (List ℕ × List ℕ) → List ℕ → List (List ℕ) → Option (Setting × List (List ℕ))
by_sign (Some p) word rest = option_map (λ s. (s, rest)) (setting_of p.0 p.1)
by_sign None word rest = if bytes_eq word (codes "--brief") then Some (Brief, rest) else with_next word rest

-- the setting with which the words begin, and the words after it
unfoldable pub first_setting : List (List ℕ) → Option (Setting × List (List ℕ))
first_setting [] = None
first_setting (word ∷ rest) = by_sign (cut_at_sign word) word rest

abbrev pub two_in : Setting → Setting → List (List ℕ) → Option Settings
two_in s t [] = Some (Two s t)
two_in s t (word ∷ rest) = None

abbrev pub more_in : Setting → List (List ℕ) → Option Settings
more_in s [] = Some (One s)
more_in s (word ∷ rest) = option_and_then (λ p. two_in s p.0 p.1) (first_setting (word ∷ rest))

-- the settings that the words spell, where they are two at most
abbrev pub settings_in : List (List ℕ) → Option Settings
settings_in [] = Some Empty
settings_in (word ∷ rest) = option_and_then (λ p. more_in p.0 p.1) (first_setting (word ∷ rest))

abbrev pub play_of : Settings → Option Command
play_of Empty = Some (Play false)
play_of (One Brief) = Some (Play true)
play_of _ = None

abbrev pub run_of : Settings → Option Command
run_of (One (Workers workers)) = Some (Run workers false)
run_of (Two (Workers workers) Brief) = Some (Run workers true)
run_of (Two Brief (Workers workers)) = Some (Run workers true)
run_of _ = None

abbrev pub gen_of : Settings → Option Command
gen_of (Two (Seed seed) (Size size)) = Some (Gen seed size)
gen_of (Two (Size size) (Seed seed)) = Some (Gen seed size)
gen_of _ = None

-- the command of this name with these settings
unfoldable pub command_of : List ℕ → Settings → Option Command
command_of name settings =
    if bytes_eq name (codes "play") then play_of settings
    else (if bytes_eq name (codes "run") then run_of settings
    else (if bytes_eq name (codes "gen") then gen_of settings else None))

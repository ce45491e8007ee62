-- What one word of a line says.
use Rattle.std.specs.Prelude.{ℕ, ◌==◌, ◌&&◌, if◌then◌else◌, nat_lt, List, [], ◌∷◌, drop, slice_get, Option, Some, None, decimal, option_and_then, option_map}
use Rattle.std.specs.List.{slice_split}
use Rattle.std.specs.Str.{bytes_eq}
use Rattle.std.specs.Str.Parse.{digits_value}
use Rattle.crgc_ids.specs.Actor.{Actor}
use Rattle.crgc_ids.specs.declared.limits.TheConstants.{MOST_ACTORS}

-- the pieces between the separators; there is at least one
unfoldable pub pieces : ℕ → List ℕ → List (List ℕ)
pieces separator bytes = slice_split (λ b. b == separator) bytes

-- Some exactly where the list is empty
abbrev pub nothing_left : List (List ℕ) → Option (Unit {0})
nothing_left [] = Some tt
nothing_left (_ ∷ _) = None

-- the number below the limit that is spelled so
unfoldable pub number_of : ℕ → List ℕ → Option ℕ
number_of limit word =
    if nat_lt (digits_value 10 word) limit && bytes_eq (decimal (digits_value 10 word)) word then Some (digits_value 10 word) else None

-- what the first word says, as a number below the limit
abbrev pub first_number : ℕ → List (List ℕ) → Option ℕ
first_number limit words = option_and_then (number_of limit) (slice_get words 0)

-- the actor with this node and this serial, as they are spelled
abbrev pub actor_of_parts : List (List ℕ) → Option Actor
actor_of_parts parts =
    option_and_then
    (λ n. option_and_then
    (λ s. option_map (λ _. record { node = n; serial = s }) (nothing_left (drop 1 (drop 1 parts))))
    (first_number MOST_ACTORS (drop 1 parts)))
    (first_number 16 parts)

-- the actor that is spelled so: its node and its serial on the two sides of the one dot
unfoldable pub actor_of : List ℕ → Option Actor
actor_of word = actor_of_parts (pieces 46 word)

-- what the first word says, as an actor
abbrev pub first_actor : List (List ℕ) → Option Actor
first_actor words = option_and_then actor_of (slice_get words 0)

-- Some exactly where the first word is this text
abbrev pub first_name : List ℕ → List (List ℕ) → Option (Unit {0})
first_name text words = option_and_then (λ word. if bytes_eq word text then Some tt else None) (slice_get words 0)

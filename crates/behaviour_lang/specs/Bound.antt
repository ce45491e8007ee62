-- The names that are bound, as one list of names and actors. `self` stands in it as the local name of that spelling.
use Rattle.std.specs.Prelude.{ℕ, ◌+◌, ◌==◌, Bool, true, false, not, codes, if◌then◌else◌, List, [], ◌∷◌, ◌++◌, map, Option, Some, None}
use Rattle.std.specs.List.{filter}
use Rattle.std.specs.Ordering.{is_lt, nat_cmp}
use Rattle.std.specs.Cmp.Lexicographic.{slice_cmp}
use Rattle.std.specs.Str.{bytes_eq}
use Rattle.crgc_ids.specs.Actor.{Actor}
use Rattle.behaviour_lang.specs.declared.instr.Name.{Name}
use Rattle.behaviour_lang.specs.declared.instr.Name.TheVariants.{Own, Message, Local}

-- the message names come first, by their numbers; then the local names, which rise as texts
abbrev pub Names : Type 0
Names = List (Name × Actor)

-- whether x means y, a name that stands in the list
abbrev pub means : Name → Name → Bool
means Own (Local y) = bytes_eq (codes "self") y
means (Message j) (Message k) = j == k
means (Local x) (Local y) = bytes_eq x y
means x y = false

-- the actor to which x is bound
abbrev pub bound : Name → Names → Option Actor
bound x [] = None
bound x ((y, a) ∷ names) = if means x y then Some a else bound x names

-- all names but x
abbrev pub without : Name → Names → Names
without x names = filter (λ row. not (means x row.0)) names

-- whether the local name x comes before y
abbrev pub is_before : List ℕ → Name → Bool
is_before x (Local y) = is_lt (slice_cmp nat_cmp x y)
is_before x y = false

-- the local name x is bound to a, in its place
abbrev pub bind : List ℕ → Actor → Names → Names
bind x a [] = (Local x, a) ∷ []
bind x a ((y, b) ∷ names) = if is_before x y then (Local x, a) ∷ (y, b) ∷ names else (y, b) ∷ bind x a names

-- whether it is a message name that is bound
abbrev pub is_message : Name × Actor → Bool
is_message (Message k, a) = true
is_message (x, a) = false

-- the actor of the first message name that is bound
abbrev pub first_message : Names → Option Actor
first_message [] = None
first_message (row ∷ names) = if is_message row then Some row.1 else first_message names

-- the names without that first one
abbrev pub past_first_message : Names → Names
past_first_message [] = []
past_first_message (row ∷ names) = if is_message row then names else row ∷ past_first_message names

-- the references of a message, bound in order to the message names from the k-th on
abbrev pub numbered : ℕ → List Actor → Names
numbered k [] = []
numbered k (r ∷ refs) = (Message k, r) ∷ numbered (k + 1) refs

-- the local names of an actor
abbrev pub local_names : List (List ℕ × Actor) → Names
local_names locals = map (λ row. (Local row.0, row.1)) locals

-- the names with which a turn begins: those of the references, and the actor's own
abbrev pub names_at_start : List Actor → List (List ℕ × Actor) → Names
names_at_start refs locals = numbered 0 refs ++ local_names locals

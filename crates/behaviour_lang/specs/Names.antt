-- How names are spelled. A text is the list of its bytes.
use Rattle.std.specs.Prelude.{ℕ, ◌+◌, ◌-◌, ◌==◌, ◌&&◌, ◌||◌, Bool, false, not, nat_le, nat_lt, codes, if◌then◌else◌, List, [], ◌∷◌, ◌++◌, length, replicate, Option, Some, None}
use Rattle.std.specs.List.{list_all}
use Rattle.std.specs.Str.{bytes_eq}

-- `a` to `z`
abbrev pub is_letter : ℕ → Bool
is_letter b = nat_le 97 b && nat_le b 122

-- `0` to `9`
abbrev pub is_digit : ℕ → Bool
is_digit b = nat_le 48 b && nat_le b 57

-- a letter, a digit or `_`
abbrev pub is_name_byte : ℕ → Bool
is_name_byte b = is_letter b || is_digit b || (b == 95)

-- a behaviour's name: 1 to 32 such bytes
unfoldable pub is_behaviour_name : List ℕ → Bool
is_behaviour_name name = nat_lt 0 (length name) && nat_le (length name) 32 && list_all is_name_byte name

abbrev pub has_first_letter : List ℕ → Bool
has_first_letter [] = false
has_first_letter (b ∷ bs) = is_letter b

-- `m` followed by digits alone, at least one
abbrev pub is_numbered : List ℕ → Bool
is_numbered [] = false
is_numbered (b ∷ digits) = (b == 109) && nat_lt 0 (length digits) && list_all is_digit digits

-- a local name: 1 to 16 such bytes, the first a letter; not `self`, and not `m` followed by digits alone
unfoldable pub is_local_name : List ℕ → Bool
is_local_name name =
    nat_le (length name) 16 && has_first_letter name && list_all is_name_byte name && not (bytes_eq name (codes "self")) && not (is_numbered name)

-- a text that is filled up with zeros to 16 bytes, as a local name stands in place
abbrev pub padded : List ℕ → List ℕ
padded text = text ++ replicate (16 - length text) 0

-- the number of two digits from 10 to 15, with nothing after them
abbrev pub number_from_10 : ℕ → ℕ → List ℕ → Option ℕ
number_from_10 t u rest = if (t == 49) && nat_le 48 u && nat_le u 53 && (length rest == 0) then Some (u - 48 + 10) else None

-- the number from 0 to 15 that is spelled so
abbrev pub number_below_16 : List ℕ → Option ℕ
number_below_16 [] = None
number_below_16 (d ∷ []) = if is_digit d then Some (d - 48) else None
number_below_16 (t ∷ u ∷ rest) = if is_digit t then number_from_10 t u rest else None

-- the k of a message name: `m0` to `m15`
unfoldable pub message_number : List ℕ → Option ℕ
message_number [] = None
message_number (b ∷ digits) = if b == 109 then number_below_16 digits else None

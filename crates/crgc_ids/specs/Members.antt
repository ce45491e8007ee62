-- The members of a list.
use Rattle.std.specs.Prelude.{◌≡◌, ◌⊎◌, List, [], ◌∷◌}

-- x is a member of the list
abbrev pub IsAmong : {A : Type 0} → A → List A → Type 0
IsAmong x [] = ⊥
IsAmong x (y ∷ ys) = (x ≡ y) ⊎ IsAmong x ys

-- each member of the first list is one of the second
abbrev pub IsPart : {A : Type 0} → List A → List A → Type 0
IsPart {A} xs ys = (x : A) → IsAmong x xs → IsAmong x ys

-- The greatest part of a list whose members are all fit for that part. `fit xs x` says whether x may stay among xs.
use Rattle.std.specs.Prelude.{◌≡◌, ℕ, zero, suc, Bool, true, List, length}
use Rattle.std.specs.List.{filter}
use Rattle.crgc_ids.specs.Members.{IsAmong, IsPart}

-- takes away the members that are not fit for the list, n times in turn
abbrev pub prune : {A : Type 0} → (List A → A → Bool) → ℕ → List A → List A
prune fit zero xs = xs
prune fit (suc n) xs = prune fit n (filter (fit xs) xs)

-- as often as the list is long, so nothing is left to take away
unfoldable pub greatest : {A : Type 0} → (List A → A → Bool) → List A → List A
greatest fit xs = prune fit (length xs) xs

-- each member of the list is fit for it
abbrev pub AreFit : {A : Type 0} → (List A → A → Bool) → List A → Type 0
AreFit {A} fit xs = (x : A) → IsAmong x xs → fit xs x ≡ true

-- what may stay in a list may stay in a greater one
abbrev pub IsMonotone : {A : Type 0} → (List A → A → Bool) → Type 0
IsMonotone {A} fit = (xs ys : List A) (x : A) → IsPart xs ys → fit xs x ≡ true → fit ys x ≡ true
